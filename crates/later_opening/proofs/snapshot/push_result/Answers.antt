use Rattle.std.proofs.Common.{◌≡◌, Some, sym, ap, ◌∙◌}
use Rattle.std.specs.Prelude.{option_map}
use Rattle.later_opening.proofs.SnapshotLemmas.{no_result, on_both_ok, result_put, result_unkept}
use Rattle.later_opening.proofs.snapshot.push_result.Goals as goal

pub returns-in-Some-clause-put : goal.returns-in-Some-clause-put
returns-in-Some-clause-put c =
    let some : Some c.in-Some.reply.now ≡ c.args.entry.now.reply = sym (ap (option_map (λ r. r.now)) c.in-Some.is) ∙ c.reply.ensures in
    on_both_ok _ _ _ (λ put back. result_put c.args.entry.now c.number.result c.in-Some.reply.now c.args.text.now.items c.push_ran.new.text.items c.number.ensures some put back)
    c.push_ran.result c.push_ran.ensures.written c.push_ran.ensures.reads_back

pub returns-in-Some-clause-unkept : goal.returns-in-Some-clause-unkept
returns-in-Some-clause-unkept c = λ fault.
    let some : Some c.in-Some.reply.now ≡ c.args.entry.now.reply = sym (ap (option_map (λ r. r.now)) c.in-Some.is) ∙ c.reply.ensures in
    result_unkept c.args.entry.now c.number.result c.in-Some.reply.now c.number.ensures some (c.push_ran.ensures.unkept fault)

pub returns-in-None-clause-put : goal.returns-in-None-clause-put
returns-in-None-clause-put c = no_result c.args.entry.now c.args.text.now.items (sym (ap (option_map (λ r. r.now)) c.in-None.is) ∙ c.reply.ensures)
