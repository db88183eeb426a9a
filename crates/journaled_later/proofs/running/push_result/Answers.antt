use Rattle.std.proofs.Common.{◌≡◌, Some, None, Option, refl, ap, sym, subst, ◌∙◌}
use Rattle.std.specs.Prelude.{option_map}
use Rattle.primitive_json.specs.declared.reply.ReplyParts.{ReplyParts}
use Rattle.later_opening.specs.Snapshots.{AppendsResultOf}
use Rattle.journaled_later.proofs.RunLemmas.{result_put}
use Rattle.journaled_later.proofs.running.push_result.Goals as goal

-- it has none
pub returns-in_default : goal.returns-in_default
returns-in_default c =
    let lines = c.args.lines.now.items in
    let none : None ≡ c.args.entry.now.reply = sym (ap (option_map (λ r. r.now)) c.in_default.is) ∙ c.reply.ensures in
    subst (λ (o : Option ReplyParts). AppendsResultOf c.args.entry.now.number o lines lines) none refl

pub returns-in-Ok : goal.returns-in-Ok
returns-in-Ok c =
    let some : Some c.in-Some.reply.now ≡ c.args.entry.now.reply = sym (ap (option_map (λ r. r.now)) c.in-Some.is) ∙ c.reply.ensures in
    result_put c.args.entry.now c.number.result c.in-Some.reply.now c.args.lines.now.items c.push_ran.new.text.items c.number.ensures some c.in-Ok.ensures.written c.in-Ok.ensures.reads_back
