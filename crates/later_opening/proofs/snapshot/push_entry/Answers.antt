use Rattle.std.proofs.Common.{rules, sym, ◌∙◌}
use Rattle.later_opening.proofs.SnapshotLemmas.{entry_put, entry_unfit, entry_unkept, entry_unread, on_ok}
use Rattle.later_opening.proofs.snapshot.push_entry.Goals as goal

pub returns-then-not-fits_behind-clause-unkept : goal.returns-then-not-fits_behind-clause-unkept
returns-then-not-fits_behind-clause-unkept c = λ fault. entry_unfit _ c.args.entry.now (sym c.fits_behind.ensures ∙ c.if-not-fits_behind.true)

pub returns-in_err-push_accepted-clause-unkept : goal.returns-in_err-push_accepted-clause-unkept
returns-in_err-push_accepted-clause-unkept c = λ fault. entry_unkept _ c.args.entry.now (c.in_err-push_accepted.ensures.unkept (search rules))

pub returns-clause-put : goal.returns-clause-put
returns-clause-put c =
    on_ok _ _ (λ result.
    entry_put c.args.moment c.args.last c.args.entry.now c.args.text.now.items c.push_accepted.new.text.items c.push_result.new.text.items (sym c.fits_behind.ensures ∙ c.if-not-fits_behind.false)
    c.in_ok-push_accepted.ensures.written c.in_ok-push_accepted.ensures.reads_back result) c.push_result.result c.push_result.ensures.put

pub returns-clause-unkept : goal.returns-clause-unkept
returns-clause-unkept c = λ fault. entry_unread _ c.args.entry.now (c.push_result.ensures.unkept fault)
