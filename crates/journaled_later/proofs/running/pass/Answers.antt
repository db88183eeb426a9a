use Rattle.std.proofs.Common.{Bool, inr, refl, sym, ap, true≢false, ◌∙◌}
use Rattle.journaled_later.proofs.RunLemmas.{none_recorded}
use Rattle.later_replies.specs.Runs.{counted_then}
use Rattle.journaled_later.proofs.running.pass.Goals as goal

pub run_if_room-requires : goal.run_if_room-requires
run_if_room-requires g c = c.requires c.if-is_run.true

pub returns-else-is_run-clause-passed : goal.returns-else-is_run-clause-passed
returns-else-is_run-clause-passed g c = inr (c.if-is_run.false, refl, refl)

pub returns-else-is_run-clause-bounded : goal.returns-else-is_run-clause-bounded
returns-else-is_run-clause-bounded g c = λ run over. absurd (true≢false (sym run ∙ c.if-is_run.false))

pub returns-else-is_run-clause-records : goal.returns-else-is_run-clause-records
returns-else-is_run-clause-records g c = none_recorded c.args.entry.now c.args.entity.now c.args.lines.now.items

pub returns-else-is_run-clause-kept : goal.returns-else-is_run-clause-kept
returns-else-is_run-clause-kept g c =
    ap (λ (b : Bool). counted_then b c.args.kept c.args.entry.now) (sym c.if-is_run.false)
