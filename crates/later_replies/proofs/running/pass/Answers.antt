use Rattle.std.proofs.Common.{◌+◌, Bool, inl, inr, refl, sym, ap, true≢false, ◌∙◌}
use Rattle.m2m_value.specs.Spelling.{capped}
use Rattle.later_replies.specs.Runs.{counted_then}
use Rattle.later_replies.proofs.running.pass.Goals as goal

pub run_if_room-requires : goal.run_if_room-requires
run_if_room-requires g c = c.requires c.if-is_run.true

pub returns-then-is_run-clause-passed : goal.returns-then-is_run-clause-passed
returns-then-is_run-clause-passed g c = inl (c.if-is_run.true, c.run_if_room.ensures.run)

pub returns-then-is_run-clause-bounded : goal.returns-then-is_run-clause-bounded
returns-then-is_run-clause-bounded g c = λ run over. c.run_if_room.ensures.bounded refl over

pub returns-else-is_run-clause-passed : goal.returns-else-is_run-clause-passed
returns-else-is_run-clause-passed g c = inr (c.if-is_run.false, refl, refl)

pub returns-else-is_run-clause-bounded : goal.returns-else-is_run-clause-bounded
returns-else-is_run-clause-bounded g c = λ run over. absurd (true≢false (sym run ∙ c.if-is_run.false))

pub returns-then-is_run-clause-kept : goal.returns-then-is_run-clause-kept
returns-then-is_run-clause-kept g c =
    c.saturating_add.ensures ∙ ap (λ n. capped (c.args.kept + n)) c.result_size.ensures
    ∙ ap (λ (b : Bool). counted_then b c.args.kept c.run_if_room.new.entry) (sym c.if-is_run.true)

pub returns-else-is_run-clause-kept : goal.returns-else-is_run-clause-kept
returns-else-is_run-clause-kept g c =
    ap (λ (b : Bool). counted_then b c.args.kept c.args.entry.now) (sym c.if-is_run.false)
