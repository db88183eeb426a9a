use Rattle.std.proofs.Common.{true≢false, sym, ◌∙◌}
use Rattle.std.proofs.lemmas.Bool.{lt-ltb}
use Rattle.accepted_requests.specs.Sizes.{most_kept}
use Rattle.journaled_later.proofs.RunLemmas.{on_each}
use Rattle.journaled_later.proofs.running.run_if_room.Goals as goal

pub returns-then-leave_no_room-clause-bounded : goal.returns-then-leave_no_room-clause-bounded
returns-then-leave_no_room-clause-bounded g c = on_each _ _ (λ u starved run over. starved) c.starve.result c.starve.ensures.starved

pub returns-else-leave_no_room-clause-bounded : goal.returns-else-leave_no_room-clause-bounded
returns-else-leave_no_room-clause-bounded g c =
    on_each _ _ (λ u ran run over. absurd (true≢false (sym (lt-ltb most_kept c.args.kept over) ∙ sym c.leave_no_room.ensures ∙ c.if-leave_no_room.false)))
    c.run.result c.run.ensures.run
