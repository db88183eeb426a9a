use Rattle.std.proofs.Common.{false, true≢false, sym, ap, ◌∙◌}
use Rattle.std.proofs.lemmas.Bool.{lt-ltb}
use Rattle.accepted_requests.specs.Sizes.{most_kept}
use Rattle.later_replies.proofs.running.run_if_room.Goals as goal

pub returns-then-leave_no_room-clause-bounded : goal.returns-then-leave_no_room-clause-bounded
returns-then-leave_no_room-clause-bounded g c = λ run over. c.starve.ensures.starved

pub returns-else-leave_no_room-clause-bounded : goal.returns-else-leave_no_room-clause-bounded
returns-else-leave_no_room-clause-bounded g c = λ run over.
    absurd (true≢false (sym (lt-ltb most_kept c.args.kept over) ∙ sym c.leave_no_room.ensures ∙ c.if-leave_no_room.false))
