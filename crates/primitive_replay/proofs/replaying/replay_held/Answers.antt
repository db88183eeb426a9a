use Rattle.std.proofs.Common.{Err, ap}
use Rattle.primitive_replay.proofs.TurnLemmas.{fault_ends, keeps_all, line_next, one_leads}
use Rattle.primitive_replay.proofs.replaying.replay_held.Goals as goal

pub returns-in-Ok-Some-clause-next : goal.returns-in-Ok-Some-clause-next
returns-in-Ok-Some-clause-next g c = λ left.
    let next = rw c.in-Ok-Some.field-0-is at c.in-Ok-Some.ensures.next _ left (keeps_all _) in
    line_next c.args.place c.args.reading.now c.take_line.new.reading c.args.entity.now c.take_line.new.entity _ c.take_ended.new.held left
    _ _ _ _ _ _
    _ c.take_line.result c.in-Ok-Some.ensures.few (one_leads c.args.place _ _ _ next) c.take_line.ensures.takes

pub returns-in-Err-clause-next : goal.returns-in-Err-clause-next
returns-in-Err-clause-next g c = λ left. rw c.fault_status.ensures
    (fault_ends c.in-Err.fault c.args.place c.args.reading.now c.args.entity.now _ c.take_ended.new.held left
    _ _ _
    c.in-Err.ensures.few (c.in-Err.ensures.next _ left (keeps_all _))
    (λ e. absurd (c.in-Err.ensures.other (ap Err e))) (λ e. absurd (c.in-Err.ensures.other (ap Err e))))
