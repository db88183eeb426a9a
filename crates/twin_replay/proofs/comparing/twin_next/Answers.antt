use Rattle.std.proofs.Common.{Err, ap, refl}
use Rattle.twin_replay.proofs.LineLemmas.{end_ends, fault_ends, line_next}
use Rattle.twin_replay.proofs.comparing.twin_next.Goals as goal

pub returns-in-Ok-Some-clause-next : goal.returns-in-Ok-Some-clause-next
returns-in-Ok-Some-clause-next g c =
    let next = rw c.in-Ok-Some.field-0-is at c.in-Ok-Some.ensures.next in
    line_next c.args.place c.args.sides.now c.say_line.new.sides _ c.next_line.new.held (g.S.Source.left c.next_line.new.src) _ _
    _ c.say_line.result c.in-Ok-Some.ensures.few next c.say_line.ensures.says

pub returns-in-Ok-None-clause-next : goal.returns-in-Ok-None-clause-next
returns-in-Ok-None-clause-next g c =
    let next = rw c.in-Ok-None.field-0-is at c.in-Ok-None.ensures.next in
    let end = rw c.in-Ok-None.field-0-is at c.in-Ok-None.ensures.end in
    rw c.end_status.ensures
    (end_ends c.args.place c.args.sides.now _ (g.S.Source.left c.next_line.new.src) _ next (end refl))

pub returns-in-Err-clause-next : goal.returns-in-Err-clause-next
returns-in-Err-clause-next g c = rw c.fault_status.ensures
    (fault_ends c.in-Err.fault c.args.place c.args.sides.now _ c.next_line.new.held (g.S.Source.left c.next_line.new.src) _
    c.in-Err.ensures.few c.in-Err.ensures.next (λ e. c.in-Err.ensures.waiting (ap Err e)))
