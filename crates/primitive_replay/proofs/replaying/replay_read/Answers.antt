use Rattle.std.proofs.Common.{Err, ap, refl}
use Rattle.primitive_replay.proofs.TurnLemmas.{done_ends, fault_ends, line_next, one_leads}
use Rattle.primitive_replay.proofs.replaying.replay_read.Goals as goal

pub returns-in-Ok-Some-clause-next : goal.returns-in-Ok-Some-clause-next
returns-in-Ok-Some-clause-next g c =
    let next = rw c.in-Ok-Some.field-0-is at c.in-Ok-Some.ensures.next in
    line_next c.args.place c.args.reading.now c.take_line.new.reading c.args.entity.now c.take_line.new.entity _ c.next_line.new.held (g.S.Source.left c.next_line.new.src)
    _ _ _ _ _ _
    _ c.take_line.result c.in-Ok-Some.ensures.few (one_leads c.args.place _ _ _ next) c.take_line.ensures.takes

pub returns-in-Ok-None-clause-next : goal.returns-in-Ok-None-clause-next
returns-in-Ok-None-clause-next g c =
    let next = rw c.in-Ok-None.field-0-is at c.in-Ok-None.ensures.next in
    let end = rw c.in-Ok-None.field-0-is at c.in-Ok-None.ensures.end in
    done_ends c.args.place c.args.reading.now c.args.entity.now _ (g.S.Source.left c.next_line.new.src) _ _ _ next (end refl) c.requires.put

pub returns-in-Err-clause-next : goal.returns-in-Err-clause-next
returns-in-Err-clause-next g c = rw c.fault_status.ensures
    (fault_ends c.in-Err.fault c.args.place c.args.reading.now c.args.entity.now _ c.next_line.new.held (g.S.Source.left c.next_line.new.src)
    _ _ _
    c.in-Err.ensures.few c.in-Err.ensures.next (λ e. c.in-Err.ensures.waiting (ap Err e)) (λ e. c.requires.put))
