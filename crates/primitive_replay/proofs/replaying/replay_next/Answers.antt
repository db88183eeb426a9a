use Rattle.primitive_replay.proofs.TurnLemmas.{put_fails, put_next}
use Rattle.primitive_replay.proofs.replaying.replay_next.Goals as goal

pub returns-in-Some-clause-next : goal.returns-in-Some-clause-next
returns-in-Some-clause-next g c = c.replay_held.ensures.next (g.S.Source.left c.args.input.now)

pub returns-in-Err-clause-next : goal.returns-in-Err-clause-next
returns-in-Err-clause-next g c =
    put_fails c.args.place c.args.reading.now c.args.entity.now c.args.held.now (g.S.Source.left c.args.input.now) _ _ _ _ _
    c.end_held.ensures.few c.in-Err.ensures.some c.in-Err.ensures.err

pub returns-in-Ok-clause-next : goal.returns-in-Ok-clause-next
returns-in-Ok-clause-next g c =
    put_next c.args.place c.args.reading.now c.replay_read.new.reading c.args.entity.now c.replay_read.new.entity _ _ _ _ _ _ _ _ _ c.replay_read.result
    c.in-Ok.ensures.ok c.replay_read.ensures.next
