use Rattle.primitive_replay.proofs.TurnLemmas.{takes_empty, takes_reading, takes_request}
use Rattle.primitive_replay.proofs.replaying.take_line.Goals as goal

pub returns-in-Empty-clause-takes : goal.returns-in-Empty-clause-takes
returns-in-Empty-clause-takes g c = rw c.in-Empty.is
    (takes_empty c.args.reading.now c.args.entity.now _ c.args.waiting.now.items _)

pub returns-in-Reading-clause-takes : goal.returns-in-Reading-clause-takes
returns-in-Reading-clause-takes g c = rw c.in-Reading.is
    (takes_reading c.args.reading.now c.in-Reading.moment c.args.entity.now _ c.args.waiting.now.items _)

pub returns-in-Ask-clause-takes : goal.returns-in-Ask-clause-takes
returns-in-Ask-clause-takes g c = rw c.in-Ask.is
    (takes_request c.args.reading.now c.args.entity.now c.put_request-reply.new.entity _ _ _ _ _ _
    c.in-Ask.request c.put_request-reply.result c.say_reply.result c.put_request-reply.ensures c.say_reply.ensures.says)
