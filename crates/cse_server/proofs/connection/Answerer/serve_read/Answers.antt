use Rattle.std.proofs.Common.{refl}
use Rattle.cse_server.specs.Outside.{link_told, outside, sink_told}
use Rattle.http_frames.specs.Inbox.{stream_of}
use Rattle.cse_server.proofs.NextLemmas.{given_leads, given_little, reads_little}
use Rattle.cse_server.proofs.TurnLemmas.{message_next, stops_end, stops_fault, stops_starved, stops_refused}
use Rattle.cse_server.proofs.connection.Answerer.serve_read.Goals as goal

pub returns-in-Ok-Message-clause-next : goal.returns-in-Ok-Message-clause-next
returns-in-Ok-Message-clause-next g c =
    let next = rw c.in-Ok-Message.field-0-is at c.in-Ok-Message.ensures.next in
    let old =
    outside (g.X.Source.left c.read_next.new.conn) (sink_told (g.X.Sink.written c.args.conn.now) (g.X.Sink.puts c.args.conn.now)) (g.C.Clock.readings c.args.clock.now)
    (link_told (g.L.Link.exchanges c.args.link.now) (g.L.Link.faults c.args.link.now)) in
    let new =
    outside (g.X.Source.left c.answer_frame.new.conn) (sink_told (g.X.Sink.written c.answer_frame.new.conn) (g.X.Sink.puts c.answer_frame.new.conn)) (g.C.Clock.readings c.answer_frame.new.clock)
    (link_told (g.L.Link.exchanges c.answer_frame.new.link) (g.L.Link.faults c.answer_frame.new.link)) in
    rw c.answer_frame.ensures.inbox
    (message_next (g.W.Replier.rule c.args.self.now.replier.now) g.D.Desk.grown c.args.place c.args.seat.now c.answer_frame.new.seat _ _
    (stream_of c.args.rooms.now.inbox.held (g.X.Source.left c.args.conn.now)) (g.X.Source.left c.answer_frame.new.conn) c.read_next.new.inbox.held old new
    c.in-Ok-Message.frame c.answer_frame.result _ next.refused
    (next.small c.requires.few)
    (rw c.answer_frame.ensures.left (given_little _ _ _ _ _ next.message c.requires.few))
    (rw c.answer_frame.ensures.left (given_leads _ _ _ _ _ next.message))
    (rw (← c.read_next.ensures.written, ← c.read_next.ensures.puts) c.answer_frame.ensures.answers))

pub returns-in-Ok-Message-clause-few : goal.returns-in-Ok-Message-clause-few
returns-in-Ok-Message-clause-few g c =
    let next = rw c.in-Ok-Message.field-0-is at c.in-Ok-Message.ensures.next in
    rw c.answer_frame.ensures.inbox (next.small c.requires.few)

pub returns-in-Ok-End-clause-next : goal.returns-in-Ok-End-clause-next
returns-in-Ok-End-clause-next g c =
    let next = rw c.in-Ok-End.field-0-is at c.in-Ok-End.ensures.next in
    rw (c.read_next.ensures.written, c.read_next.ensures.puts) (stops_end (g.W.Replier.rule c.args.self.now.replier.now) g.D.Desk.grown g.met.D.Desk.grown_by_nothing c.args.place c.args.seat.now _ _ _ _ _ _ _ _ next.kept (next.small c.requires.few) (next.end refl).0 (next.end refl).1)

pub returns-in-Err-NoFrame-clause-next : goal.returns-in-Err-NoFrame-clause-next
returns-in-Err-NoFrame-clause-next g c =
    let next = rw c.in-Err-NoFrame.field-0-is at c.in-Err-NoFrame.ensures.next in
    rw (c.end_refused.ensures.left, ← c.read_next.ensures.written, ← c.read_next.ensures.puts) (stops_refused (g.W.Replier.rule c.args.self.now.replier.now) g.D.Desk.grown g.met.D.Desk.grown_by_nothing c.args.place c.args.seat.now _ _ _ _ _ _ _ _ _ _ c.end_refused.result next.kept (next.small c.requires.few) (next.no_frame c.requires.still_open refl) c.end_refused.ensures.refuses)

pub returns-in-Err-ReadFault-clause-next : goal.returns-in-Err-ReadFault-clause-next
returns-in-Err-ReadFault-clause-next g c =
    let next = rw c.in-Err-ReadFault.field-0-is at c.in-Err-ReadFault.ensures.next in
    rw (c.read_next.ensures.written, c.read_next.ensures.puts) (stops_fault (g.W.Replier.rule c.args.self.now.replier.now) g.D.Desk.grown g.met.D.Desk.grown_by_nothing c.args.place c.args.seat.now _ _ _ _ _ _ _ _ next.kept (next.small c.requires.few) (next.waiting refl) c.requires.put)

pub returns-in-Err-OutOfMemory-clause-next : goal.returns-in-Err-OutOfMemory-clause-next
returns-in-Err-OutOfMemory-clause-next g c =
    let next = rw c.in-Err-OutOfMemory.field-0-is at c.in-Err-OutOfMemory.ensures.next in
    rw (c.read_next.ensures.written, c.read_next.ensures.puts) (stops_starved (g.W.Replier.rule c.args.self.now.replier.now) g.D.Desk.grown g.met.D.Desk.grown_by_nothing c.args.place c.args.seat.now _ _ _ _ _ _
    (reads_little _ _ _ _ next.kept (next.small c.requires.few)))
