use Rattle.std.proofs.Common.{Ok, ap, refl, ◌∙◌}
use Rattle.cse_server.specs.Outside.{link_told, outside, sink_told}
use Rattle.http_frames.specs.Inbox.{Intake, stream_of}
use Rattle.cse_server.proofs.NextLemmas.{given_leads, given_little, reads_little}
use Rattle.cse_server.proofs.TurnLemmas.{message_next, put_next, stops_part, stops_refused, stops_starved}
use Rattle.cse_server.proofs.connection.Answerer.serve_next.Goals as goal

-- a request stands whole in what is held
pub returns-in-Ok-Some-clause-next : goal.returns-in-Ok-Some-clause-next
returns-in-Ok-Some-clause-next g c =
    let left = g.X.Source.left c.args.conn.now in
    let next = rw c.in-Ok-Some.field-0-is at c.in-Ok-Some.ensures.next left in
    let old =
    outside left (sink_told (g.X.Sink.written c.args.conn.now) (g.X.Sink.puts c.args.conn.now)) (g.C.Clock.readings c.args.clock.now)
    (link_told (g.L.Link.exchanges c.args.link.now) (g.L.Link.faults c.args.link.now)) in
    let new =
    outside (g.X.Source.left c.answer_frame.new.conn) (sink_told (g.X.Sink.written c.answer_frame.new.conn) (g.X.Sink.puts c.answer_frame.new.conn)) (g.C.Clock.readings c.answer_frame.new.clock)
    (link_told (g.L.Link.exchanges c.answer_frame.new.link) (g.L.Link.faults c.answer_frame.new.link)) in
    rw c.answer_frame.ensures.inbox
    (message_next (g.W.Replier.rule c.args.self.now.replier.now) g.D.Desk.grown c.args.place c.args.seat.now c.answer_frame.new.seat _ _
    (stream_of c.args.rooms.now.inbox.held left) (g.X.Source.left c.answer_frame.new.conn) c.held_request.new.self.held old new
    c.in-Ok-Some.frame c.answer_frame.result _ next.refused
    (next.small c.requires.few)
    (rw c.answer_frame.ensures.left (given_little _ _ _ _ _ next.message c.requires.few))
    (rw c.answer_frame.ensures.left (given_leads _ _ _ _ _ next.message))
    c.answer_frame.ensures.answers)

pub returns-in-Ok-Some-clause-few : goal.returns-in-Ok-Some-clause-few
returns-in-Ok-Some-clause-few g c =
    let next = rw c.in-Ok-Some.field-0-is at c.in-Ok-Some.ensures.next (g.X.Source.left c.args.conn.now) in
    rw c.answer_frame.ensures.inbox (next.small c.requires.few)

-- more is read for it, once all that waits is put
pub serve_read-requires-clause-still_open : goal.serve_read-requires-clause-still_open
serve_read-requires-clause-still_open g c = ap (λ (i : Intake). i.refused) (c.in-Ok-None.ensures.none (ap Ok c.in-Ok-None.field-0-is)).0 ∙ c.requires.still_open

pub serve_read-requires-clause-few : goal.serve_read-requires-clause-few
serve_read-requires-clause-few g c = rw (c.in-Ok-None.ensures.none (ap Ok c.in-Ok-None.field-0-is)).0 c.requires.few

pub serve_read-requires-clause-put : goal.serve_read-requires-clause-put
serve_read-requires-clause-put g c = c.in-Ok.ensures.ok.0

pub returns-in-Ok-clause-next : goal.returns-in-Ok-clause-next
returns-in-Ok-clause-next g c =
    let next = rw ((c.in-Ok-None.ensures.none (ap Ok c.in-Ok-None.field-0-is)).0, c.put_replies.ensures.left) at c.serve_read.ensures.next in
    put_next (g.W.Replier.rule c.args.self.now.replier.now) g.D.Desk.grown g.met.D.Desk.grown_on g.met.D.Desk.grown_by_nothing c.args.place c.args.seat.now c.serve_read.new.seat
    _ _ _ _ _ _ _ _ _ _ c.serve_read.result _ c.in-Ok.ensures.ok next

pub returns-in-Err-put_replies-clause-next : goal.returns-in-Err-put_replies-clause-next
returns-in-Err-put_replies-clause-next g c =
    rw c.put_replies.ensures.left
    (stops_part (g.W.Replier.rule c.args.self.now.replier.now) g.D.Desk.grown g.met.D.Desk.grown_by_nothing c.args.place c.args.seat.now
    _ _ _ c.args.rooms.now.inbox.held _ _ _ _ c.requires.few c.in-Err-put_replies.ensures.some c.in-Err-put_replies.ensures.err)

-- no request can stand there
pub returns-in-Err-NoFrame-clause-next : goal.returns-in-Err-NoFrame-clause-next
returns-in-Err-NoFrame-clause-next g c =
    let next = rw c.in-Err-NoFrame.field-0-is at c.in-Err-NoFrame.ensures.next (g.X.Source.left c.args.conn.now) in
    rw c.end_refused.ensures.left
    (stops_refused (g.W.Replier.rule c.args.self.now.replier.now) g.D.Desk.grown g.met.D.Desk.grown_by_nothing c.args.place c.args.seat.now _ _ _ _ _ _ _ _ _ _ c.end_refused.result
    next.kept (next.small c.requires.few) (next.no_frame c.requires.still_open refl) c.end_refused.ensures.refuses)

pub returns-in-Err-NoFrame-clause-few : goal.returns-in-Err-NoFrame-clause-few
returns-in-Err-NoFrame-clause-few g c =
    let next = rw c.in-Err-NoFrame.field-0-is at c.in-Err-NoFrame.ensures.next (g.X.Source.left c.args.conn.now) in
    next.small c.requires.few

pub returns-in-Err-clause-few : goal.returns-in-Err-clause-few
returns-in-Err-clause-few g c = (c.in-Err.ensures.next (g.X.Source.left c.args.conn.now)).small c.requires.few

pub returns-in-Err-clause-next : goal.returns-in-Err-clause-next
returns-in-Err-clause-next g c =
    let next = c.in-Err.ensures.next (g.X.Source.left c.args.conn.now) in
    stops_starved (g.W.Replier.rule c.args.self.now.replier.now) g.D.Desk.grown g.met.D.Desk.grown_by_nothing c.args.place c.args.seat.now _ _ _ _ _ _
    (reads_little _ _ _ _ next.kept (next.small c.requires.few))
