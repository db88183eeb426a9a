use denote.Param.Send.{sendable}
use Rattle.journaled_server.proofs.TurnsSent.{report_send, turn_send}
use Rattle.journaled_server.proofs.serving.serve_journaled.Goals as goal

-- a turn goes from thread to thread
pub serve_with-requires-send-O-Event : goal.serve_with-requires-send-O-Event
serve_with-requires-send-O-Event g c κs within = search (sendable, turn_send)

pub serve_with-requires-send-O-Outcome : goal.serve_with-requires-send-O-Outcome
serve_with-requires-send-O-Outcome g c κs within = search (sendable, report_send)
