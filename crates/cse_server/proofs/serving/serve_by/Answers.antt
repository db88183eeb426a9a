use denote.Param.Send.{sendable}
use Rattle.desk_replies.proofs.Sent.{event_send, outcome_send}
use Rattle.cse_server.proofs.serving.serve_by.Goals as goal

-- a request goes from thread to thread: so do all its parts
pub serve_with-requires-send-O-Event : goal.serve_with-requires-send-O-Event
serve_with-requires-send-O-Event g c κs within = search (sendable, event_send)

pub serve_with-requires-send-O-Outcome : goal.serve_with-requires-send-O-Outcome
serve_with-requires-send-O-Outcome g c κs within = search (sendable, outcome_send)
