use denote.Param.Send.{sendable}
use Rattle.cases.proofs.LinksSent.{link_send}
use Rattle.cases.proofs.play.run_on.Goals as goal

-- the link goes from thread to thread
pub run-status-requires-send-L : goal.run-status-requires-send-L
run-status-requires-send-L g c κs within = search (sendable, link_send)
