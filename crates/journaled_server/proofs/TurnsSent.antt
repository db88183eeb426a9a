-- Turns of an entity that is kept go from thread to thread, and so do its reports.
use denote.Param.Send.{IsSend, sendable}
use denote.Param.SendFields.{declared_send, variants_send}
use Rattle.std.proofs.Crossing.{Box-send, crosses}
use Rattle.notify_outbox.specs.contracts.item.Item as item
use Rattle.desk_replies.proofs.Sent.{event_send, note_send, outcome_send, reply_send}
use Rattle.journal_events.specs.contracts.event.KeptEvent as event
use Rattle.journal_events.specs.contracts.event.KeptOutcome as outcome
use Rattle.journal_events.specs.contracts.came.Came as came
use Rattle.journal_events.specs.contracts.came.Came.TheInside as came_inside
use Rattle.journal_events.specs.contracts.came.CameForm as form
use Rattle.kept_desk.specs.contracts.turn.Report as report
use Rattle.kept_desk.specs.contracts.turn.Turn as turn

kept_event_send : IsSend event.the_row
kept_event_send = variants_send event.enum ((event_send, tt), (tt, ((search (sendable, crosses) depth 20, tt), tt)))

item_send : IsSend item.the_row
item_send = declared_send item.the_type (search (sendable, crosses) depth 20, (search (sendable, crosses) depth 20, (note_send, tt)))

kept_outcome_send : IsSend outcome.the_row
kept_outcome_send = variants_send outcome.enum ((outcome_send, tt), ((search (sendable, crosses, item_send) depth 20, tt), (tt, tt)))

-- what is handed on: a reply itself, and what has more parts in a box
form_send : IsSend form.the_row
form_send = variants_send form.enum (
  (reply_send, tt),
  ((search (sendable, crosses) depth 20, tt), (tt, (tt, (tt, ((Box-send outcome.the_row kept_outcome_send, tt), tt))))),
)

came_inside_send : IsSend came_inside.the_row
came_inside_send = declared_send came_inside.the_type (form_send, tt)

came_send : IsSend came.the_row
came_send = record { owned = λ d vs x. (came_inside_send.owned x.0 vs, tt); leaving = λ k d w. tt }

pub turn_send : IsSend (turn.the_row event.the_row)
turn_send = variants_send (turn.enum event.the_row) ((search (sendable, kept_event_send) depth 20, tt), (tt, tt))

pub report_send : IsSend (report.the_row came.the_row)
report_send = variants_send (report.enum came.the_row) (
  (search (sendable, came_send) depth 20, (search (sendable, crosses) depth 20, tt)),
  (tt, (tt, tt)),
)
