use Rattle.std.proofs.Common.{◌≡◌, drop, None}
use Rattle.notify_outbox.specs.Items.{is_numbered}
use Rattle.notify_outbox.specs.Queues.{least_from}
use Rattle.notify_outbox.proofs.places.first_for.Given as goal

abbrev pub invariant-loop-place : goal.invariant-loop-place
invariant-loop-place l = least_from (is_numbered l.channel) l.best l.place (drop l.place l.queues) ≡ least_from (is_numbered l.channel) None 0 l.queues
