use Rattle.std.proofs.Common.{◌≡◌, drop, None}
use Rattle.notify_outbox.specs.Items.{is_open}
use Rattle.notify_outbox.specs.Queues.{least_from}
use Rattle.notify_outbox.proofs.places.first_to_send.Given as goal

abbrev pub invariant-loop-place : goal.invariant-loop-place
invariant-loop-place g l = least_from (is_open (g.T.Tree.nodes l.tree)) l.best l.place (drop l.place l.queues) ≡ least_from (is_open (g.T.Tree.nodes l.tree)) None 0 l.queues
