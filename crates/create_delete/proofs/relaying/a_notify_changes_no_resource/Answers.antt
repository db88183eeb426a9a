use Rattle.create_delete.proofs.RelayingLemmas.{notify_nodes, notify_right, notify_sound}
use Rattle.create_delete.proofs.relaying.a_notify_changes_no_resource.Goals as goal

pub returns-clause-nodes : goal.returns-clause-nodes
returns-clause-nodes c = notify_nodes

pub returns-clause-sound : goal.returns-clause-sound
returns-clause-sound c = notify_sound

pub returns-clause-right : goal.returns-clause-right
returns-clause-right c = notify_right
