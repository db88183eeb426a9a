-- A tree with an index goes from thread to thread where its resources do.
use denote.Param.Send.{IsSend, sendable}
use denote.Param.SendFields.{declared_send}
use Rattle.std.proofs.Crossing.{crosses}
use Rattle.std.proofs.MapsCrossing as maps
use Rattle.resource_dues.specs.contracts.dues.Dues as dues
use Rattle.resource_tree.specs.contracts.index_tree.IndexTree as index_tree
use Rattle.resource_tree.specs.contracts.index_tree.IndexTree.TheInside as index_tree_inside
use Rattle.resource_tree.specs.contracts.kin.Kin as kin
use Rattle.resource_names.proofs.Sent.{named_send}
use Rattle.resource_store.specs.contracts.store.Store as store
use Rattle.resource_tree.specs.contracts.queue.Queue as queue
use Rattle.resource_tree.specs.contracts.queue.Queue.TheInside as queue_inside

queue_inside_send : IsSend queue_inside.the_row
queue_inside_send = declared_send queue_inside.the_type (search (sendable, crosses) depth 20, tt)

queue_send : IsSend queue.the_row
queue_send = record { owned = λ d vs x. (queue_inside_send.owned x.0 vs, tt); leaving = λ k d w. tt }

kin_send : IsSend kin.the_row
kin_send = search (sendable, crosses, maps.crosses, queue_send) depth 60 fits 5000

dues_send : IsSend dues.the_row
dues_send = search (sendable, crosses, maps.crosses) depth 60 fits 5000

inside_send : IsSend store.the_row → IsSend index_tree_inside.the_row
inside_send list = declared_send index_tree_inside.the_type (search (sendable, crosses) depth 20, (list, (kin_send, (named_send, (dues_send, tt)))))

pub index_tree_send : IsSend store.the_row → IsSend index_tree.the_row
index_tree_send list = record { owned = λ d vs x. ((inside_send list).owned x.0 vs, tt); leaving = λ k d w. tt }
