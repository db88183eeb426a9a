-- A CSE that answers later goes from thread to thread where its tree may.
use denote.RattleType.{RattleType}
use denote.Param.Send.{IsSend, sendable}
use denote.Param.SendFields.{declared_send}
use Rattle.std.proofs.Crossing.{crosses}
use Rattle.cse_cli.proofs.EntitiesSent.{entity_send}
use Rattle.cse_cli.proofs.TreesSent.{store_send}
use Rattle.desk_replies.proofs.Sent.{reply_send, request_send}
use Rattle.desk_replies.proofs.ValuesSent.{text_send}
use Rattle.accepted_requests.specs.contracts.entry.LaterEntry as entry
use Rattle.accepted_requests.specs.contracts.entry.LaterEntry.TheInside as entry_inside
use Rattle.accepted_requests.specs.contracts.list.LaterRequests as requests
use Rattle.accepted_requests.specs.contracts.list.LaterRequests.TheInside as requests_inside
use Rattle.cse_cli.specs.contracts.observed.ObservedLater as observed
use Rattle.cse_cli.specs.contracts.observed.ObservedLater.TheInside as observed_inside
use Rattle.later_replies.specs.contracts.entity.LaterEntity as later
use Rattle.later_replies.specs.contracts.entity.LaterEntity.TheInside as later_inside
use Rattle.resource_tree.proofs.Sent.{index_tree_send}
use Rattle.resource_tree.specs.contracts.index_tree.IndexTree as index_tree
use Rattle.resource_tree.specs.contracts.index_tree.IndexTreeTree.TheImpl as index_tree_impl
use Rattle.tree_model.specs.declared.tree.Tree.{Ghosts}

-- an accepted request
entry_inside_send : IsSend entry_inside.the_row
entry_inside_send = declared_send entry_inside.the_type (
  search (sendable, crosses) depth 20,
  (
    text_send,
    (search (sendable, crosses) depth 20, (request_send, (search (sendable, crosses) depth 20, (reply_send, (search (sendable, crosses) depth 20, tt))))),
  ),
)

entry_send : IsSend entry.the_row
entry_send = record { owned = λ d vs x. (entry_inside_send.owned x.0 vs, tt); leaving = λ k d w. tt }

requests_inside_send : IsSend requests_inside.the_row
requests_inside_send = declared_send requests_inside.the_type
    (search (sendable, crosses, entry_send) depth 20, (search (sendable, crosses) depth 20, tt))

pub requests_send : IsSend requests.the_row
requests_send = record { owned = λ d vs x. (requests_inside_send.owned x.0 vs, tt); leaving = λ k d w. tt }

module _ (T : RattleType) (g : Ghosts T.Denot) (t : IsSend T) where
  later_inside_send : IsSend (later_inside.the_row T g)
  later_inside_send = declared_send (later_inside.the_type T g)
      (search (sendable, crosses) depth 20, (entity_send T g t, (requests_send, tt)))

  later_send : IsSend (later.the_row T g)
  later_send = record { owned = λ d vs x. (later_inside_send.owned x.0 vs, tt); leaving = λ k d w. tt }

later_tree_send : IsSend (later.the_row index_tree.the_row index_tree_impl.ghosts)
later_tree_send = later_send index_tree.the_row index_tree_impl.ghosts (index_tree_send store_send)

-- beside it somebody is told of what it runs
module _ (W : RattleType) (w : IsSend W) where
  observed_inside_send : IsSend (observed_inside.the_row index_tree.the_row W index_tree_impl.ghosts)
  observed_inside_send = declared_send (observed_inside.the_type index_tree.the_row W index_tree_impl.ghosts)
      (search (sendable, crosses, later_tree_send) depth 20, (search (sendable, crosses, w) depth 20, (search (sendable, crosses) depth 20, tt)))

  pub observed_send : IsSend (observed.the_row index_tree.the_row W index_tree_impl.ghosts)
  observed_send = record { owned = λ d vs x. (observed_inside_send.owned x.0 vs, tt); leaving = λ k d w. tt }
