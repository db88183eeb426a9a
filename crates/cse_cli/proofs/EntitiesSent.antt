-- An entity goes from thread to thread where its tree may, and so does the object that it is of a desk.
use denote.RattleType.{RattleType}
use denote.Param.Send.{IsSend, sendable}
use denote.Param.SendFields.{declared_send}
use Rattle.std.proofs.Crossing.{crosses}
use Rattle.cse_cli.proofs.OutboxSent.{outbox_send}
use Rattle.cse_cli.proofs.TreesSent.{home_send, store_send}
use Rattle.tree_model.specs.declared.tree.Tree.{Ghosts}
use Rattle.entity_model.specs.contracts.entity.Entity as entity
use Rattle.entity_model.specs.contracts.entity.Entity.TheInside as entity_inside
use Rattle.cse_server.specs.contracts.served.Served as served
use Rattle.cse_server.specs.contracts.served.Served.TheInside as served_inside
use Rattle.resource_tree.proofs.Sent.{index_tree_send}
use Rattle.resource_tree.specs.contracts.index_tree.IndexTree as index_tree
use Rattle.resource_tree.specs.contracts.index_tree.IndexTreeTree.TheImpl as index_tree_impl

module _ (T : RattleType) (g : Ghosts T.Denot) (t : IsSend T) where
  entity_inside_send : IsSend (entity_inside.the_row T g)
  entity_inside_send = declared_send (entity_inside.the_type T g)
      (home_send, (search (sendable, crosses) depth 20, (search (sendable, crosses) depth 20, (search (sendable, crosses) depth 20, (outbox_send, tt)))))

  pub entity_send : IsSend (entity.the_row T g)
  entity_send = record { owned = λ d vs x. (entity_inside_send.owned x.0 vs, tt); leaving = λ k d w. tt }

  served_inside_send : IsSend (served_inside.the_row T g)
  served_inside_send = declared_send (served_inside.the_type T g)
      (search (sendable, crosses) depth 20, (search (sendable, crosses, entity_send) depth 20, tt))

  pub served_send : IsSend (served.the_row T g)
  served_send = record { owned = λ d vs x. (served_inside_send.owned x.0 vs, tt); leaving = λ k d w. tt }

pub served_tree_send : IsSend (served.the_row index_tree.the_row index_tree_impl.ghosts)
served_tree_send = served_send index_tree.the_row index_tree_impl.ghosts (index_tree_send store_send)
