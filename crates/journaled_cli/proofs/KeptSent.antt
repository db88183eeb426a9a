-- What is kept goes from thread to thread where its file may.
use denote.RattleType.{RattleType}
use denote.Param.Send.{IsSend, sendable}
use denote.Param.SendFields.{declared_send}
use Rattle.std.proofs.Crossing.{crosses}
use Rattle.cse_cli.proofs.EntitiesSent.{entity_send}
use Rattle.cse_cli.proofs.LaterSent.{requests_send}
use Rattle.cse_cli.proofs.TreesSent.{store_send}
use Rattle.resource_tree.proofs.Sent.{index_tree_send}
use Rattle.resource_tree.specs.contracts.index_tree.IndexTree as index_tree
use Rattle.resource_tree.specs.contracts.index_tree.IndexTreeTree.TheImpl as index_tree_impl
use Rattle.journaled_entity.specs.contracts.recording.Journaled as journaled
use Rattle.journaled_entity.specs.contracts.recording.Journaled.TheInside as journaled_inside
use Rattle.journaled_later.specs.contracts.recorder.JournaledLater as later
use Rattle.journaled_later.specs.contracts.recorder.JournaledLater.TheInside as later_inside
use Rattle.journaled_cli.specs.contracts.observed.ObservedKept as observed
use Rattle.journaled_cli.specs.contracts.observed.ObservedKept.TheInside as observed_inside
use Rattle.kept_file.specs.declared.file.KeptFile.{Ghosts}
use Rattle.journal_file.specs.contracts.journal.Journal as journal
use Rattle.kept_object.specs.contracts.object.KeptObject as kept
use Rattle.kept_object.specs.contracts.object.KeptObject.TheInside as kept_inside

-- the entity, which is an index's
journaled_inside_send : IsSend (journaled_inside.the_row index_tree.the_row index_tree_impl.ghosts)
journaled_inside_send = declared_send (journaled_inside.the_type index_tree.the_row index_tree_impl.ghosts)
    (search (sendable, crosses) depth 20, (search (sendable, crosses, entity_send index_tree.the_row index_tree_impl.ghosts (index_tree_send store_send)) depth 20, tt))

pub journaled_send : IsSend (journaled.the_row index_tree.the_row index_tree_impl.ghosts)
journaled_send = record { owned = λ d vs x. (journaled_inside_send.owned x.0 vs, tt); leaving = λ k d w. tt }

-- and with the requests that it accepted
later_inside_send : IsSend (later_inside.the_row index_tree.the_row index_tree_impl.ghosts)
later_inside_send = declared_send (later_inside.the_type index_tree.the_row index_tree_impl.ghosts)
    (search (sendable, crosses) depth 20, (journaled_send, (requests_send, tt)))

later_send : IsSend (later.the_row index_tree.the_row index_tree_impl.ghosts)
later_send = record { owned = λ d vs x. (later_inside_send.owned x.0 vs, tt); leaving = λ k d w. tt }

-- beside it somebody is told of what it runs
module _ (W : RattleType) (w : IsSend W) where
  observed_inside_send : IsSend (observed_inside.the_row index_tree.the_row W index_tree_impl.ghosts)
  observed_inside_send = declared_send (observed_inside.the_type index_tree.the_row W index_tree_impl.ghosts)
      (search (sendable, crosses, later_send) depth 20, (search (sendable, crosses, w) depth 20, (search (sendable, crosses) depth 20, tt)))

  pub observed_send : IsSend (observed.the_row index_tree.the_row W index_tree_impl.ghosts)
  observed_send = record { owned = λ d vs x. (observed_inside_send.owned x.0 vs, tt); leaving = λ k d w. tt }

module _ (O F : RattleType) (g : Ghosts F.Denot) (o : IsSend O) (f : IsSend F) where
  -- its journal
  journal_send : IsSend (journal.the_row F)
  journal_send = declared_send (journal.the_type F) (search (sendable, crosses) depth 20, (search (sendable, crosses) depth 20, (search (sendable, crosses) depth 20, tt)))

  kept_inside_send : IsSend (kept_inside.the_row O F g)
  kept_inside_send = declared_send (kept_inside.the_type O F g)
      (search (sendable, crosses, o) depth 20, (search (sendable, crosses, journal_send) depth 20, (search (sendable, crosses) depth 20, (search (sendable, crosses) depth 20, tt))))

  pub kept_send : IsSend (kept.the_row O F g)
  kept_send = record { owned = λ d vs x. (kept_inside_send.owned x.0 vs, tt); leaving = λ k d w. tt }
