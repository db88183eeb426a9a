use Rattle.std.proofs.Common.{◌∙◌}
use denote.Exit.{yes}
use denote.Param.{param}
use denote.Param.Send.{arg_send, param_send, sendable}
use Rattle.cse_cli.specs.contracts.observed.ObservedLater as observed
use Rattle.resource_tree.specs.contracts.index_tree.IndexTree as index_tree
use Rattle.resource_tree.specs.contracts.index_tree.IndexTreeTree.TheImpl as index_tree_impl
use Rattle.cse_cli.proofs.EntitiesSent.{served_tree_send}
use Rattle.cse_cli.proofs.LaterSent.{observed_send}
use Rattle.cse_cli.proofs.serve.serve_entity.Goals as goal

-- requests are answered later
pub returns-then-later-clause-serves : goal.returns-then-later-clause-serves
returns-then-later-clause-serves g c = rw (c.if-later.true, ← (c.new-object.ensures ∙ c.new.ensures)) c.serve_bound.ensures.serves

-- none is
pub returns-else-later-clause-serves : goal.returns-else-later-clause-serves
returns-else-later-clause-serves g c = rw (c.if-later.false, ← c.new-served.ensures) c.serve_bound-else-later.ensures.serves

-- a CSE goes from thread to thread, and so does one that answers later
pub serve_bound-requires-send-O : goal.serve_bound-requires-send-O
serve_bound-requires-send-O g c κs within =
    param_send _ _ (arg_send _ yes (observed.the_row index_tree.the_row (param 1 g.row.W) index_tree_impl.ghosts)
    (observed_send (param 1 g.row.W) c.type_bounds.send-W))

pub serve_bound-requires-else-later-send-O : goal.serve_bound-requires-else-later-send-O
serve_bound-requires-else-later-send-O g c κs within = search (sendable, served_tree_send)
