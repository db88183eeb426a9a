use Rattle.std.proofs.Common.{map, List, ℕ, Bor}
use Rattle.resource_model.specs.Resource.{ResourceData}
use Rattle.tree_model.specs.Tree.{line_of}
use Rattle.addressing.proofs.NameLemmas.{line_done}
use Rattle.addressing.proofs.naming.names_up.Goals as goal

-- the line ends where no resource has the number
pub returns : goal.returns
returns g c =
    let nodes = g.T.Tree.nodes c.args.tree.now in
    line_done nodes c.loop-resource.at (map (λ (t : Bor (List ℕ)). t.now) c.loop-resource.names.items)
    (map (λ (r : ResourceData). r.name) (line_of c.args.number nodes))
    c.loop-resource.invariant.1 c.in_default.ensures.value c.loop-resource.invariant.0
