use Rattle.std.proofs.Common.{ℕ, List, ◌∙◌, subst}
use Rattle.tree_model.specs.Tree.{Gathers}
use Rattle.create_delete.proofs.GatheringLemmas.{gathered_are}
use Rattle.create_delete.proofs.gathering.numbers_below.Goals as goal

pub returns : goal.returns
returns g c =
    let nodes = g.T.Tree.nodes c.args.tree.now in
    let found = subst (λ (ns : List ℕ). Gathers c.args.target nodes ns c.gather.new.numbers.items) c.new-numbers.ensures.items c.in_ok-gather.ensures in
    c.of.ensures ∙ gathered_are c.args.target nodes c.requires.tree _ _ _ found c.sort.ensures.permutation c.in_ok-sort.ensures.sorted c.dedup.ensures.filtered
