use Rattle.std.proofs.Common.{List, ap, sym, length, ◌∙◌}
use Rattle.resource_model.specs.Resource.{ResourceData}
use Rattle.tree_model.specs.Tree.{sizes_of}
use Rattle.resource_tree.proofs.IndexLemmas.{no_sizes}
use Rattle.resource_tree.proofs.index_tree.IndexTreeTree.instance_sizes.Goals as goal

pub returns-in-Some-clause-value : goal.returns-in-Some-clause-value
returns-in-Some-clause-value c =
    c.self.invariant.queues.sums c.args.container c.in-Some.sum (c.known_sum.ensures.value c.in-Some.sum c.in-Some.is)
    ∙ ap (λ (ns : List ResourceData). sizes_of c.args.container ns) c.self.view_is

pub returns-then-count_of_kin-eq0-clause-value : goal.returns-then-count_of_kin-eq0-clause-value
returns-then-count_of_kin-eq0-clause-value c =
    sym (no_sizes c.args.container c.self.inside.list (sym (ap length (c.self.invariant.queues.types.instances c.args.container)) ∙ sym c.count_of_kin.ensures ∙ c.if-count_of_kin-eq0.true))
    ∙ ap (λ (ns : List ResourceData). sizes_of c.args.container ns) c.self.view_is
