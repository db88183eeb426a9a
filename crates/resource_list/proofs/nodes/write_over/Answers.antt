use Rattle.std.proofs.Common.{List, sym, ap, ◌∙◌}
use Rattle.resource_model.specs.Resource.{ResourceData}
use Rattle.tree_model.specs.Tree.{at}
use Rattle.tree_model.proofs.TreeLemmas.{replaced_missing}
use Rattle.resource_list.proofs.nodes.write_over.Goals as goal

pub returns-in_default : goal.returns-in_default
returns-in_default c =
    let nodes = c.args.resources.now.items in
    sym (replaced_missing c.args.resource nodes (ap (λ n. at n nodes) (sym c.number.ensures.value) ∙ ap (λ (ns : List ResourceData). at c.number.result ns) (sym c.deref.ensures.value) ∙ c.in_default.ensures))
