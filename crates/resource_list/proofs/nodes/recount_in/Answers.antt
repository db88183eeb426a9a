use Rattle.std.proofs.Common.{List, set, subst, ap, ◌∙◌}
use Rattle.resource_model.specs.Resource.{ResourceData}
use Rattle.tree_model.specs.Tree.{recounted, StandsAt}
use Rattle.tree_model.proofs.RecountLemmas.{counted_at}
use Rattle.resource_list.proofs.nodes.recount_in.Goals as goal

pub returns-in-Ok : goal.returns-in-Ok
returns-in-Ok c =
    let items = c.args.resources.now.items in
    ap (λ (r : ResourceData). set items c.in-Ok.at r) (c.recount.ensures ∙ ap (recounted c.args.left) c.index_mut.ensures.value)
    ∙ counted_at c.args.number c.args.left items c.in-Ok.at c.index_mut.result.now (subst (λ (nodes : List ResourceData). StandsAt c.args.number nodes c.in-Ok.at) c.deref.ensures.value c.in-Ok.ensures)
