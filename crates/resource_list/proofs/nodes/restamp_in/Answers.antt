use Rattle.std.proofs.Common.{List, set, subst, ap, ◌∙◌}
use Rattle.resource_model.specs.Resource.{ResourceData}
use Rattle.tree_model.specs.Tree.{restamped, StandsAt}
use Rattle.tree_model.proofs.StampLemmas.{stamped_at}
use Rattle.resource_list.proofs.nodes.restamp_in.Goals as goal

pub returns-in-Ok : goal.returns-in-Ok
returns-in-Ok c =
    let items = c.args.resources.now.items in
    ap (λ (r : ResourceData). set items c.in-Ok.at r) (c.restamp.ensures ∙ ap (restamped c.args.lt c.args.st) c.index_mut.ensures.value)
    ∙ stamped_at c.args.number c.args.lt c.args.st items c.in-Ok.at c.index_mut.result.now (subst (λ (nodes : List ResourceData). StandsAt c.args.number nodes c.in-Ok.at) c.deref.ensures.value c.in-Ok.ensures)
