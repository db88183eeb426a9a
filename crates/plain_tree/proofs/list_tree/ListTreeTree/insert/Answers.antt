use Rattle.std.proofs.Common.{List, sym, ap, ◌∙◌, subst}
use Rattle.resource_model.specs.Resource.{ResourceData}
use Rattle.tree_model.specs.Tree.{lesser, are_quiet}
use Rattle.tree_model.proofs.GrowthLemmas.{IsNext, next_fits}
use Rattle.tree_model.proofs.QuietLemmas.{quiet_pushed}
use Rattle.plain_tree.proofs.list_tree.ListTreeTree.insert.Goals as goal

pub invariant_of-self : goal.invariant_of-self
invariant_of-self c =
    ap (λ quiet. are_quiet quiet c.push.new.self) (c.earlier-self-inside.ensures ∙ ap (lesser c.self.inside.quiet) c.due.ensures.value)
    ∙ quiet_pushed c.push.result c.self.inside.nodes c.push.new.self c.args.resource c.self.inside.quiet c.push.ensures.ok c.push.ensures.err c.due.ensures.tree
    (subst (λ (nodes : List ResourceData). IsNext nodes c.args.resource) (sym c.self.view_is) (next_fits c.args.self.now c.args.resource c.requires)) c.self.invariant
