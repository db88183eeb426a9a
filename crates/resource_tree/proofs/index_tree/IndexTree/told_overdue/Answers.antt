use Rattle.std.proofs.Common.{List, sym, ap, ◌∙◌, refl, subst}
use Rattle.resource_model.specs.Resource.{ResourceData}
use Rattle.tree_model.specs.Tree.{is_tree, overdue_numbers}
use Rattle.resource_tree.specs.Gathering.{GathersTold}
use Rattle.resource_tree.proofs.OverdueLemmas.{told_are}
use Rattle.resource_tree.proofs.index_tree.IndexTree.told_overdue.Goals as goal

pub gather_told-requires : goal.gather_told-requires
gather_told-requires c = sym (ap is_tree c.self.view_is) ∙ c.self.invariant.tree

pub returns-clause-value : goal.returns-clause-value
returns-clause-value c =
    let nodes = c.self.inside.list in
    let keys = c.self.inside.dues.moments.keys in
    let now : GathersTold c.args.moment keys c.args.self.now c.in-Some.found.items = rw c.in-Some.is at c.in_ok-told.ensures.ok in
    let gathers : GathersTold c.args.moment keys nodes c.in-Some.found.items = subst (λ (ns : List ResourceData). GathersTold c.args.moment keys ns c.in-Some.found.items) (sym c.self.view_is) now in
    told_are nodes c.args.moment c.self.invariant.tree keys (c.self.invariant.told c.if-not-self.false) (c.if-not-are_few_told.ensures refl) c.in-Some.found.items c.sort_unstable.new.self.items c.dedup.new.self.items gathers c.sort_unstable.ensures.permutation c.sort_unstable.ensures.sorted c.dedup.ensures.filtered
    ∙ ap (overdue_numbers c.args.moment) c.self.view_is
