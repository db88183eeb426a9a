use Rattle.std.proofs.Common.{◌≡◌, List, [], filter, sym, ap, ◌∙◌, subst}
use Rattle.std.specs.Option.{option_map_or}
use Rattle.resource_model.specs.Resource.{ResourceData, has_number}
use Rattle.tree_model.specs.Tree.{at, children_of, has, is_tree}
use Rattle.tree_model.proofs.KeptLemmas.{is_tree-without}
use Rattle.resource_store.proofs.LeafLemmas.{leaf_without}
use Rattle.resource_tree.specs.Index.{HasKin}
use Rattle.resource_dues.proofs.DuesLemmas.{dues_left}
use Rattle.resource_tree.proofs.IndexLemmas.{left_kept, parent_told}
use Rattle.resource_names.proofs.NameLemmas.{left_within, named_within}
use Rattle.resource_tree.proofs.index_tree.IndexTree.remove_leaf.Goals as goal

pub invariant_of-self : goal.invariant_of-self
invariant_of-self c =
    let nodes = c.self.inside.list in
    let alone : children_of c.args.number nodes ≡ [] = ap (children_of c.args.number) c.self.view_is ∙ c.requires in
    let gone = c.remove_leaf-gone.ensures.value in
    let kept = subst (λ (ns : List ResourceData). ns ≡ filter (λ r. has r.number ns) nodes) (sym gone) (left_kept (has_number c.args.number) nodes c.self.invariant.tree) in
    record {
      tree = ap is_tree gone ∙ is_tree-without (has_number c.args.number) nodes c.self.invariant.tree;
      queues = subst (λ (ns : List ResourceData). HasKin ns c.remove-row.new.self) (sym (leaf_without c.args.number nodes c.self.invariant.tree alone) ∙ sym gone) (c.remove-row.ensures.kin nodes c.self.invariant.tree c.self.invariant.queues c.remove_leaf-gone.ensures.row);
      told = dues_left (has_number c.args.number) nodes _ c.self.inside.dues c.self.invariant.tree gone c.self.invariant.told;
      names = c.note_gone.ensures (named_within nodes _ (left_within nodes _ kept) c.self.inside.named c.self.invariant.names);
    }

pub returns-clause-parent : goal.returns-clause-parent
returns-clause-parent c =
    c.remove-row.ensures.parent
    ∙ parent_told _ (at c.args.number c.self.inside.list) c.remove_leaf-gone.ensures.row
    ∙ ap (λ (ns : List ResourceData). option_map_or (λ (r : ResourceData). r.parent) (at c.args.number ns) 0) c.self.view_is
