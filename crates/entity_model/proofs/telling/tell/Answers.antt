use Rattle.std.proofs.Common.{◌≡◌, [], true, vec_len, sym, ap, subst, arith, rules}
use Rattle.std.proofs.lemmas.Bool.{eqb-true}
use Rattle.std.proofs.lemmas.List.{nil_from_length}
use Rattle.std.specs.List.Sorted.{IsStrictlySortedBy}
use Rattle.std.specs.Map.{keys_of}
use Rattle.std.specs.Ordering.{nat_cmp}
use Rattle.tree_model.specs.Tree.{is_tree, DoAscend}
use Rattle.entity_model.specs.Lowering.{some_left, spent_numbers}
use Rattle.entity_model.specs.Telling.{all_lowered_to}
use Rattle.entity_model.proofs.LoweringLemmas.{tree_all_lowered}
use Rattle.entity_model.proofs.OnePassLemmas.{lowered_by_passes, spent_ascend}
use Rattle.entity_model.proofs.telling.tell.Goals as goal

-- where none that counts is told something, all stands as it stood
pub returns-then-is_empty-clause-nodes : goal.returns-then-is_empty-clause-nodes
returns-then-is_empty-clause-nodes g c =
    let left = c.args.told.left in
    let len : vec_len left ≡ 0 = eqb-true (vec_len left) 0 (sym c.if-is_empty.ensures) in
    let none : left.items ≡ [] = nil_from_length left.items (omega (arith, len, left.ok.0)) in
    ap (λ rows. all_lowered_to rows (g.T.Tree.nodes c.args.tree.now)) (sym none)

pub remove_spent-requires-clause-order : goal.remove_spent-requires-clause-order
remove_spent-requires-clause-order g c =
    let order : IsStrictlySortedBy nat_cmp (keys_of c.args.told.left.items) = search rules in
    let numbers : c.args.told.spent.items ≡ spent_numbers c.args.told.left.items = search rules in
    subst DoAscend (sym numbers) (spent_ascend c.args.told.left.items order)

pub remove_spent-requires-clause-tree : goal.remove_spent-requires-clause-tree
remove_spent-requires-clause-tree g c =
    subst (λ nodes. is_tree nodes ≡ true) (sym c.count_all_anew.ensures)
    (tree_all_lowered (some_left c.args.told.left.items) (g.T.Tree.nodes c.args.tree.now) c.requires.tree)

pub returns-clause-nodes : goal.returns-clause-nodes
returns-clause-nodes g c =
    let order : IsStrictlySortedBy nat_cmp (keys_of c.args.told.left.items) = search rules in
    let numbers : c.args.told.spent.items ≡ spent_numbers c.args.told.left.items = search rules in
    lowered_by_passes c.args.told.left.items c.args.told.spent.items (g.T.Tree.nodes c.args.tree.now) (g.T.Tree.nodes c.count_all_anew.new.tree) _
    c.requires.tree order numbers c.count_all_anew.ensures c.remove_spent.ensures
