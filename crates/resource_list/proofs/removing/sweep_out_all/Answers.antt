use Rattle.std.proofs.Common.{◌≡◌, ◌==◌, ℕ, suc, List, [], ◌∷◌, length, true, sym, ◌∙◌, arith}
use Rattle.std.proofs.lemmas.Bool.{eqb-true}
use Rattle.resource_model.specs.Resource.{ResourceData}
use Rattle.tree_model.specs.Tree.{is_tree, without_all}
use Rattle.tree_model.proofs.ManyLemmas.{nothing_removed}
use Rattle.resource_list.proofs.removing.sweep_out_all.Goals as goal

none_out : (numbers : List ℕ) (nodes : List ResourceData) → is_tree nodes ≡ true → (length numbers == 0) ≡ true → nodes ≡ without_all numbers nodes
none_out [] nodes tree none = sym (nothing_removed nodes tree)
none_out (n ∷ numbers) nodes tree some = absurd (let is : suc (length numbers) ≡ 0 = eqb-true (suc (length numbers)) 0 some in omega arith)

pub returns-then-is_empty : goal.returns-then-is_empty
returns-then-is_empty c = none_out c.args.numbers.now c.args.resources.now.items c.requires.tree (sym c.is_empty.ensures ∙ c.if-is_empty.true)
