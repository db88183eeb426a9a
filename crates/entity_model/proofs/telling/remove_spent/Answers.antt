use Rattle.std.proofs.Common.{◌≡◌, ◌∙◌, ℕ, List, [], vec_len, sym, subst, arith}
use Rattle.std.proofs.lemmas.Bool.{eqb-true}
use Rattle.std.proofs.lemmas.List.{nil_from_length}
use Rattle.tree_model.proofs.ManyLemmas.{nothing_removed}
use Rattle.tree_model.specs.Tree.{DoAscend, without_all}
use Rattle.entity_model.specs.Telling.{numbers_gone}
use Rattle.entity_model.proofs.OnePassLemmas.{gone_ascend}
use Rattle.entity_model.proofs.telling.remove_spent.Goals as goal

pub returns-then-is_empty : goal.returns-then-is_empty
returns-then-is_empty g c =
    let nodes = g.T.Tree.nodes c.args.tree.now in
    let gone = c.numbers_gone-gone.result in
    let len : vec_len gone ≡ 0 = eqb-true (vec_len gone) 0 (sym c.if-is_empty.ensures) in
    let none : [] ≡ numbers_gone c.args.numbers.items nodes = sym (nil_from_length gone.items (omega (arith, len, gone.ok.0))) ∙ c.numbers_gone-gone.ensures in
    subst (λ (ns : List ℕ). nodes ≡ without_all ns nodes) none (sym (nothing_removed nodes c.requires.tree))

pub remove_all-requires : goal.remove_all-requires
remove_all-requires g c =
    let nodes = g.T.Tree.nodes c.args.tree.now in
    let gone : c.deref.result.now ≡ numbers_gone c.args.numbers.items nodes = cc in
    subst DoAscend (sym gone) (gone_ascend c.args.numbers.items nodes c.requires.order)
