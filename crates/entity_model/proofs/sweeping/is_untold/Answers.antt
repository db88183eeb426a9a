use Rattle.std.proofs.Common.{◌≡◌, ℕ, [], sym, ◌∙◌, subst}
use Rattle.tree_model.specs.Tree.{subs_of}
use Rattle.entity_model.proofs.UnnoticedLemmas.{deletion_untold}
use Rattle.entity_model.proofs.sweeping.is_untold.Goals as goal

pub returns : goal.returns
returns g c t home going =
    let nodes = g.T.Tree.nodes c.args.tree.now in
    let r = c.args.gone.now in
    let beside : subs_of r.parent nodes ≡ [] = subst (λ (n : ℕ). subs_of n nodes ≡ []) c.parent.ensures.value (c.is_unwatched.ensures c.if-not-is_unwatched.false) in
    let under : subs_of r.number nodes ≡ [] = subst (λ (n : ℕ). subs_of n nodes ≡ []) c.number.ensures.value (c.is_unwatched-2.ensures t) in
    deletion_untold home nodes going r (sym c.is.ensures ∙ c.if-is.false) beside under
