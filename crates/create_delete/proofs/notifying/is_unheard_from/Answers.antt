use Rattle.std.proofs.Common.{◌≡◌, ℕ, [], subst}
use Rattle.tree_model.specs.Tree.{subs_of}
use Rattle.create_delete.specs.Telling.{IsSilent}
use Rattle.create_delete.proofs.SilentLemmas.{deletion_silent}
use Rattle.create_delete.proofs.notifying.is_unheard_from.Goals as goal

pub returns : goal.returns
returns g c t home going =
    let nodes = g.T.Tree.nodes c.args.tree.now in
    let r = c.args.resource.now in
    let none : subs_of r.parent nodes ≡ [] = subst (λ (n : ℕ). subs_of n nodes ≡ []) c.parent.ensures.value (c.is_unwatched.ensures c.if-not-is_unwatched.false) in
    let silent : IsSilent r.number nodes = subst (λ (n : ℕ). IsSilent n nodes) c.number.ensures.value (c.is_silent.ensures t) in
    deletion_silent home nodes c.requires.formed r c.requires.stands none silent going
