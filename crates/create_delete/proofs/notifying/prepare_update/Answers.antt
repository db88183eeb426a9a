use Rattle.std.proofs.Common.{◌≡◌, ℕ, List, [], length, None, Some, sym, ap, ◌∙◌, subst, arith}
use Rattle.std.proofs.lemmas.Option.{same_Some}
use Rattle.resource_model.specs.Resource.{ResourceData}
use Rattle.tree_model.specs.Changes.{ChangeData, update_changes}
use Rattle.tree_model.specs.Tree.{at, subs_of}
use Rattle.entity_model.specs.Entity.{copy_requests}
use Rattle.create_delete.proofs.UnsentLemmas.{unsent_updated}
use Rattle.create_delete.proofs.notifying.prepare_update.Goals as goal

-- what isn't found isn't there
pub returns-in-None-clause-told : goal.returns-in-None-clause-told
returns-in-None-clause-told g c r found =
    let nodes = g.T.Tree.nodes c.args.tree.now in
    let n = c.args.resource.now.number in
    let none : at n nodes ≡ None = ap (λ (m : ℕ). at m nodes) (sym c.number.ensures.value) ∙ sym c.in-None.ensures.value in
    let apart : Some r ≡ None = sym found ∙ none in
    cc

pub returns-in-None-clause-room : goal.returns-in-None-clause-room
returns-in-None-clause-room g c =
    let none : length c.nothing_told-in-None.result.notes.items ≡ 0 = ap length c.nothing_told-in-None.ensures.notes in
    omega (arith, none)

-- no copy is asked for where it lists no CSE
pub prepare_uncopied-requires-clause-unsent : goal.prepare_uncopied-requires-clause-unsent
prepare_uncopied-requires-clause-unsent g c =
    let nodes = g.T.Tree.nodes c.args.tree.now in
    let there : at c.args.resource.now.number nodes ≡ Some c.in-Some.before.now = ap (λ (m : ℕ). at m nodes) (sym c.number.ensures.value) ∙ sym c.in-Some.ensures.value in
    subst (λ (changes : List ChangeData). copy_requests c.args.home.now nodes changes ≡ []) (sym c.of_update-changes.ensures)
    (unsent_updated c.args.home.now nodes c.in-Some.before.now c.args.resource.now c.args.named.now c.args.gone.now there c.requires.unsent (c.is_unannounced.ensures.before c.if-not-is_unannounced.false) (c.is_unannounced.ensures.after c.if-not-is_unannounced.false))

-- and nobody hears it where no subscription stands under it
pub returns-then-is_unwatched-clause-told : goal.returns-then-is_unwatched-clause-told
returns-then-is_unwatched-clause-told g c r found =
    let nodes = g.T.Tree.nodes c.args.tree.now in
    let going = c.args.gone.now in
    let there : at c.args.resource.now.number nodes ≡ Some c.in-Some.before.now = ap (λ (m : ℕ). at m nodes) (sym c.number.ensures.value) ∙ sym c.in-Some.ensures.value in
    let one : c.in-Some.before.now ≡ r = same_Some c.in-Some.before.now r (sym there ∙ found) in
    let beside : subs_of c.args.resource.now.number nodes ≡ [] =
    subst (λ (n : ℕ). subs_of n nodes ≡ []) c.number-in-Some.ensures.value (c.is_unwatched.ensures c.if-is_unwatched.true) in
    let unsent = unsent_updated c.args.home.now nodes c.in-Some.before.now c.args.resource.now c.args.named.now going there c.requires.unsent (c.is_unannounced.ensures.before c.if-not-is_unannounced.false) (c.is_unannounced.ensures.after c.if-not-is_unannounced.false) in
    c.nothing_told.ensures.told c.args.home.now nodes going (update_changes nodes r c.args.resource.now c.args.named.now going) (c.requires.unheard r beside)
    (subst (λ (s : ResourceData). copy_requests c.args.home.now nodes (update_changes nodes s c.args.resource.now c.args.named.now going) ≡ []) one unsent)

pub returns-then-is_unwatched-clause-room : goal.returns-then-is_unwatched-clause-room
returns-then-is_unwatched-clause-room g c =
    let none : length c.nothing_told.result.notes.items ≡ 0 = ap length c.nothing_told.ensures.notes in
    omega (arith, none)
