use Rattle.std.proofs.Common.{◌≡◌, ℕ, [], length, ap, subst, arith}
use Rattle.tree_model.specs.Changes.{creation_changes}
use Rattle.tree_model.specs.Tree.{subs_of}
use Rattle.create_delete.specs.Joining.{gone_by}
use Rattle.create_delete.proofs.notifying.prepare_creation.Goals as goal

-- nobody hears it, and no copy follows it
pub returns-then-is_unwatched-clause-told : goal.returns-then-is_unwatched-clause-told
returns-then-is_unwatched-clause-told g c =
    let nodes = g.T.Tree.nodes c.args.tree.now in
    let going = gone_by c.args.update.now in
    let beside : subs_of c.args.resource.now.parent nodes ≡ [] =
    subst (λ (n : ℕ). subs_of n nodes ≡ []) c.parent.ensures.value (c.is_unwatched.ensures c.if-is_unwatched.true) in
    c.nothing_told.ensures.told c.args.home.now nodes going (creation_changes nodes c.args.resource.now going) (c.requires.unheard beside) (c.requires.unsent c.if-is_copied.false)

pub returns-then-is_unwatched-clause-room : goal.returns-then-is_unwatched-clause-room
returns-then-is_unwatched-clause-room g c =
    let none : length c.nothing_told.result.notes.items ≡ 0 = ap length c.nothing_told.ensures.notes in
    omega (arith, none)
