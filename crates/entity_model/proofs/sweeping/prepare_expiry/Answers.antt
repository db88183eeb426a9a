use Rattle.std.proofs.Common.{◌≡◌, length, ap, arith}
use Rattle.tree_model.specs.Changes.{removal_changes}
use Rattle.entity_model.proofs.TellingLemmas.{none_requested}
use Rattle.entity_model.proofs.sweeping.prepare_expiry.Goals as goal

-- nobody is told of it, and no copy follows it
pub returns-then-are_unnoticed-clause-told : goal.returns-then-are_unnoticed-clause-told
returns-then-are_unnoticed-clause-told g c =
    let nodes = g.T.Tree.nodes c.args.tree.now in
    let home = c.args.home.now in
    let gone = c.args.gone.now in
    let untold = c.are_unnoticed.ensures.told c.if-are_unnoticed.true home gone in
    let unsent = c.are_unnoticed.ensures.sent c.if-are_unnoticed.true home in
    c.nothing_told.ensures.told home nodes gone (removal_changes nodes gone) untold (none_requested home nodes (removal_changes nodes gone) unsent)

pub returns-then-are_unnoticed-clause-room : goal.returns-then-are_unnoticed-clause-room
returns-then-are_unnoticed-clause-room g c =
    let none : length c.nothing_told.result.notes.items ≡ 0 = ap length c.nothing_told.ensures.notes in
    omega (arith, none)
