use Rattle.std.proofs.Common.{◌≡◌, ℕ, List, drop}
use Rattle.std.specs.Prelude.{IfSome}
use Rattle.resource_model.specs.Home.{HomeData}
use Rattle.announce_copy.specs.Copies.{copies_of_all}
use Rattle.subscription_match.specs.Notices.{notes_of_all}
use Rattle.tree_model.specs.Changes.{removal_changes}
use Rattle.entity_model.specs.Unnoticed.{LosesUnnoticed}
use Rattle.entity_model.proofs.sweeping.are_unnoticed.Given as goal

-- nobody is told of what goes so far, and nothing is sent for it; and of the container that is kept
-- no instance is noticed
abbrev pub invariant-loop-number : goal.invariant-loop-number
invariant-loop-number g l =
    let nodes = g.T.Tree.nodes l.tree in record {
      told : (home : HomeData) (going : List ℕ) → notes_of_all home nodes going (removal_changes nodes (drop l.number-index l.gone)) ≡ notes_of_all home nodes going (removal_changes nodes l.gone);
      sent : (home : HomeData) → copies_of_all home nodes (removal_changes nodes (drop l.number-index l.gone)) ≡ copies_of_all home nodes (removal_changes nodes l.gone);
      container : IfSome l.container (LosesUnnoticed nodes);
    }
