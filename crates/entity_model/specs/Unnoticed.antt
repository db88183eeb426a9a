-- What goes unnoticed.
use Rattle.std.specs.Prelude.{◌≡◌, ℕ, false, List, []}
use Rattle.std.specs.Option.{option_map_or}
use Rattle.announce_copy.specs.Below.{lists_peers}
use Rattle.announce_copy.specs.Copies.{copies_of}
use Rattle.resource_model.specs.Home.{HomeData}
use Rattle.resource_model.specs.Resource.{ResourceData}
use Rattle.subscription_match.specs.Notices.{notes_of}
use Rattle.tree_model.specs.Changes.{deleted}
use Rattle.tree_model.specs.Tree.{at, subs_of}

-- nobody is told that the resource goes, and nothing is sent to where copies of it stand
pub record GoesUnnoticed (nodes : List ResourceData) (r : ResourceData) : Type 0 where
  pub told : (home : HomeData) (going : List ℕ) → notes_of home nodes going (deleted r) ≡ []
  pub sent : (home : HomeData) → copies_of home nodes (deleted r) ≡ []

-- No subscription stands under the resource of the number, and it lists no CSE in `at`. So its
-- instances go unnoticed.
pub record LosesUnnoticed (nodes : List ResourceData) (n : ℕ) : Type 0 where
  pub watched : subs_of n nodes ≡ []
  pub listed : option_map_or lists_peers (at n nodes) false ≡ false
