-- The subscriptions of two resources as one list.
use Rattle.std.specs.Prelude.{ℕ, Bool, true, false, not, nat_lt, ◌==◌, List, [], ◌∷◌, ◌++◌}
use Rattle.std.specs.Prelude.{filter}
use Rattle.std.specs.Prelude.{if◌then◌else◌, Option, Some, None}
use Rattle.resource_model.specs.Resource.{ResourceData}
use Rattle.subscription_match.specs.Matching.{is_sub_of}

-- those at the front whose numbers are below this one, and what follows them
abbrev pub front_below : ℕ → List ResourceData → List ResourceData
front_below n [] = []
front_below n (r ∷ rs) = if nat_lt r.number n then r ∷ front_below n rs else []

abbrev pub behind_front : ℕ → List ResourceData → List ResourceData
behind_front n [] = []
behind_front n (r ∷ rs) = if nat_lt r.number n then behind_front n rs else r ∷ rs

-- two lists in which numbers ascend as one in which they do
abbrev pub by_number : List ResourceData → List ResourceData → List ResourceData
by_number [] others = others
by_number (r ∷ rs) others =
    front_below r.number others ++ (r ∷ by_number rs (behind_front r.number others))

-- the first of the one list comes next, and not the first of the other
abbrev pub comes_next : Option ResourceData → Option ResourceData → Bool
comes_next one None = true
comes_next None (Some s) = false
comes_next (Some r) (Some s) = not (nat_lt s.number r.number)

-- the subscriptions under a resource, where one is given, in order of creation
abbrev pub subs_under : Option ℕ → List ResourceData → List ResourceData
subs_under parent nodes = filter (is_sub_of parent) nodes

-- the second number, unless it is the first too
abbrev pub unless_same : Option ℕ → Option ℕ → Option ℕ
unless_same one None = None
unless_same None (Some m) = Some m
unless_same (Some n) (Some m) = if n == m then None else Some m
