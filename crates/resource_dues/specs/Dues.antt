-- Moments at which resources are due, with their numbers.
use Rattle.std.specs.Prelude.{◌≡◌, ◌&&◌, ◌||◌, ℕ, nat_eq, nat_le, List, [], Bool, true, false}
use Rattle.std.specs.Prelude.{Option, Some, option_and_then}
use Rattle.m2m_names.specs.Stamps.{last_moment}
use Rattle.std.specs.Option.{option_map_or}
use Rattle.std.specs.List.{list_any}
use Rattle.resource_model.specs.Resource.{ResourceData}
use Rattle.tree_model.specs.Tree.{at, children_of, due, has_come}
use Rattle.resource_dues.specs.declared.dues.Dues.{Dues}

-- the entry tells of the number, and its moment isn't later than this one
abbrev pub tells : ℕ → ℕ → ℕ × ℕ → Bool
tells moment n entry = nat_le entry.0 moment && nat_eq entry.1 n

-- one of the entries does
abbrev pub is_listed : ℕ → ℕ → List (ℕ × ℕ) → Bool
is_listed moment n entries = list_any (tells moment n) entries

-- the number is told of by then: no entry has to tell of the last moment that there is
abbrev pub is_told : ℕ → ℕ → List (ℕ × ℕ) → Bool
is_told moment n entries = nat_le last_moment moment || is_listed moment n entries

-- an entry tells of each resource that will be due before the last moment, and isn't later
abbrev pub AreTold : List ResourceData → List (ℕ × ℕ) → Type 0
AreTold nodes entries = (r : ResourceData) (moment : ℕ) → at r.number nodes ≡ Some r
    → due nodes r ≡ Some moment → is_told moment r.number entries ≡ true

-- what one has told the other tells too
abbrev pub TellsAll : List (ℕ × ℕ) → List (ℕ × ℕ) → Type 0
TellsAll before after =
    (moment n : ℕ) → is_told moment n before ≡ true → is_told moment n after ≡ true

-- a table that is whole tells of each resource that will be due
abbrev pub HasDues : List ResourceData → Dues → Type 0
HasDues nodes dues = dues.whole ≡ true → AreTold nodes dues.moments.keys

-- the entries so far do, but for resources whose numbers are still to come
abbrev pub AreToldBut : List ℕ → List ResourceData → List (ℕ × ℕ) → Type 0
AreToldBut left nodes entries = (r : ResourceData) (moment : ℕ) → at r.number nodes ≡ Some r
    → due nodes r ≡ Some moment
    → (is_told moment r.number entries || list_any (nat_eq r.number) left) ≡ true

-- when the resource of a number is due
abbrev pub due_at : ℕ → List ResourceData → Option ℕ
due_at n nodes = option_and_then (λ r. due nodes r) (at n nodes)

-- the resource of a number is due by a moment, and nothing stands below it
pub record IsDueLeaf (n moment : ℕ) (nodes : List ResourceData) : Type 0 where
  pub due : option_map_or (has_come moment) (due_at n nodes) false ≡ true
  pub alone : children_of n nodes ≡ []
