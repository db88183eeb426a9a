-- How what is told of an operation is carried out: notes that are ready to be appended, those of
-- its copies behind the others, and subscriptions that are lowered one after another.
use Rattle.std.specs.Prelude.{◌≡◌, ℕ, ◌==◌, nat_lt, List, [], ◌∷◌, ◌++◌, Bool, false, filter}
use Rattle.std.specs.Prelude.{if◌then◌else◌, Option, Some, None}
use Rattle.std.specs.List.Sorted.{IsStrictlySortedBy}
use Rattle.std.specs.Map.{keys_of}
use Rattle.std.specs.Ordering.{nat_cmp}
use Rattle.resource_model.specs.Home.{HomeData}
use Rattle.resource_model.specs.Resource.{ResourceData, has_number}
use Rattle.subscription_match.specs.Items.{items_of}
use Rattle.subscription_match.specs.Notices.{notes_of_all}
use Rattle.subscription_match.specs.Spending.{count_for, kept, left_at, left_in, left_to, spent}
use Rattle.subscription_match.specs.declared.drafts.DraftParts.{DraftParts}
use Rattle.tree_model.specs.Changes.{ChangeData}
use Rattle.tree_model.specs.Tree.{at, recounted_at, without}
use Rattle.entity_model.specs.Entity.{copy_requests}
use Rattle.entity_model.specs.declared.told.Told.{Told}

-- what comes of an operation's changes, by the resources before it, where `going` are the numbers of
-- those that it removes: the items of the drafts that are kept, and behind them the requests to
-- where copies stand; and what is left to each subscription that counts and is told something
pub record IsTold (home : HomeData) (before : List ResourceData) (going : List ℕ)
    (changes : List ChangeData) (told : Told) : Type 0 where
  pub notes :
      told.notes.items
      ≡ items_of home before (kept before (notes_of_all home before going changes))
      ++ copy_requests home before changes
  pub left :
      (n : ℕ)
      → left_in told.left.items n ≡ spent before (notes_of_all home before going changes) n
  pub order : IsStrictlySortedBy nat_cmp (keys_of told.left.items)

-- more than so many are left
abbrev pub has_more : ℕ → Option ℕ → Bool
has_more left None = false
has_more left (Some old) = nat_lt left old

-- the subscription of a number, where it counts and has more left, has so many left then; it goes
-- where that is none
abbrev pub lowered_to : ℕ → ℕ → List ResourceData → List ResourceData
lowered_to n left nodes =
    if has_more left (left_at nodes n)
    then (if left == 0 then without (has_number n) nodes else recounted_at n left nodes)
    else nodes

-- and so one after another
abbrev pub all_lowered_to : List (ℕ × ℕ) → List ResourceData → List ResourceData
all_lowered_to [] nodes = nodes
all_lowered_to (row ∷ rows) nodes = all_lowered_to rows (lowered_to row.0 row.1 nodes)

-- of these numbers those that go: to their subscriptions more than none is left now
abbrev pub numbers_gone : List ℕ → List ResourceData → List ℕ
numbers_gone numbers nodes = filter (λ n. has_more 0 (left_at nodes n)) numbers

-- an operation lets a subscription that it tells something stand as it was, or takes it
abbrev pub LeavesWhoIsTold : List ResourceData → List DraftParts → List ResourceData → Type 0
LeavesWhoIsTold before drafts after =
    (r : ResourceData) → at r.number after ≡ Some r → (count_for r.number drafts == 0) ≡ false
    → left_to r ≡ left_at before r.number
