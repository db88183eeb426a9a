-- What holds of a CSE that answers later at every moment.
use Rattle.std.specs.Prelude.{◌≡◌, ℕ, ◌<◌, ◌≤◌, true, List, [], ◌∷◌, map, length, None}
use Rattle.std.specs.List.{AllByRecursion}
use Rattle.m2m_value.specs.Shapes.{largest_count}
use Rattle.resource_model.specs.Home.{HomeData}
use Rattle.entity_model.specs.Sound.{IsSoundEntity}
use Rattle.group_fanout.specs.Rights.{claimed_originator}
use Rattle.later_replies.specs.Effects.{most_entries}
use Rattle.later_replies.specs.Entries.{LaterData, LaterEntryData, does_wait, still_stands}

-- Numbers rise, from one on: each is greater than the one before it.
abbrev pub Rises : ℕ → List ℕ → Type 0
Rises past [] = Unit {0}
Rises past (n ∷ ns) = (past < n) × Rises n ns

-- the last of numbers, or the one before them where there is none
abbrev pub last_from : ℕ → List ℕ → ℕ
last_from past [] = past
last_from past (n ∷ ns) = last_from n ns

-- the numbers of accepted requests, in order
abbrev pub numbers_of : List LaterEntryData → List ℕ
numbers_of entries = map (λ (e : LaterEntryData). e.number) entries

-- If the request waits, it was accepted at this moment.
abbrev pub WaitsSince : ℕ → LaterEntryData → Type 0
WaitsSince moment e = does_wait e ≡ true → e.accepted ≡ moment

-- It isn't due at this moment.
abbrev pub StandsAt : ℕ → LaterEntryData → Type 0
StandsAt moment e = still_stands moment e ≡ true

-- The request is kept as it is run, and for the originator that it is judged as.
pub record IsKeptAsRun (home : HomeData) (e : LaterEntryData) : Type 0 where
  pub originator : e.originator ≡ claimed_originator home e.request
  pub blocking : e.request.rt ≡ None

-- what holds of a CSE that answers later at every moment
pub record IsSoundLater (l : LaterData) : Type 0 where
  pub inner : IsSoundEntity l.inner
  -- numbers are given out in order, and none twice
  pub numbers : Rises 0 (numbers_of l.requests.entries)
  pub given : last_from 0 (numbers_of l.requests.entries) ≤ l.requests.given
  pub most : l.requests.given ≤ largest_count
  -- no more are kept than there is room for
  pub room : length l.requests.entries ≤ most_entries
  pub kept : AllByRecursion (IsKeptAsRun l.inner.home) l.requests.entries
  -- what waits was accepted at the last moment, and nothing is due then
  pub waiting : AllByRecursion (WaitsSince l.inner.last) l.requests.entries
  pub standing : AllByRecursion (StandsAt l.inner.last) l.requests.entries
