-- Accepted requests are done once, across a crash.
use Rattle.std.specs.Prelude.{◌≡◌, ◌⊎◌, ◌≤◌, true, false, List, [], ◌∷◌, Contains}
use Rattle.cse_machine.specs.History.{History}
use Rattle.later_replies.specs.Entries.{LaterData, LaterEntryData, does_wait, still_standing}
use Rattle.later_replies.specs.Entries.{still_stands}
use Rattle.later_laws.specs.Laws.{ComesToRun, all_run_numbers, times}
use Rattle.later_laws.specs.Turns.{HasTurns, Ran, Turn, all_ran, as_ran}
use Rattle.journaled_later.specs.Keeping.{IsAtEarlier}
use Rattle.later_replies.specs.Answered.{IsDeletedByOwn}
use Rattle.later_replies.specs.Sound.{IsSoundLater}

-- ---- how it leaves

-- At one of the events of a history the accepted request was due, or its originator deleted it.
abbrev pub GoesAtOne : (before : LaterData) (events : History) (turns : List Turn)
    (after : LaterData) → HasTurns before events turns after → LaterEntryData → Type 0
GoesAtOne before [] turns after has x = ⊥
GoesAtOne before (e ∷ events) turns after has x =
    (still_stands has.4.moment x ≡ false)
    ⊎ (IsDeletedByOwn before.inner.home (still_standing has.4.moment has.4.left) e.event x.number
    ⊎ GoesAtOne has.2 events has.1 after has.5 x)

-- the accepted request as turns leave it: as it was, or with the result of its run among them
abbrev pub IsLeftByAll : List Turn → LaterEntryData → LaterEntryData → Type 0
IsLeftByAll turns x left =
    (left ≡ x) ⊎ ((r : Ran) × Contains (all_ran turns) r × (r.entry ≡ x) × (left ≡ as_ran r))

-- An accepted request is kept over events, as it was or with the result of its run, unless it was
-- due, or its originator deleted it, at one of them.
abbrev pub StaysUntilItGoes : Type 0
StaysUntilItGoes =
    (before after : LaterData) (events : History) (turns : List Turn) (x : LaterEntryData)
    → IsSoundLater before → (has : HasTurns before events turns after)
    → Contains before.requests.entries x
    → ((left : LaterEntryData) × Contains after.requests.entries left × IsLeftByAll turns x left)
    ⊎ GoesAtOne before events turns after has x

-- ---- a crash

-- A CSE was left by events, a crash came, and what was opened then is that CSE, at its moment or an
-- earlier one; other events follow. An accepted request that was kept when the crash came: if it
-- has its result, no event behind the crash runs it. If it waits, none before the crash ran it, and
-- exactly one of those behind it does, where one comes to run it. None is run twice.
pub record AreDoneOnce (before made reopened after : LaterData) (events later : History)
    (first then : List Turn) (has : HasTurns reopened later then after) (x : LaterEntryData)
    : Type 0 where
  pub again : does_wait x ≡ false → times x.number (all_run_numbers then) ≡ 0
  pub before_it : does_wait x ≡ true → times x.number (all_run_numbers first) ≡ 0
  pub once : does_wait x ≡ true → ComesToRun reopened later then after has x
      → times x.number (all_run_numbers then) ≡ 1
  pub most : times x.number (all_run_numbers then) ≤ 1

abbrev pub AcceptedAreDoneOnce : Type 0
AcceptedAreDoneOnce =
    (before made reopened after : LaterData) (events later : History) (first then : List Turn)
    (x : LaterEntryData)
    → IsSoundLater before → HasTurns before events first made
    → IsAtEarlier reopened made → IsSoundLater reopened
    → (has : HasTurns reopened later then after)
    → Contains made.requests.entries x
    → AreDoneOnce before made reopened after events later first then has x
