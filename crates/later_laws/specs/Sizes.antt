-- How many bytes of results are kept.
use Rattle.std.specs.Prelude.{ℕ, ◌+◌, ◌≤◌, max, List, [], ◌∷◌}
use Rattle.turn_desk.specs.Entries.{Runs}
use Rattle.entity_model.specs.Entity.{EntityData}
use Rattle.cse_machine.specs.History.{History}
use Rattle.accepted_requests.specs.Sizes.{most_kept, result_size, results_size}
use Rattle.later_replies.specs.Entries.{LaterData, LaterEntryData, opened}
use Rattle.later_replies.specs.Step.{LaterStep}

-- the bytes of the largest result of some accepted requests
abbrev pub largest_result : List LaterEntryData → ℕ
largest_result [] = 0
largest_result (e ∷ entries) = max (result_size e) (largest_result entries)

-- Their results have at most as many bytes as may be kept, and those of one result.
abbrev pub KeepsWithin : List LaterEntryData → Type 0
KeepsWithin entries = results_size entries ≤ most_kept + largest_result entries

-- So it is of a CSE by which no request was accepted yet.
abbrev pub OpensWithin : Type 0
OpensWithin = (opening : EntityData) → KeepsWithin (opened opening).requests.entries

-- So it is after every list of events, where it was so before.
abbrev pub ResultsStayWithin : Type 0
ResultsStayWithin =
    (before after : LaterData) (history : History) → Runs LaterStep before history after
    → KeepsWithin before.requests.entries → KeepsWithin after.requests.entries
