-- Numbers of accepted requests rise in order.
use Rattle.std.specs.Prelude.{ℕ, ◌<◌, ◌≤◌, List, [], ◌∷◌}
use Rattle.std.specs.List.{AllByRecursion}
use Rattle.accepted_requests.specs.Entries.{LaterEntryData, LaterRequestsData}

-- The numbers rise along the accepted requests, from one on, and none is above the last that was
-- given.
abbrev pub RiseTo : ℕ → ℕ → List LaterEntryData → Type 0
RiseTo past given [] = past ≤ given
RiseTo past given (e ∷ entries) = (past < e.number) × RiseTo e.number given entries

abbrev pub AreNumbered : LaterRequestsData → Type 0
AreNumbered requests = RiseTo 0 requests.given requests.entries

-- None was accepted later than at a moment.
abbrev pub WereAcceptedBy : ℕ → LaterRequestsData → Type 0
WereAcceptedBy moment requests =
    AllByRecursion (λ (e : LaterEntryData). e.accepted ≤ moment) requests.entries
