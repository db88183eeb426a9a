-- A CSE that answers later, and the requests that it accepted (TS-0001, 8.2.1).
pub use Rattle.accepted_requests.specs.Entries.{LaterEntryData, LaterRequestsData, accepted_entry}
pub use Rattle.accepted_requests.specs.Entries.{as_run, does_wait, due_of, entry_time, no_entries}
pub use Rattle.accepted_requests.specs.Entries.{numbered, still_standing, still_stands, without}
use Rattle.entity_model.specs.Entity.{EntityData}

-- a CSE that answers later: the one inside, and the requests that it accepted
pub record LaterData : Type 0 where
  pub inner : EntityData
  pub requests : LaterRequestsData

-- the CSE by which no request was accepted yet
abbrev pub opened : EntityData → LaterData
opened inner = record { inner = inner; requests = no_entries }
