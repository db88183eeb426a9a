-- A talker in memory.
use Rattle.std.specs.Prelude.{ℕ, List}
use Rattle.m2m_io.specs.Counts.{Calls}

-- the payloads that are to come, those that were said, and the calls so far
pub record TalkerData : Type 0 where
  pub to_come : List (List ℕ)
  pub said : List (List ℕ)
  pub calls : Calls
