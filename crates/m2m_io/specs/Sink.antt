-- A sink of bytes in memory.
use Rattle.std.specs.Prelude.{ℕ, List}
use Rattle.m2m_io.specs.Counts.{Calls}

-- the bytes that were written, and the calls so far
pub record SinkData : Type 0 where
  pub written : List ℕ
  pub calls : Calls
