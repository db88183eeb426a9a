-- A connection in memory.
use Rattle.std.specs.Prelude.{ℕ, List, Bool}
use Rattle.m2m_io.specs.Source.{SourceData}
use Rattle.m2m_io.specs.Sink.{SinkData}

-- what is read, what is written, the bytes that are expected, and whether the last put that was
-- done left just these
pub record ConnData : Type 0 where
  pub input : SourceData
  pub out : SinkData
  pub expected : List ℕ
  pub is_right : Bool
