-- What the objects outside tell at one moment, and how it goes on.
use Rattle.std.specs.Prelude.{◌≡◌, ◌≢◌, ◌≤◌, ℕ, ◌+◌, List, Option}
use Rattle.std.specs.Io.KnownBytes.{Appends}
use Rattle.m2m_io.specs.Counts.{Rose}
use Rattle.m2m_io.specs.Told.{AppendsPrefix, Tells}
pub use Rattle.http_forwarding.specs.Carries.{Carries, LinkTold, has_failed, link_told}

-- what a sink tells: the bytes that were written, and by how many puts
pub record SinkTold : Type 0 where
  pub written : Option (List ℕ)
  pub puts : Option ℕ

abbrev pub sink_told : Option (List ℕ) → Option ℕ → SinkTold
sink_told written puts = record { written = written; puts = puts }

-- What is told where a connection is served: the bytes that it has left, those that were written to
-- it, the readings that the clock gave, and the exchanges that the link made; each where its object
-- tells it.
pub record Outside : Type 0 where
  pub left : Option (List ℕ)
  pub out : SinkTold
  pub readings : Option (List ℕ)
  pub link : LinkTold

abbrev pub outside : Option (List ℕ) → SinkTold → Option (List ℕ) → LinkTold → Outside
outside left out readings link =
    record { left = left; out = out; readings = readings; link = link }

-- ---- how it goes on

-- So many puts wrote these bytes.
pub record Puts (text : List ℕ) (count : ℕ) (before now : SinkTold) : Type 0 where
  pub written : Appends before.written now.written text
  pub puts : Tells (λ puts. puts + count) before.puts now.puts

-- One put was to write these bytes, and wrote some of them, from the first on.
pub record PutsPart (text : List ℕ) (before now : SinkTold) : Type 0 where
  pub written : AppendsPrefix before.written now.written text
  pub puts : Tells (λ puts. puts + 1) before.puts now.puts

-- Something ended so, and a device has failed so often before it and now: its count of faults
-- didn't fall, and rose where it ended by this fault, and only there.
pub record EndsByFault {E : Type 0} (fault ended : E) (before now : ℕ) : Type 0 where
  pub count : before ≤ now
  pub cause : ended ≡ fault → Rose before now
  pub steady : ended ≢ fault → now ≡ before
