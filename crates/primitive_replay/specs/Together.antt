-- A line that is said, and waits to be put.
use Rattle.std.specs.Prelude.{◌≡◌, ℕ, List, ◌++◌, Option, None, Some}
use Rattle.cse_server.specs.Outside.{PutsPart, SinkTold}
use Rattle.cse_server.specs.Together.{PutsMuch}
use Rattle.m2m_io.specs.declared.status.Status.{Status}
use Rattle.m2m_io.specs.declared.status.Status.TheVariants.{Done, Usage, BadLine, ReadFault}
use Rattle.m2m_io.specs.declared.status.Status.TheVariants.{WriteFault, Memory, BadStream}

-- What comes of a text that is to be said behind what waits: it waits behind that, and all is put
-- once it is much; or one put wrote a part; or memory ran out, and what waits is as it was.
abbrev pub SaysText : Option Status → List ℕ → List ℕ → List ℕ → SinkTold → SinkTold → Type 0
SaysText None text before now old new = PutsMuch (before ++ text) now old new
SaysText (Some Done) text before now old new = ⊥
SaysText (Some Usage) text before now old new = ⊥
SaysText (Some (BadLine n)) text before now old new = ⊥
SaysText (Some ReadFault) text before now old new = ⊥
SaysText (Some WriteFault) text before now old new = PutsPart (before ++ text) old new
SaysText (Some Memory) text before now old new = (now ≡ before) × (new ≡ old)
SaysText (Some BadStream) text before now old new = ⊥
