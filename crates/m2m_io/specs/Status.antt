-- The status with which the program ends: its number, and what it writes to standard error.
use Rattle.std.specs.Prelude.{ℕ, List, [], ◌∷◌, ◌++◌, codes, decimal}
use Rattle.m2m_io.specs.declared.status.Status.{Status}
use Rattle.m2m_io.specs.declared.status.Status.TheVariants.{Done, Usage, BadLine, ReadFault}
use Rattle.m2m_io.specs.declared.status.Status.TheVariants.{WriteFault, Memory, BadStream}

-- the number that the process ends with
abbrev pub status_number : Status → ℕ
status_number Done = 0
status_number Usage = 1
status_number (BadLine n) = 2
status_number ReadFault = 3
status_number WriteFault = 4
status_number Memory = 5
status_number BadStream = 6

-- the text, which is empty where all went well
abbrev pub status_text : Status → List ℕ
status_text Done = []
status_text Usage = codes "usage: cse http, serve, replay, twin or gen"
status_text (BadLine n) = codes "bad line " ++ decimal n
status_text ReadFault = codes "read fault"
status_text WriteFault = codes "write fault"
status_text Memory = codes "no memory"
status_text BadStream = codes "bad stream"

-- the text as a line, where there is one
abbrev pub status_line : Status → List ℕ
status_line Done = []
status_line status = status_text status ++ 10 ∷ []
