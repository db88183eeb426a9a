-- What came of a request that was sent.
use Rattle.std.specs.Prelude.{◌≤◌, ℕ, length, ⊤}
use Rattle.tcp_link.specs.declared.answering.SendOutcome.{SendOutcome}
use Rattle.tcp_link.specs.declared.answering.SendOutcome.TheVariants.{Answer, Part, Nothing}

-- an answer has no more bytes than a link keeps
abbrev pub HasFew : SendOutcome → Type 0
HasFew (Answer bytes) = length bytes.items ≤ 2097152
HasFew Part = ⊤
HasFew (Nothing stream) = ⊤
