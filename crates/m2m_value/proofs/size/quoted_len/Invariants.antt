use Rattle.std.proofs.Common.{◌≡◌, ◌+◌, ◌<◌, ◌^◌, drop, length, flat_map}
use Rattle.m2m_value.specs.Spelling.{escaped, capped}
use Rattle.m2m_value.proofs.size.quoted_len.Given as goal

abbrev pub invariant-loop-byte : goal.invariant-loop-byte
invariant-loop-byte l = (capped (l.len + length (flat_map escaped (drop l.byte-index l.text))) ≡ capped (2 + length (flat_map escaped l.text))) × (l.len < 2 ^ 64)
