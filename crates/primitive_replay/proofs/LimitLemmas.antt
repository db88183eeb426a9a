-- Lines that are bad whatever stands on them.
use Rattle.std.proofs.Common.{◌≡◌, ℕ, ◌<◌, false, List, length, Option, None, refl, arith}
use Rattle.std.specs.Prelude.{nat_le}
use Rattle.std.proofs.lemmas.Bool.Decides.{nat_tests}
use Rattle.primitive_replay.specs.Lines.{line_at, line_limit, most_lines}
use Rattle.std.proofs.lemmas.Bool.{and_right}

too_many : (n m : ℕ) → m < n → nat_le n m ≡ false
too_many n m more = grind (arith, nat_tests)

-- more bytes than a line has
pub line_at_long : {L : Type 0} (form : List ℕ → Option L) (place : ℕ) (text : List ℕ) → line_limit < length text → line_at form place text ≡ None
line_at_long form place text long =
    rw (too_many (length text) line_limit long, and_right (nat_le place most_lines) false refl) refl
