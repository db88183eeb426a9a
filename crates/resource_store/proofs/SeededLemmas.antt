-- A number is written as its eight bytes.
use Rattle.std.proofs.Common.{◌≡◌, ◌<◌, ◌^◌, ℕ, sym, ap, ◌∙◌}
use Rattle.std.proofs.lemmas.Nat.{from_le_bytes-to_le_bytes_8}
use Rattle.std.specs.Hash.{le_bytes}
use Rattle.resource_store.specs.Seeded.{placed, written}
use Rattle.resource_store.specs.declared.seeded.SeededHasher.{SeededHasher}

abbrev hasher_of : ℕ → SeededHasher
hasher_of state = record { state = state }

pub number_written : (hasher : SeededHasher) (n result : ℕ) → n < 2 ^ 64 → result ≡ placed hasher.state n → hasher_of result ≡ written hasher (le_bytes 8 n)
unfolding le_bytes
number_written hasher n result fits is = ap hasher_of (is ∙ ap (placed hasher.state) (sym (from_le_bytes-to_le_bytes_8 n fits)))
