-- How tables hash, by a seed.
use Rattle.std.specs.Prelude.{ℕ, ◌*◌, ◌/◌, ◌%◌, List, ◌==◌, fold, length, if◌then◌else◌, bit_xor}
use Rattle.std.specs.Hash.FoldHasher.{folded_multiply}
use Rattle.std.specs.Int.{from_le_bytes, w64}
use Rattle.resource_store.specs.declared.seeded.Seeded.{Seeded}
use Rattle.resource_store.specs.declared.seeded.SeededHasher.{SeededHasher}

-- a state and a number as one number of 64 bits
abbrev pub mixed : ℕ → ℕ → ℕ
mixed state number = folded_multiply (bit_xor state number) 0x9e37_79b9_7f4a_7c05

-- the same, where four numbers in a row differ in two bits alone
abbrev pub placed : ℕ → ℕ → ℕ
placed state number = bit_xor (mixed state (number / 4)) (number % 4 * 0x100_0000)

-- the state behind these bytes; eight are a number
abbrev pub state_behind : ℕ → List ℕ → ℕ
state_behind state bytes =
    if length bytes == 8 then placed state (from_le_bytes w64 bytes) else fold mixed state bytes

abbrev pub written : SeededHasher → List ℕ → SeededHasher
written hasher bytes = record { state = state_behind hasher.state bytes }

-- the seed is the first number that goes into the state
abbrev pub seeded_by : ℕ → Seeded
seeded_by seed = record { initial = record { state = mixed 0x243f_6a88_85a3_08d3 seed } }
