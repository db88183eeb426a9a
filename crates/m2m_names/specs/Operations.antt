-- The operations of a request.
use Rattle.std.specs.Prelude.{ℕ, ◌+◌, List, [], ◌∷◌, Option, ℤ, pos, find, sum_by}
use Rattle.std.specs.Ordering.{int_eq}
use Rattle.m2m_names.specs.declared.operations.Op.{Op}
use Rattle.m2m_names.specs.declared.operations.Op.TheVariants.{Create, Retrieve, Update, Delete}
use Rattle.m2m_names.specs.declared.operations.Op.TheVariants.{Notify}

-- what stands for an operation: its number in a request, and its bit in `acop`
pub record OpRow : Type 0 where
  pub number : ℤ
  pub bit : ℕ

-- The row of an operation by its number and its bit.
abbrev pub op_entry : ℕ → ℕ → OpRow
op_entry number bit = record { number = pos number; bit = bit }

-- the table: a row for each operation (TS-0004, 6.3.4.2.5 and 6.3.4.2.29)
abbrev pub op_row : Op → OpRow
op_row Create = op_entry 1 1
op_row Retrieve = op_entry 2 2
op_row Update = op_entry 3 4
op_row Delete = op_entry 4 8
op_row Notify = op_entry 5 16

-- the bit of DISCOVERY, which is a Retrieve that looks for resources (TS-0001, 9.6.2.1.2)
abbrev pub discovery_bit : ℕ
discovery_bit = 32

-- all operations, in the order of their numbers
abbrev pub all_ops : List Op
all_ops = Create ∷ Retrieve ∷ Update ∷ Delete ∷ Notify ∷ []

-- the sum of all six bits: those of the operations, and that of DISCOVERY
abbrev pub all_bits : ℕ
all_bits = sum_by (λ op. (op_row op).bit) all_ops + discovery_bit

-- the operation of a number
abbrev pub op_of_number : ℤ → Option Op
op_of_number n = find (λ op. int_eq (op_row op).number n) all_ops
