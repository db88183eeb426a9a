-- The table of operations.
use Rattle.std.proofs.Common.{◌≡◌, Some, refl}
use Rattle.m2m_names.proofs.LookupLemmas.{same_key}
use Rattle.m2m_names.specs.declared.operations.Op.{Op}
use Rattle.m2m_names.specs.declared.operations.Op.TheVariants.{Create, Retrieve, Update, Delete, Notify}
use Rattle.m2m_names.specs.Operations.{op_row, op_of_number}

-- each operation is found at its number
pub op_again : (op : Op) → op_of_number (op_row op).number ≡ Some op
op_again Create = refl
op_again Retrieve = refl
op_again Update = refl
op_again Delete = refl
op_again Notify = refl
