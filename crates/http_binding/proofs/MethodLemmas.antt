-- The method of an operation, and the operation of a method.
use Rattle.std.proofs.Common.{◌≡◌, ℕ, Option, Some, None, is_some, refl, sym}
use Rattle.std.specs.Prelude.{option_map}
use Rattle.std.proofs.lemmas.Bool.{false≢true}
use Rattle.m2m_names.specs.declared.operations.Op.{Op}
use Rattle.m2m_names.specs.declared.operations.Op.TheVariants.{Create, Retrieve, Update, Notify, Delete as Removal}
use Rattle.primitive_json.specs.Members.{creates}
use Rattle.http_binding.specs.Methods.{method_named, method_text, operation_of}

pub operation_back : (op : Op) (type : Option ℕ) → is_some type ≡ creates op
    → option_map (λ method. operation_of method type) (method_named (method_text op)) ≡ Some op
operation_back Create None there = absurd (false≢true there)
operation_back Create (Some n) there = refl
operation_back Retrieve None there = refl
operation_back Retrieve (Some n) there = refl
operation_back Update None there = refl
operation_back Update (Some n) there = refl
operation_back Removal None there = refl
operation_back Removal (Some n) there = refl
operation_back Notify None there = refl
operation_back Notify (Some n) there = absurd (false≢true (sym there))
