-- The digits of a type's number.
use Rattle.std.proofs.Common.{◌≡◌, ℕ, ◌^◌, ◌<◌, true, List}
use Rattle.std.proofs.lemmas.Str.Parse.{digits_value_short}
use Rattle.std.specs.Str.Parse.{digits_value}
use Rattle.m2m_names.proofs.NumeralLemmas.{own}
use Rattle.http_binding.specs.MediaTypes.{is_type_digits}
use Rattle.m2m_names.proofs.NameLemmas.{decimal_parts}

pub are_short : (ds : List ℕ) → is_type_digits ds ≡ true → digits_value 10 ds < 10 ^ 5
are_short ds h =
    let parts = decimal_parts 5 ds h in
    digits_value_short own ds 5 parts.digits parts.filled.most
