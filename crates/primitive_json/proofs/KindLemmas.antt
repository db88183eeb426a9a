-- Values of their kinds are read back from what is written of them, and what is read is of its kind.
use Rattle.std.proofs.Common.{◌≡◌, ℕ, ◌<◌, ◌^◌, List, [], ◌∷◌, ◌++◌, Bool, true, false, ◌&&◌, if◌then◌else◌, Option, Some, None, option_map, option_and_then, unwrap_or, IfSome, decimal, refl, ap, ◌∙◌, arith, lt-ltb, le-leb}
use Rattle.std.proofs.lemmas.Fmt.{digits_decimal, digits_value-decimal, decimal_nonempty, length-decimal-le}
use Rattle.std.specs.Char.{is_ascii_digit}
use Rattle.std.specs.List.{list_all}
use Rattle.std.specs.Option.{option_or, option_map_or}
use Rattle.std.specs.Str.Parse.{digits_value}
use Rattle.m2m_names.specs.Name.{is_filled}
use Rattle.m2m_names.specs.Stamps.{stamp_of, timestamp, two, four}
use Rattle.m2m_names.specs.StampReading.{moment_at}
use Rattle.m2m_names.proofs.StampReadingLemmas.{read_last}
use Rattle.m2m_value.specs.Data.{Data}
use Rattle.m2m_value.specs.Shapes.{as_count}
use Rattle.m2m_value.specs.View.{as_text}
use Rattle.filter_criteria.specs.Bounds.{IsMoment}
use Rattle.filter_criteria.proofs.PartLemmas.{passes_along, moment_back}
use Rattle.primitive_json.specs.Kinds.{is_numeral, number_spelled, expiry_spelled, read_expiry}
use Rattle.primitive_json.specs.Laws.{IsWhenOfKind, IsShortWhen}
use Rattle.primitive_json.specs.Writing.{expiry_data}
use Rattle.m2m_names.proofs.NumeralLemmas.{own}
use Rattle.primitive_json.specs.declared.request.When.{When}
use Rattle.primitive_json.specs.declared.request.When.TheVariants.{At, Millis}

-- ---- texts and numbers

-- what a value is, where that passes the test
pub told_passes : {A : Type 0} (test : A → Bool) (o : Option A) → option_map_or test o false ≡ true → IfSome o (λ a. test a ≡ true)
told_passes test None h = tt
told_passes test (Some a) h = h

pub told_or_passes : {A : Type 0} (test : A → Bool) (o : Option A) (other : A) → option_map_or test o false ≡ true → test (unwrap_or o other) ≡ true
told_or_passes test None other h = cc
told_or_passes test (Some a) other h = h

-- ---- timestamps and digits

and_false : (b : Bool) → b && false ≡ false
and_false true = refl
and_false false = refl

-- a letter among digits
has_letter : (xs ys : List ℕ) → list_all is_ascii_digit (xs ++ 84 ∷ ys) ≡ false
has_letter [] ys = refl
has_letter (x ∷ xs) ys = ap (λ b. is_ascii_digit x && b) (has_letter xs ys) ∙ and_false (is_ascii_digit x)

no_numeral : (s : List ℕ) → list_all is_ascii_digit s ≡ false → is_numeral s ≡ false
no_numeral s h = ap (λ b. is_filled 18 s && b) h ∙ and_false (is_filled 18 s)

stamp_is_no_numeral : (at : ℕ) → is_numeral (timestamp at) ≡ false
stamp_is_no_numeral at =
    let s = stamp_of at in
    no_numeral (timestamp at) (has_letter (four s.year ++ two s.month ++ two s.day) (two s.hour ++ two s.minute ++ two s.second))

filled : (n : ℕ) → n < 10 ^ 18 → is_filled 18 (decimal n) ≡ true
filled n short =
    let small : n < 2 ^ 64 = omega arith in
    rw (lt-ltb _ _ (decimal_nonempty n small), le-leb _ _ (length-decimal-le 18 n (omega arith) short small)) refl

decimal_is_numeral : (n : ℕ) → n < 10 ^ 18 → is_numeral (decimal n) ≡ true
decimal_is_numeral n short =
    let small : n < 2 ^ 64 = omega arith in
    let all : list_all is_ascii_digit (decimal n) ≡ true = digits_decimal own n small in
    rw (filled n short, all) refl

pub expiry_back : (when : When) → IsWhenOfKind when → IsShortWhen when → read_expiry (expiry_data when) ≡ Some when
expiry_back (At at) last short =
    ap (λ b. option_or (option_map Millis (if b then Some (digits_value 10 (timestamp at)) else None)) (option_map At (moment_at (timestamp at)))) (stamp_is_no_numeral at)
    ∙ ap (option_map At) (moment_back at last)
expiry_back (Millis n) kind short =
    let small : n < 2 ^ 64 = omega arith in
    ap (λ b. option_or (option_map Millis (if b then Some (digits_value 10 (decimal n)) else None)) (option_map At (moment_at (decimal n)))) (decimal_is_numeral n short)
    ∙ ap (λ v. Some (Millis v)) (digits_value-decimal own n small)

when_at : (o : Option ℕ) → IfSome o IsMoment → IfSome (option_map At o) IsWhenOfKind
when_at None h = tt
when_at (Some at) h = h

when_or : (n : Option ℕ) (o : Option When) → IfSome o IsWhenOfKind → IfSome (option_or (option_map Millis n) o) IsWhenOfKind
when_or None o h = h
when_or (Some n) o h = tt

when_spelled : (s : List ℕ) → IfSome (expiry_spelled s) IsWhenOfKind
when_spelled s = when_or (number_spelled s) (option_map At (moment_at s)) (when_at (moment_at s) (read_last s (moment_at s) refl))

-- what is read as a time of expiry is of its kind
pub when_of_kind : (d : Data) → IfSome (read_expiry d) IsWhenOfKind
when_of_kind d = when_or (as_count d) (option_and_then expiry_spelled (as_text d)) (passes_along IsWhenOfKind expiry_spelled when_spelled (as_text d))
