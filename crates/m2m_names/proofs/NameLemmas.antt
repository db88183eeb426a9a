-- What the tests of names, numerals and originators say; names and originators are ASCII, and so UTF-8.
use Rattle.std.specs.Prelude.{nat_lt, nat_le, nat_eq}
use Rattle.std.proofs.Common.{◌≡◌, ℕ, ◌<◌, ◌≤◌, true, false, not, ◌||◌, List, ◌++◌, drop, length, refl, arith}
use Rattle.std.specs.Char.{is_ascii_digit, is_ascii_graphic}
use Rattle.std.specs.Int.{IsInRange, is_in_range}
use Rattle.std.specs.List.{list_all, starts_with}
use Rattle.std.specs.Str.{IsUtf8}
use Rattle.std.proofs.lemmas.Bool.{and_parts, or_parts, not-true, leb-true, ltb-true}
use Rattle.std.proofs.lemmas.Bool.Decides.{Decides-eqb, nat_tests}
use Rattle.std.proofs.lemmas.List.Elements.{All-weaker}
use Rattle.std.proofs.lemmas.List.Sums.{AllPass-from_list_all}
use Rattle.std.proofs.lemmas.Slice.Eq.{starts_is}
use Rattle.std.proofs.lemmas.Str.{IsUtf8-from_ascii}
use Rattle.std.proofs.lemmas.Str.Ascii.{IsAscii-from_all}
use Rattle.m2m_names.specs.Name.{is_filled, is_decimal, is_printable, is_unreserved, is_name, name_limit, virtual_names, address_marks, is_one_of, is_free_name}

-- ---- what the tests say

-- a number from the least to the greatest
pub range_parts : (low high n : ℕ) → is_in_range low high n ≡ true → IsInRange low high n
range_parts low high n is =
    let parts = and_parts (nat_le low n) (nat_le n high) is in
    (leb-true low n parts.0, leb-true n high parts.1)

-- the byte of a decimal digit
pub digit_range : (b : ℕ) → is_ascii_digit b ≡ true → IsInRange 48 57 b
digit_range b is = range_parts 48 57 b is

-- a text of at least one byte, and of no more than the limit
pub record IsFilled (limit : ℕ) (text : List ℕ) : Type 0 where
  pub some : 0 < length text
  pub most : length text ≤ limit

pub filled_parts : (limit : ℕ) (text : List ℕ) → is_filled limit text ≡ true → IsFilled limit text
filled_parts limit text is =
    let parts = and_parts (nat_lt 0 (length text)) (nat_le (length text) limit) is in
    record { some = ltb-true 0 (length text) parts.0; most = leb-true (length text) limit parts.1 }

-- decimal digits
pub record IsDecimal (limit : ℕ) (text : List ℕ) : Type 0 where
  pub filled : IsFilled limit text
  pub digits : list_all is_ascii_digit text ≡ true

pub decimal_parts : (limit : ℕ) (text : List ℕ) → is_decimal limit text ≡ true → IsDecimal limit text
decimal_parts limit text is =
    let parts = and_parts (is_filled limit text) (list_all is_ascii_digit text) is in
    record { filled = filled_parts limit text parts.0; digits = parts.1 }

-- printable ASCII characters without a space
pub record IsPrintable (limit : ℕ) (text : List ℕ) : Type 0 where
  pub filled : IsFilled limit text
  pub graphic : list_all is_ascii_graphic text ≡ true

pub printable_parts : (limit : ℕ) (text : List ℕ) → is_printable limit text ≡ true → IsPrintable limit text
printable_parts limit text is =
    let parts = and_parts (is_filled limit text) (list_all is_ascii_graphic text) is in
    record { filled = filled_parts limit text parts.0; graphic = parts.1 }

-- a name of a resource
pub record IsName (text : List ℕ) : Type 0 where
  pub filled : IsFilled name_limit text
  pub unreserved : list_all is_unreserved text ≡ true

pub name_parts : (text : List ℕ) → is_name text ≡ true → IsName text
name_parts text is =
    let parts = and_parts (is_filled name_limit text) (list_all is_unreserved text) is in
    record { filled = filled_parts name_limit text parts.0; unreserved = parts.1 }

-- a name that a resource may be given
pub record IsFreeName (text : List ℕ) : Type 0 where
  pub name : is_name text ≡ true
  pub no_virtual : is_one_of virtual_names text ≡ false
  pub no_mark : is_one_of address_marks text ≡ false

pub free_name_parts : (text : List ℕ) → is_free_name text ≡ true → IsFreeName text
free_name_parts text is =
    let marked = is_one_of virtual_names text || is_one_of address_marks text in
    let parts = and_parts (is_name text) (not marked) is in
    let none = or_parts (is_one_of virtual_names text) (is_one_of address_marks text) (not-true marked parts.1) in
    record { name = parts.0; no_virtual = none.0; no_mark = none.1 }

-- a text begins with another
pub starts_rest : (text front : List ℕ) → starts_with nat_eq text front ≡ true → text ≡ front ++ drop (length front) text
starts_rest text front is = (starts_is Decides-eqb text front (starts_with nat_eq text front) refl).0 is

-- ---- bytes of names

unreserved_is_ascii : (b : ℕ) → is_unreserved b ≡ true → b < 128
unreserved_is_ascii b h = grind (arith, nat_tests)

graphic_is_ascii : (b : ℕ) → is_ascii_graphic b ≡ true → b < 128
graphic_is_ascii b h = grind (arith, nat_tests)

-- a text of unreserved characters is UTF-8
pub unreserved_is_utf8 : (bs : List ℕ) → list_all is_unreserved bs ≡ true → IsUtf8 bs
unreserved_is_utf8 bs h =
    IsUtf8-from_ascii bs
    (IsAscii-from_all bs
    (All-weaker (λ b. is_unreserved b ≡ true) (λ b. b < 128) unreserved_is_ascii bs
    (AllPass-from_list_all is_unreserved bs h)))

-- a text of printable characters is UTF-8
pub graphic_is_utf8 : (bs : List ℕ) → list_all is_ascii_graphic bs ≡ true → IsUtf8 bs
graphic_is_utf8 bs h =
    IsUtf8-from_ascii bs
    (IsAscii-from_all bs
    (All-weaker (λ b. is_ascii_graphic b ≡ true) (λ b. b < 128) graphic_is_ascii bs
    (AllPass-from_list_all is_ascii_graphic bs h)))

-- so names are UTF-8, and whatever is printable
pub name_is_utf8 : (text : List ℕ) → is_name text ≡ true → IsUtf8 text
name_is_utf8 text is = unreserved_is_utf8 text (name_parts text is).unreserved

pub printable_is_utf8 : (limit : ℕ) (text : List ℕ) → is_printable limit text ≡ true → IsUtf8 text
printable_is_utf8 limit text is = graphic_is_utf8 text (printable_parts limit text is).graphic
