-- Numbers in decimal, and resource ids.
use Rattle.std.specs.Prelude.{ℕ, ◌+◌, ◌-◌, ◌*◌, ◌^◌, ◌==◌, nat_lt, Bool, false, not}
use Rattle.std.specs.Prelude.{◌&&◌, ◌||◌, List, [], ◌∷◌, ◌++◌, length, take, drop, Option, Some}
use Rattle.std.specs.Prelude.{None}
use Rattle.std.specs.Prelude.{if◌then◌else◌, option_and_then, option_map}
use Rattle.std.specs.Char.{is_ascii_digit}
use Rattle.std.specs.Fmt.{decimal}
use Rattle.std.specs.List.{prefix_len}
use Rattle.std.specs.Str.Parse.{digits_value}
use Rattle.m2m_names.specs.Name.{is_numeral, numeral_limit}
use Rattle.m2m_names.specs.Types.{ty_of_word, ty_row}
use Rattle.m2m_names.specs.declared.types.Ty.{Ty}

-- counts and the numbers of resources are below this, and no whole number is below its negative
abbrev pub count_bound : ℕ
count_bound = 2 ^ 63

-- the number with one more decimal digit, where it is below the bound
abbrev pub with_digit : ℕ → ℕ → Option ℕ
with_digit n digit =
    if is_ascii_digit digit && nat_lt (10 * n + (digit - 48)) count_bound
    then Some (10 * n + (digit - 48)) else None

-- the number that decimal digits spell, after those already read
abbrev pub number_from : ℕ → List ℕ → Option ℕ
number_from n [] = Some n
number_from n (digit ∷ digits) =
    option_and_then (λ m. number_from m digits) (with_digit n digit)

-- digits as a number is written: one at least, and no 0 before others
abbrev pub is_written : List ℕ → Bool
is_written [] = false
is_written (digit ∷ digits) = not (digit == 48) || length digits == 0

-- the number below the bound that the text spells in decimal
abbrev pub number_written : List ℕ → Option ℕ
number_written text = if is_written text then number_from 0 text else None

-- what such digits write is below this
abbrev pub spelled_bound : ℕ
spelled_bound = 10 ^ numeral_limit

-- the number that 1 to 18 digits write
abbrev pub number_spelled : List ℕ → Option ℕ
number_spelled text = if is_numeral text then Some (digits_value 10 text) else None

-- the resource id of a type and a number: the short word of the type, and the number in decimal
-- (the form is the profile's)
abbrev pub id_text : Ty → ℕ → List ℕ
id_text ty n = (ty_row ty).word ++ decimal n

-- how many bytes stand before the first digit
abbrev pub word_len : List ℕ → ℕ
word_len text = prefix_len (λ byte. not (is_ascii_digit byte)) text

-- the type and the number below the bound of a resource id, as those of `cnt7`: what stands before
-- the first digit is the short word of the type, and the rest spells the number
abbrev pub id_parts : List ℕ → Option (Ty × ℕ)
id_parts text =
    option_and_then
    (λ ty. option_map (λ n. (ty, n)) (number_written (drop (word_len text) text)))
    (ty_of_word (take (word_len text) text))
