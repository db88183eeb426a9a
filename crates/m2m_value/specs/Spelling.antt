-- The text of a value: compact JSON (RFC 8259), with no blank outside of texts.
use Rattle.std.specs.Prelude.{ℕ, ◌+◌, ◌-◌, ◌^◌, min, ◌/◌, ◌%◌, ◌==◌, nat_lt, List, [], ◌∷◌, ◌++◌}
use Rattle.std.specs.Prelude.{length, flat_map, Bool, true, false, not, ◌&&◌, if◌then◌else◌, Option}
use Rattle.std.specs.Prelude.{Some, None, codes}
use Rattle.std.specs.Char.{digit_char}
use Rattle.std.specs.Fmt.{signed_decimal}
use Rattle.std.specs.Map.{lookup}
use Rattle.std.specs.Option.{is_none}
use Rattle.m2m_value.specs.Data.{Data, null, boolean, number, text, list, object, Elements}
use Rattle.m2m_value.specs.Data.{no_elements, element, Pairs, no_pairs, pair}

-- the bytes that have a short escape, each with the letter after its backslash (section 7)
abbrev pub short_escapes : List (ℕ × ℕ)
short_escapes = (34, 34) ∷ (92, 92) ∷ (8, 98) ∷ (12, 102) ∷ (10, 110) ∷ (13, 114) ∷ (9, 116) ∷ []

-- the letter of a byte's short escape
abbrev pub short_escape : ℕ → Option ℕ
short_escape byte = lookup (λ b. byte == b) short_escapes

-- a byte by its two hexadecimal digits
abbrev pub long_escape : ℕ → List ℕ
long_escape byte = codes "\\u00" ++ digit_char (byte / 16) ∷ digit_char (byte % 16) ∷ []

-- what stands for a byte, given its letter: only control characters need an escape beyond the short
-- ones
abbrev pub escaped_by : Option ℕ → ℕ → List ℕ
escaped_by (Some letter) byte = 92 ∷ letter ∷ []
escaped_by None byte = if nat_lt byte 32 then long_escape byte else byte ∷ []

-- what stands for a byte in a text (section 7)
abbrev pub escaped : ℕ → List ℕ
escaped byte = escaped_by (short_escape byte) byte

-- a byte that stands for itself
abbrev pub is_plain : ℕ → Bool
is_plain byte = not (nat_lt byte 32) && is_none (short_escape byte)

-- a text between its quotation marks
abbrev pub quoted : List ℕ → List ℕ
quoted s = 34 ∷ (flat_map escaped s ++ 34 ∷ [])

-- a comma stands before each part but the first
abbrev pub comma_at : ℕ → List ℕ
comma_at place = if place == 0 then [] else 44 ∷ []

-- the word for a truth value (section 3)
abbrev pub truth_word : Bool → List ℕ
truth_word true = codes "true"
truth_word false = codes "false"

abbrev mutual
  -- the text of a value
  pub text_of : Data → List ℕ
  text_of null = codes "null"
  text_of (boolean b) = truth_word b
  text_of (number z) = signed_decimal z
  text_of (text s) = quoted s
  text_of (list es) = 91 ∷ (elements_from es 0 ++ 93 ∷ [])
  text_of (object ps) = 123 ∷ (pairs_from ps 0 ++ 125 ∷ [])

  -- The text of the elements of a list, the first of which stands at this place.
  pub elements_from : Elements → ℕ → List ℕ
  elements_from no_elements place = []
  elements_from (element d es) place = comma_at place ++ (text_of d ++ elements_from es (place + 1))

  -- The text of the members of an object, the first of which stands at this place.
  pub pairs_from : Pairs → ℕ → List ℕ
  pairs_from no_pairs place = []
  pairs_from (pair k d ps) place = comma_at place
      ++ (quoted k ++ 58 ∷ (text_of d ++ pairs_from ps (place + 1)))

-- the bytes that count for a value: of a text those that it has, of any other value those of its
-- text
abbrev pub size_of : Data → ℕ
size_of null = length (text_of null)
size_of (boolean b) = length (text_of (boolean b))
size_of (number z) = length (text_of (number z))
size_of (text s) = length s
size_of (list es) = length (text_of (list es))
size_of (object ps) = length (text_of (object ps))

-- a count in 64 bits, which stays at the largest
abbrev pub capped : ℕ → ℕ
capped n = min n (2 ^ 64 - 1)
