-- What a line Content-Type says (TS-0009, 6.4.3; RFC 9110, section 8.3).
use Rattle.std.specs.Prelude.{ℕ, ◌-◌, ◌==◌, Bool, true, false, List, [], ◌∷◌}
use Rattle.std.specs.Prelude.{length, take, drop, fold, codes, bytes_eq, Option, Some, None}
use Rattle.std.specs.Prelude.{is_some, option_and_then, if◌then◌else◌}
use Rattle.std.specs.List.{list_any, prefix_len, suffix_len, slice_split}
use Rattle.std.specs.Option.{option_map_or}
use Rattle.std.specs.Str.Parse.{digits_value}
use Rattle.http_uri.specs.ByteClasses.{split_once_front, split_once_back}
use Rattle.httparse.specs.Grammar.{is_token}
use Rattle.m2m_names.specs.Name.{is_decimal}
use Rattle.m2m_names.specs.Types.{is_type_number}
use Rattle.http_frames.specs.Lines.{is_same_name}
use Rattle.http_binding.specs.declared.method.Method.{Method}
use Rattle.http_binding.specs.declared.method.Method.TheVariants.{Get, Post, Put, Delete}

-- The byte is a space.
abbrev pub is_space : ℕ → Bool
is_space b = b == 32

-- a text without the spaces around it
abbrev pub behind_spaces : List ℕ → List ℕ
behind_spaces text = drop (prefix_len is_space text) text

-- The text without the spaces at its end.
abbrev pub before_spaces : List ℕ → List ℕ
before_spaces text = take (length text - suffix_len is_space text) text

-- The text without the spaces at both of its ends.
abbrev pub between_spaces : List ℕ → List ℕ
between_spaces text = before_spaces (behind_spaces text)

-- the byte between a type and its parameters
abbrev pub semicolon : ℕ
semicolon = 59

-- what stands before the first semicolon
abbrev pub front_of : List ℕ → List ℕ
front_of value = between_spaces (split_once_front semicolon value)

-- what stands between the semicolons behind it
abbrev pub parameters_of : List ℕ → List (List ℕ)
parameters_of value =
    option_map_or (slice_split (λ b. b == semicolon)) (split_once_back semicolon value) []

-- the type of content that is written
abbrev pub json_type : List ℕ
json_type = codes "application/json"

-- the types that a content may have; they are compared without regard to case
abbrev pub media_types : List (List ℕ)
media_types =
    json_type ∷ codes "application/vnd.onem2m-res+json" ∷ codes "application/vnd.onem2m-ntfy+json"
    ∷ []

-- The text is one of the media types that a content may have.
abbrev pub is_media_type : List ℕ → Bool
is_media_type text = list_any (is_same_name text) media_types

-- what a type of content says of the type that is to be created: its number, or nothing
abbrev pub TypeNumber : Type 0
TypeNumber = Option ℕ

-- the parameter that says it
abbrev pub type_parameter : List ℕ
type_parameter = codes "ty"

-- the byte between the name of a parameter and its value
abbrev pub equals_sign : ℕ
equals_sign = 61

-- the most digits of the number of a type
abbrev pub type_digits_limit : ℕ
type_digits_limit = 5

-- 1 to 5 digits
abbrev pub is_type_digits : List ℕ → Bool
is_type_digits text = is_decimal type_digits_limit text

-- what is said with the value of one more `ty`, which has to be digits
abbrev pub type_digits_said : List ℕ → Option TypeNumber
type_digits_said digits =
    if is_type_digits digits then Some (Some (digits_value 10 digits)) else None

-- what is said with one more parameter, behind what was said before: a parameter has a name, which
-- is a token, and a value, on the two sides of the first `=`; other names are unread (RFC 9110,
-- 5.6.6)
abbrev pub parameter_said : TypeNumber → List ℕ → List ℕ → Option TypeNumber
parameter_said before name value =
    if bytes_eq name type_parameter then type_digits_said value
    else (if is_token name then Some before else None)

abbrev pub piece_said : TypeNumber → List ℕ → Option TypeNumber
piece_said before piece =
    option_map_or (parameter_said before (split_once_front equals_sign piece))
    (split_once_back equals_sign piece) None

abbrev pub next_said : Option TypeNumber → List ℕ → Option TypeNumber
next_said before piece =
    option_and_then (λ said. piece_said said (between_spaces piece)) before

-- what the value of a line says of the type that is to be created, by its last `ty`; nothing where
-- the value is no type of content with parameters
abbrev pub type_said : List ℕ → Option TypeNumber
type_said value =
    if is_media_type (front_of value) then fold next_said (Some None) (parameters_of value)
    else None

-- the number of that type
abbrev pub type_number : List ℕ → TypeNumber
type_number value = option_and_then (λ said. said) (type_said value)

-- a number that a type may have
abbrev pub is_short_number : TypeNumber → Bool
is_short_number number = option_map_or is_type_number number true

-- what the line may be: on PUT and on POST a type of content, on POST with the number of a type,
-- if with any; on GET and DELETE anything, since they have no content
abbrev pub admits_type : Method → List ℕ → Bool
admits_type Get value = true
admits_type Delete value = true
admits_type Put value = is_some (type_said value)
admits_type Post value = option_map_or is_short_number (type_said value) false
