-- Names, resource ids and originators as texts.
use Rattle.std.specs.Prelude.{ℕ, ◌==◌, nat_eq, nat_lt, nat_le, Bool, not, ◌&&◌, ◌||◌, List, [], ◌∷◌}
use Rattle.std.specs.Prelude.{length, drop, codes}
use Rattle.std.specs.List.{list_all, list_any, starts_with}
use Rattle.std.specs.Char.{is_ascii_alphanumeric, is_ascii_digit, is_ascii_graphic}
use Rattle.std.specs.Str.{bytes_eq}
use Rattle.m2m_names.specs.Types.{ty_row, all_types}

-- a length from 1 to the greatest
abbrev pub is_length : ℕ → ℕ → Bool
is_length most n = nat_lt 0 n && nat_le n most

-- a text of such a length
abbrev pub is_filled : ℕ → List ℕ → Bool
is_filled most text = is_length most (length text)

-- the most digits of a number that a text spells
abbrev pub numeral_limit : ℕ
numeral_limit = 18

-- 1 to so many decimal digits
abbrev pub is_decimal : ℕ → List ℕ → Bool
is_decimal most text = is_filled most text && list_all is_ascii_digit text

-- 1 to so many printable ASCII characters without a space
abbrev pub is_printable : ℕ → List ℕ → Bool
is_printable most text = is_filled most text && list_all is_ascii_graphic text

-- 1 to 18 decimal digits
abbrev pub is_numeral : List ℕ → Bool
is_numeral text = is_decimal numeral_limit text

-- the most bytes that a name of a resource has
abbrev pub name_limit : ℕ
name_limit = 64

-- the most bytes that an originator has
abbrev pub originator_limit : ℕ
originator_limit = 256

-- an unreserved character of a URI (RFC 3986, 2.3)
abbrev pub is_unreserved : ℕ → Bool
is_unreserved byte = is_ascii_alphanumeric byte || list_any (λ mark. mark == byte) (codes "-._~")

-- a name of a resource: 1 to 64 unreserved characters (TS-0001, 9.6.1.3; the length is the
-- profile's)
abbrev pub is_name : List ℕ → Bool
is_name text = is_filled name_limit text && list_all is_unreserved text

-- the names of virtual resources (TS-0001, 9.6): the newest and the oldest instance, the fan-out
-- point, the poll point
abbrev pub newest_name : List ℕ
newest_name = codes "la"

abbrev pub oldest_name : List ℕ
oldest_name = codes "ol"

abbrev pub fan_name : List ℕ
fan_name = codes "fopt"

abbrev pub poll_name : List ℕ
poll_name = codes "pcu"

-- The names of all virtual resources (TS-0001, 9.6).
abbrev pub virtual_names : List (List ℕ)
virtual_names = newest_name ∷ oldest_name ∷ fan_name ∷ poll_name ∷ []

-- what stands for the CSEBase (TS-0001, 9.3.1)
abbrev pub base_mark : List ℕ
base_mark = codes "-"

-- the texts that stand for a part of an address (TS-0009, 6.2.2; RFC 3986, 5.2.4)
abbrev pub address_marks : List (List ℕ)
address_marks = base_mark ∷ codes "~" ∷ codes "_" ∷ codes "." ∷ codes ".." ∷ []

-- one of these texts
abbrev pub is_one_of : List (List ℕ) → List ℕ → Bool
is_one_of texts text = list_any (bytes_eq text) texts

-- a name that a resource may be given: it addresses nothing else
abbrev pub is_free_name : List ℕ → Bool
is_free_name text = is_name text
    && not (is_one_of virtual_names text || is_one_of address_marks text)

-- a word and then at least one digit
abbrev pub is_numbered : List ℕ → List ℕ → Bool
is_numbered word text = starts_with nat_eq text word
    && nat_lt (length word) (length text) && list_all is_ascii_digit (drop (length word) text)

-- a text in the form of a resource id: the short word of a type and digits. This is looser than
-- `id_parts`, which reads digits as a number is written alone, since a CSEBase has no name that
-- even looks like an id, as `cnt007` does.
abbrev pub is_resource_id : List ℕ → Bool
is_resource_id text = list_any (λ ty. is_numbered (ty_row ty).word text) all_types

-- a text in the form of the id of a request that is answered later: `req` and digits
abbrev pub is_request_id : List ℕ → Bool
is_request_id text = is_numbered (codes "req") text

-- an originator: 1 to 256 printable ASCII characters without a space (TS-0004, 6.3.3)
abbrev pub is_originator : List ℕ → Bool
is_originator text = is_printable originator_limit text

-- an originator that doesn't begin with `/`
abbrev pub is_local_originator : List ℕ → Bool
is_local_originator text = is_originator text && not (starts_with nat_eq text (codes "/"))
