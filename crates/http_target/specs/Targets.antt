-- The target of a request: its path and its query (RFC 9112, section 3.2), and the address that a
-- path is (TS-0009, 6.2.2).
use Rattle.std.specs.Prelude.{ℕ, ◌+◌, ◌-◌, ◌==◌, nat_eq, nat_lt, nat_le, Bool, true, false, not}
use Rattle.std.specs.Prelude.{◌&&◌, ◌||◌, List, [], ◌∷◌, ◌++◌, length, take, drop, slice_index}
use Rattle.std.specs.Prelude.{codes}
use Rattle.std.specs.Prelude.{Option, Some, None, if◌then◌else◌, unwrap_or}
use Rattle.std.specs.List.{list_all, starts_with}
use Rattle.std.specs.Option.{option_map_or}
use Rattle.std.specs.Str.{is_utf8}
use Rattle.http_uri.specs.ByteClasses.{slash, percent_sign, question_mark, at_sign, colon}
use Rattle.http_uri.specs.ByteClasses.{left_bracket, right_bracket, is_path_byte, is_query_byte}
use Rattle.http_uri.specs.ByteClasses.{is_authority_byte, is_delimiter, count_of}
use Rattle.http_uri.specs.ByteClasses.{split_once_front, split_once_back}
use Rattle.http_uri.specs.Grammar.{path_of, query_of, without_fragment, last_piece, scheme_len}
use Rattle.http_uri.specs.Grammar.{authority_len}
use Rattle.m2m_names.specs.Name.{is_filled}
use Rattle.primitive_json.specs.Kinds.{target_limit}

-- ---- the forms of a target

-- the path of a target, and its query, where it has one
pub record PathAndQuery : Type 0 where
  pub path : List ℕ
  pub query : Option (List ℕ)

-- A target as its path and its query (RFC 9112, section 3.2).
abbrev pub split_target : List ℕ → PathAndQuery
split_target text = record { path = path_of text; query = query_of text }

-- a path and perhaps a query, of the bytes that these may have
abbrev pub is_path_and_query : List ℕ → Bool
is_path_and_query text =
    list_all is_path_byte (split_once_front question_mark text)
    && option_map_or (list_all is_query_byte) (split_once_back question_mark text) true
    && is_utf8 text

-- the most bytes that a URI has
abbrev pub uri_limit : ℕ
uri_limit = 65534

-- origin-form: `/`, a path and perhaps a query; a fragment is dropped (RFC 9112, section 3.2.1)
abbrev pub is_origin_form : List ℕ → Bool
is_origin_form target =
    starts_with nat_eq target (codes "/") && nat_le (length target) uri_limit
    && is_path_and_query (without_fragment target)

-- ---- absolute-form

-- what stands behind a scheme and `://`
abbrev pub hierarchy_of : List ℕ → List ℕ
hierarchy_of text = drop (scheme_len text + 3) text

-- the authority, up to the next `/`, `?` or `#`
abbrev pub authority_of : List ℕ → List ℕ
authority_of text = take (authority_len (hierarchy_of text)) (hierarchy_of text)

-- What stands behind the authority of a URL: its path and its query.
abbrev pub tail_of : List ℕ → List ℕ
tail_of text = drop (authority_len (hierarchy_of text)) (hierarchy_of text)

-- the most bytes that a scheme has
abbrev pub scheme_limit : ℕ
scheme_limit = 64

-- a scheme, and `://`
abbrev pub has_scheme : List ℕ → Bool
has_scheme text =
    nat_le (scheme_len text) scheme_limit
    && starts_with nat_eq (drop (scheme_len text) text) (codes "://")

-- the most colons that a piece of an authority has, as the crate http_uri takes it
abbrev pub colons_limit : ℕ
colons_limit = 8

-- the byte may follow the front of an authority: at most so many colons stand in a piece, and one
-- pair of brackets in all, with no `%` before it
unfoldable pub may_follow : List ℕ → ℕ → Bool
may_follow front b =
    is_authority_byte b
    && (not (b == colon) || nat_lt (count_of colon (last_piece front)) colons_limit)
    && (not (b == left_bracket)
    || ((count_of left_bracket front == 0) && (count_of percent_sign (last_piece front) == 0)))
    && (not (b == right_bracket)
    || (nat_lt 0 (count_of left_bracket front) && (count_of right_bracket front == 0)))

-- Each of these bytes may follow those before it in an authority.
abbrev pub may_all_follow : List ℕ → List ℕ → Bool
may_all_follow front [] = true
may_all_follow front (b ∷ bytes) = may_follow front b && may_all_follow (front ++ b ∷ []) bytes

-- userinfo, host and port: brackets are closed, and the last piece, which is host and port, has one
-- colon at most, no `%`, and a byte behind an `@`
unfoldable pub is_authority : List ℕ → Bool
is_authority text =
    nat_lt 0 (length text)
    && may_all_follow [] text
    && (count_of left_bracket text == count_of right_bracket text)
    && nat_le (count_of colon (last_piece text)) 1
    && (count_of percent_sign (last_piece text) == 0)
    && not (slice_index text (length text - 1) == at_sign)

-- nothing, or a path and perhaps a query; a fragment is dropped
abbrev pub is_tail : List ℕ → Bool
is_tail text =
    (length text == 0)
    || (is_delimiter (slice_index text 0) && is_path_and_query (without_fragment text))

-- absolute-form: a scheme, `://`, an authority that the crate http_uri reads as one, and a tail
-- (RFC 9112, section 3.2.2; RFC 3986, section 3)
unfoldable pub is_absolute_form : List ℕ → Bool
is_absolute_form target =
    nat_le (length target) uri_limit && has_scheme target && is_tail (tail_of target)
    && is_authority (authority_of target)

-- ---- both forms

-- the path and the query of a target
abbrev pub target_parts : List ℕ → Option PathAndQuery
target_parts target =
    if is_origin_form target then Some (split_target (without_fragment target))
    else (if is_absolute_form target then Some (split_target (without_fragment (tail_of target)))
    else None)

-- ---- the address that a path is

-- the three bytes are `%7E` or `%7e`
abbrev pub is_coded_tilde : ℕ → ℕ → ℕ → Bool
is_coded_tilde a b c = (a == percent_sign) && (b == 55) && ((c == 69) || (c == 101))

-- The first three bytes are `%7E` or `%7e`.
abbrev pub begins_coded : List ℕ → Bool
begins_coded [] = false
begins_coded (a ∷ []) = false
begins_coded (a ∷ b ∷ []) = false
begins_coded (a ∷ b ∷ c ∷ path) = is_coded_tilde a b c

-- a byte at which no coded byte begins
abbrev pub is_uncoded_byte : ℕ → Bool
is_uncoded_byte byte = not (byte == percent_sign)

-- the path with `~` for each `%7E` and `%7e` (RFC 3986, section 2.3); nothing else is decoded
unfoldable pub with_tildes : List ℕ → List ℕ
with_tildes [] = []
with_tildes (a ∷ []) = a ∷ []
with_tildes (a ∷ b ∷ []) = a ∷ b ∷ []
with_tildes (a ∷ b ∷ c ∷ path) =
    if is_coded_tilde a b c then 126 ∷ with_tildes path else a ∷ with_tildes (b ∷ c ∷ path)

-- the text begins with a segment of at least one byte
abbrev pub has_segment : List ℕ → Bool
has_segment text = nat_lt 0 (length (split_once_front slash text))

-- `/~/` and a CSE-ID, whose slash is left out
abbrev pub is_of_sp : List ℕ → Bool
is_of_sp path = starts_with nat_eq path (codes "/~/") && has_segment (drop 3 path)

-- an M2M service provider and, behind a slash, a CSE-ID
abbrev pub has_provider : List ℕ → Bool
has_provider text =
    has_segment text && option_map_or has_segment (split_once_back slash text) false

-- `/_/` and these two
abbrev pub is_of_world : List ℕ → Bool
is_of_world path = starts_with nat_eq path (codes "/_/") && has_provider (drop 3 path)

-- the address that a path is: `/c/x` of `/~/c/x`, `//s/c/x` of `/_/s/c/x`, and else what stands
-- behind the slash (TS-0009, 6.2.2.2)
abbrev pub address_of_path : List ℕ → List ℕ
address_of_path path =
    if is_of_sp path then drop 2 path
    else (if is_of_world path then slash ∷ drop 2 path else drop 1 path)

-- what a target says: the address, and the query, which is empty where there is none
pub record TargetValues : Type 0 where
  pub to : List ℕ
  pub query : List ℕ

-- What a path and a query say: the address that the path is, and the query, or the empty one.
abbrev pub target_values : PathAndQuery → TargetValues
target_values parts = record {
  to = address_of_path (with_tildes parts.path);
  query = unwrap_or parts.query [];
}

-- the address is a text of 1 to 1,024 bytes (the length is the profile's)
abbrev pub is_target : TargetValues → Bool
is_target values = is_filled target_limit values.to && is_utf8 values.to
