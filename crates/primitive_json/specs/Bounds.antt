-- What the request identifiers of primitives keep to.
use Rattle.std.specs.Prelude.{ℕ, Bool, List}
use Rattle.m2m_names.specs.Name.{is_printable}

-- the most bytes that a request identifier has
abbrev pub request_id_limit : ℕ
request_id_limit = 128

-- a request identifier: 1 to 128 printable ASCII characters without a space (TS-0001, 8.1.2; the
-- length is the profile's)
abbrev pub is_request_id : List ℕ → Bool
is_request_id text = is_printable request_id_limit text
