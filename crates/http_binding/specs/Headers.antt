-- The header fields of the binding, and what they may say (TS-0009, 6.4; RFC 9110, section 5).
use Rattle.std.specs.Prelude.{ℕ, Bool, not, ◌||◌, nat_lt, List, length, codes, bytes_eq}
use Rattle.std.specs.Prelude.{is_some}
use Rattle.m2m_names.specs.Name.{is_originator}
use Rattle.primitive_json.specs.Bounds.{is_request_id}
use Rattle.primitive_json.specs.Kinds.{expiry_spelled}
pub use Rattle.http_frames.specs.Body.{length_field}
use Rattle.http_binding.specs.MediaTypes.{admits_type}
use Rattle.http_binding.specs.declared.headers.Field.{Field}
use Rattle.http_binding.specs.declared.headers.Field.TheVariants.{Origin, Id, Expiry, ContentType}
use Rattle.http_binding.specs.declared.headers.Field.TheVariants.{ContentEncoding}

-- the names of the fields that say who asks, which request it is, when it expires, and of which
-- type its content is, as they are written; names are compared without regard to case
abbrev pub origin_field : List ℕ
origin_field = codes "X-M2M-Origin"

abbrev pub id_field : List ℕ
id_field = codes "X-M2M-RI"

abbrev pub expiry_field : List ℕ
expiry_field = codes "X-M2M-RET"

abbrev pub type_field : List ℕ
type_field = codes "Content-Type"

-- the name of a field that is read in a request
abbrev pub field_name : Field → List ℕ
field_name Origin = origin_field
field_name Id = id_field
field_name Expiry = expiry_field
field_name (ContentType method) = type_field
field_name ContentEncoding = codes "Content-Encoding"

-- the names of other fields that are written, or read in a reply
abbrev pub code_field : List ℕ
code_field = codes "X-M2M-RSC"

abbrev pub connection_field : List ℕ
connection_field = codes "Connection"

-- what it says where the connection closes behind the message (RFC 9112, section 9.6)
abbrev pub close_option : List ℕ
close_option = codes "close"

-- a text of at least one byte
abbrev pub is_some_text : List ℕ → Bool
is_some_text text = nat_lt 0 (length text)

-- the values that a field may have: an originator or nothing, a request identifier, a timestamp or
-- digits, a type of content as the method has it, and the coding `identity`
abbrev pub admits_value : Field → List ℕ → Bool
admits_value Origin value = not (is_some_text value) || is_originator value
admits_value Id value = is_request_id value
admits_value Expiry value = is_some (expiry_spelled value)
admits_value (ContentType method) value = admits_type method value
admits_value ContentEncoding value = bytes_eq value (codes "identity")
