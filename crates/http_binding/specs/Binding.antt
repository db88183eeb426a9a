-- The request that a frame binds to, or the first fault of the frame (TS-0009, 6.2 to 6.5).
use Rattle.std.specs.Prelude.{◌≡◌, ℕ, ℤ, List, [], ◌∷◌, is_some, Option, Some}
use Rattle.std.specs.Prelude.{None, Result, Ok, Err, if◌then◌else◌, option_and_then}
use Rattle.std.specs.Option.{option_map_or}
use Rattle.std.specs.Result.{result_unwrap_or}
use Rattle.m2m_names.specs.declared.operations.Op.{Op}
use Rattle.m2m_value.specs.Data.{Data}
use Rattle.m2m_value.specs.Reading.{reading}
use Rattle.m2m_value.specs.View.{as_object}
use Rattle.m2m_value.specs.declared.fault.ValFault.{ValFault}
use Rattle.m2m_value.specs.declared.fault.ValFault.TheVariants.{NotJson}
use Rattle.primitive_json.specs.Kinds.{expiry_spelled}
use Rattle.primitive_json.specs.Members.{creates, has_content, has_result, name_of_member}
use Rattle.primitive_json.specs.Writing.{only_where}
use Rattle.primitive_json.specs.declared.member.Member.TheVariants as members
use Rattle.primitive_json.specs.declared.request.RequestParts.{RequestParts}
use Rattle.primitive_json.specs.declared.request.When.{When}
use Rattle.http_frames.specs.declared.frame.Start.{Start}
use Rattle.http_frames.specs.declared.frame.Start.TheVariants.{Ask, Answer}
use Rattle.http_frames.specs.declared.frame.Frame.{Frame}
use Rattle.http_frames.specs.Lines.{Line, values_named}
use Rattle.http_target.specs.Chain.{and_then}
use Rattle.http_target.specs.Said.{target_of, query_said}
use Rattle.http_target.specs.declared.fault.BindFault.{BindFault}
use Rattle.http_target.specs.declared.fault.BindFault.TheVariants as bind
use Rattle.http_binding.specs.declared.headers.Field.{Field}
use Rattle.http_binding.specs.declared.headers.Field.TheVariants.{Origin, Id, Expiry, ContentType}
use Rattle.http_binding.specs.declared.headers.Field.TheVariants.{ContentEncoding}
use Rattle.http_binding.specs.declared.method.Method.{Method}
use Rattle.http_target.specs.declared.query.Query.{Query}
use Rattle.http_binding.specs.Headers.{field_name, admits_value, is_some_text}
use Rattle.http_binding.specs.MediaTypes.{type_number}
use Rattle.http_binding.specs.Methods.{method_named, operation_of}

-- ---- the start line

-- The method of a start line: one of those that are served, else the fault of the method. The start
-- line of a response has none (TS-0009, 6.2.1).
abbrev pub method_of : Start → Result Method BindFault
method_of (Ask name target minor) =
    option_map_or (λ method. Ok method) (method_named name) (Err bind.Method)
method_of (Answer status minor) = Err bind.Method

-- ---- the header lines

-- The only value of a field, which the field has to admit; none where the field has no value. With
-- more than one the field is at fault.
abbrev pub lone_value : Field → List (List ℕ) → Result (Option (List ℕ)) BindFault
lone_value field [] = Ok None
lone_value field (value ∷ []) =
    if admits_value field value then Ok (Some value) else Err (bind.Header (field_name field))
lone_value field (value ∷ next ∷ values) = Err (bind.Header (field_name field))

-- what the lines say of a field (TS-0009, 6.4; RFC 9110, section 5.3)
abbrev pub header_value : Field → List Line → Result (Option (List ℕ)) BindFault
header_value field lines = lone_value field (values_named (field_name field) lines)

-- what the lines say of each field
pub record HeaderValues : Type 0 where
  pub origin : Option (List ℕ)
  pub id : Option (List ℕ)
  pub expiry : Option (List ℕ)
  pub type : Option (List ℕ)

-- the fields in the order in which their faults are told
abbrev pub header_values : Method → List Line → Result HeaderValues BindFault
header_values method lines =
    and_then (header_value Origin lines) λ origin.
    and_then (header_value Id lines) λ id.
    and_then (header_value Expiry lines) λ expiry.
    and_then (header_value (ContentType method) lines) λ type.
    and_then (header_value ContentEncoding lines) λ encoding.
    Ok (record { origin = origin; id = id; expiry = expiry; type = type })

-- the value of a field that has to be there (TS-0001, 8.1.2)
abbrev pub required : Field → Option (List ℕ) → Result (List ℕ) BindFault
required field None = Err (bind.Missing (field_name field))
required field (Some value) = Ok value

-- a value that is empty says nothing (TS-0009, 6.4)
abbrev pub unless_empty : Option (List ℕ) → Option (List ℕ)
unless_empty None = None
unless_empty (Some value) = if is_some_text value then Some value else None

-- who asks, where that is said, the identifier of the request, when it expires, and the number of
-- the type that is to be created
pub record Caller : Type 0 where
  pub originator : Option (List ℕ)
  pub id : List ℕ
  pub expiry : Option When
  pub type : Option ℕ

-- the caller that the lines name
abbrev pub caller_of : Method → List Line → Result Caller BindFault
caller_of method lines =
    and_then (header_values method lines) λ values.
    and_then (required Id values.id) λ id.
    Ok (record {
      originator = unless_empty values.origin;
      id = id;
      expiry = option_and_then expiry_spelled values.expiry;
      type = option_and_then type_number values.type;
    })

-- ---- the body

-- the value that was read of a body
abbrev pub value_in : Result Data ValFault → Result Data BindFault
value_in (Ok value) = Ok value
value_in (Err why) = Err (bind.Body why)

-- the content of a request is an object (TS-0004, 8.2.2)
abbrev pub object_only : Data → Result (Option Data) BindFault
object_only value = if is_some (as_object value) then Ok (Some value) else Err (bind.Body NotJson)

-- The content that a body is: its JSON value, which has to be an object. An empty body is refused,
-- since the content is missing (TS-0009, 6.5).
abbrev pub content_in : List ℕ → Result (Option Data) BindFault
content_in body =
    if is_some_text body then and_then (value_in (reading body)) object_only
    else Err (bind.Missing (name_of_member members.Content))

-- the content that a body has, on an operation that has one; any other body is unread
abbrev pub content_of : Op → List ℕ → Result (Option Data) BindFault
content_of op body = if has_content op then content_in body else Ok None

-- ---- the request

-- the number of a type, on a Create; else it is unread
abbrev pub created_type : Op → Option ℕ → Option ℕ
created_type op type = only_where (creates op) type

-- the content of the result, on an operation that has any; else it is unread
abbrev pub kept_result : Op → Option ℤ → Option ℤ
kept_result op number = only_where (has_result op) number

-- the request of these parts
abbrev pub request_of : Op → List ℕ → Caller → Query → Option Data → RequestParts
request_of op to caller query content = record {
  op = op;
  to = to;
  fr = caller.originator;
  rqi = caller.id;
  ty = created_type op caller.type;
  pc = content;
  rqet = caller.expiry;
  rt = query.rt;
  rcn = kept_result op query.rcn;
  fc = query.fc;
  drt = query.drt;
}

-- the request that a frame binds to, or its first fault (TS-0009, 6)
abbrev pub binding : Frame → Result RequestParts BindFault
binding frame =
    and_then (method_of frame.start) λ method.
    and_then (target_of frame.start) λ target.
    and_then (caller_of method frame.lines) λ caller.
    and_then (query_said (operation_of method caller.type) target.query) λ query.
    and_then (content_of (operation_of method caller.type) frame.body) λ content.
    Ok (request_of (operation_of method caller.type) target.to caller query content)

-- The frame binds to this request, and so to no other.
abbrev pub Binds : Frame → RequestParts → Type 0
Binds frame request = binding frame ≡ Ok request

-- the identifier that a reply to the frame repeats: what the lines say of it, where they say it
-- without a fault
abbrev pub echo_of : Frame → Option (List ℕ)
echo_of frame = result_unwrap_or (header_value Id frame.lines) None
