-- Requests and replies as values (TS-0004, 8.2.2): the members that are there, in byte order of
-- their names.
use Rattle.std.specs.Prelude.{ℕ, Bool, ℤ, pos, List, [], ◌∷◌, map, Option, Some, None}
use Rattle.std.specs.Prelude.{if◌then◌else◌, option_map}
use Rattle.std.specs.Fmt.{decimal}
use Rattle.std.specs.List.{filter_map}
use Rattle.m2m_names.specs.Operations.{op_row}
use Rattle.m2m_names.specs.Stamps.{timestamp}
use Rattle.m2m_names.specs.StatusCodes.{rsc_row}
use Rattle.m2m_value.specs.Data.{Data, number, text, list, object, Entry, elements_of, pairs_of}
use Rattle.filter_criteria.specs.Values.{NamedValue, object_of, count_data}
use Rattle.filter_criteria.specs.Writing.{written_filter}
use Rattle.primitive_json.specs.Members.{creates, retrieves, has_content, all_members}
use Rattle.primitive_json.specs.Members.{name_of_member}
use Rattle.primitive_json.specs.Reading.{rsc_name, rqi_name, pc_name}
use Rattle.primitive_json.specs.declared.member.Member.{Member}
use Rattle.primitive_json.specs.declared.member.Member.TheVariants.{DesiredForm, FilterCriteria}
use Rattle.primitive_json.specs.declared.member.Member.TheVariants.{Originator, Operation, Content}
use Rattle.primitive_json.specs.declared.member.Member.TheVariants.{ResultContent, Expiry}
use Rattle.primitive_json.specs.declared.member.Member.TheVariants.{RequestId, ResponseType, Target}
use Rattle.primitive_json.specs.declared.member.Member.TheVariants.{ResourceType}
use Rattle.primitive_json.specs.declared.request.RequestParts.{RequestParts}
use Rattle.primitive_json.specs.declared.request.When.{When}
use Rattle.primitive_json.specs.declared.request.When.TheVariants.{At, Millis}
use Rattle.primitive_json.specs.declared.reply.ReplyParts.{ReplyParts}

-- the value, on the operations that it is for
abbrev pub only_where : {A : Type 0} → Bool → Option A → Option A
only_where is_there value = if is_there then value else None

-- ---- the parts

-- when a request expires: a timestamp, or milliseconds by their digits
abbrev pub expiry_text : When → List ℕ
expiry_text (At at) = timestamp at
expiry_text (Millis n) = decimal n

-- When a request expires, as a JSON text.
abbrev pub expiry_data : When → Data
expiry_data when = text (expiry_text when)

-- ---- a request

-- A Retrieve has its filter criteria as `fc`, where it has any; no other operation has them
-- (TS-0001, 8.1.2).
abbrev pub filter_value : RequestParts → Option Data
filter_value r = only_where (retrieves r.op) (option_map written_filter r.fc)

-- A Create, an Update and a Notify have their content as `pc`, where they have one; no other
-- operation has it (TS-0001, 8.1.2).
abbrev pub content_value : RequestParts → Option Data
content_value r = only_where (has_content r.op) r.pc

-- A Create has the number of the type that it creates as `ty`, where it names one; no other
-- operation has it (TS-0001, 8.1.2).
abbrev pub type_value : RequestParts → Option Data
type_value r = only_where (creates r.op) (option_map count_data r.ty)

-- what is written of a member
abbrev pub member_value : RequestParts → Member → Option Data
member_value r DesiredForm = option_map number r.drt
member_value r FilterCriteria = filter_value r
member_value r Originator = option_map text r.fr
member_value r Operation = Some (number (op_row r.op).number)
member_value r Content = content_value r
member_value r ResultContent = option_map number r.rcn
member_value r Expiry = option_map expiry_data r.rqet
member_value r RequestId = Some (text r.rqi)
member_value r ResponseType = option_map number r.rt
member_value r Target = Some (text r.to)
member_value r ResourceType = type_value r

-- A member's short name with what is written of it.
abbrev pub written_member : RequestParts → Member → NamedValue
written_member r member = (name_of_member member, member_value r member)

-- The JSON object that a request is written as: the members that are there, in byte order of their
-- names (TS-0004, 8.2.2).
abbrev pub written_request : RequestParts → Data
written_request r = object_of (map (written_member r) all_members)

-- ---- a reply

-- The members of a reply in byte order of their names: content and request identifier where they
-- are there, and always the status code (TS-0004, 8.2.2).
abbrev pub reply_rows : ReplyParts → List NamedValue
reply_rows r =
    (pc_name, r.pc) ∷ (rqi_name, option_map text r.rqi) ∷
    (rsc_name, Some (count_data (rsc_row r.rsc).number)) ∷ []

-- The JSON object that a reply is written as (TS-0004, 8.2.2).
abbrev pub written_reply : ReplyParts → Data
written_reply r = object_of (reply_rows r)
