-- Reading requests and replies (TS-0004, 8.2.2): the first fault, and what is read where there is
-- none.
use Rattle.std.specs.Prelude.{◌≡◌, ℕ, Bool, not, ◌&&◌, ◌||◌, ◌⊎◌, List, [], Option, Some, None}
use Rattle.std.specs.Prelude.{false, find, is_some, is_none, if◌then◌else◌, codes, option_map}
use Rattle.std.specs.Prelude.{option_and_then, unwrap_or, Result, Ok, Err}
use Rattle.std.specs.Option.{option_or, option_map_or}
use Rattle.m2m_names.specs.declared.codes.Rsc.TheVariants.{Internal}
use Rattle.m2m_names.specs.declared.operations.Op.{Op}
use Rattle.m2m_names.specs.declared.operations.Op.TheVariants.{Create}
use Rattle.m2m_value.specs.Data.{Data, Entry}
use Rattle.m2m_value.specs.Shapes.{may_have_member}
use Rattle.m2m_value.specs.View.{as_number, as_object, as_text, member_of, text_or_empty}
use Rattle.filter_criteria.specs.Conditions as conditions
use Rattle.filter_criteria.specs.Conditions.{is_filter, filter_in, labels_of, relabelled}
use Rattle.filter_criteria.specs.Values.{members_in, read_type_number}
use Rattle.primitive_json.specs.Kinds.{is_address_text, is_originator_text, is_id_text}
use Rattle.primitive_json.specs.Kinds.{is_number_among, address_forms, read_operation}
use Rattle.primitive_json.specs.Kinds.{result_contents, read_response_type, read_expiry}
use Rattle.primitive_json.specs.Kinds.{read_status}
use Rattle.primitive_json.specs.Members.{retrieves, row_of_member, all_members, name_of_member}
use Rattle.primitive_json.specs.Members.{member_named}
use Rattle.primitive_json.specs.Members.{is_one_unread, is_read, is_needed}
use Rattle.filter_criteria.specs.declared.condition.Condition.TheVariants.{OneLabel}
use Rattle.primitive_json.specs.declared.fault.Fault.{Fault}
use Rattle.primitive_json.specs.declared.fault.Fault.TheVariants as lent
use Rattle.primitive_json.specs.declared.fault.PrimFault.{PrimFault}
use Rattle.primitive_json.specs.declared.fault.PrimFault.TheVariants.{Missing, Bad, OutOfMemory}
use Rattle.primitive_json.specs.declared.kept.Kept.{Kept}
use Rattle.primitive_json.specs.declared.member.Member.{Member}
use Rattle.primitive_json.specs.declared.member.Member.TheVariants.{DesiredForm, FilterCriteria}
use Rattle.primitive_json.specs.declared.member.Member.TheVariants.{Originator, Operation, Content}
use Rattle.primitive_json.specs.declared.member.Member.TheVariants.{ResultContent, Expiry}
use Rattle.primitive_json.specs.declared.member.Member.TheVariants.{RequestId, ResponseType, Target}
use Rattle.primitive_json.specs.declared.member.Member.TheVariants.{ResourceType}
use Rattle.primitive_json.specs.declared.member.MemberKind.{MemberKind}
use Rattle.primitive_json.specs.declared.member.MemberKind.TheVariants.{AddressForm, FilterObject}
use Rattle.primitive_json.specs.declared.member.MemberKind.TheVariants.{OriginatorText}
use Rattle.primitive_json.specs.declared.member.MemberKind.TheVariants.{OperationNumber}
use Rattle.primitive_json.specs.declared.member.MemberKind.TheVariants.{AnyObject, ResultNumber}
use Rattle.primitive_json.specs.declared.member.MemberKind.TheVariants.{ExpiryTime, IdText}
use Rattle.primitive_json.specs.declared.member.MemberKind.TheVariants.{ResponseForm, AddressText}
use Rattle.primitive_json.specs.declared.member.MemberKind.TheVariants.{TypeNumber}
use Rattle.primitive_json.specs.declared.request.RequestParts.{RequestParts}
use Rattle.primitive_json.specs.declared.reply.ReplyParts.{ReplyParts}

-- ---- the answer of a reader

-- what is read, or the first fault
abbrev pub read_as : {A : Type 0} → Option PrimFault → A → Result A PrimFault
read_as None made = Ok made
read_as (Some fault) made = Err fault

-- the answer is the one that is told, unless memory ran out
abbrev pub Answers : {A : Type 0} → Result A PrimFault → Result A PrimFault → Type 0
Answers (Ok a) told = told ≡ Ok a
Answers (Err fault) told = (fault ≡ OutOfMemory) ⊎ (told ≡ Err fault)

-- The fault of a reader, with a name of its own in place of the one that is lent.
abbrev pub kept_fault : Fault → PrimFault
kept_fault (lent.Missing name) = Missing name.now
kept_fault (lent.Bad name) = Bad name.now

-- ---- the first fault of a request

-- the value is of the kind, on an operation as far as that is known
abbrev pub is_of_kind : Option Op → MemberKind → Data → Bool
is_of_kind op AddressForm d = is_number_among address_forms d
is_of_kind op FilterObject d = option_map_or retrieves op false && is_filter d
is_of_kind op OriginatorText d = is_originator_text d
is_of_kind op OperationNumber d = is_some (read_operation d)
is_of_kind op AnyObject d = is_some (as_object d)
is_of_kind op ResultNumber d = option_map_or (λ o. is_number_among (result_contents o) d) op false
is_of_kind op ExpiryTime d = is_some (read_expiry d)
is_of_kind op IdText d = is_id_text d
is_of_kind op ResponseForm d = is_some (read_response_type d)
is_of_kind op AddressText d = is_address_text d
is_of_kind op TypeNumber d = is_some (read_type_number d)

-- a member is good that is not read there, or whose value is of its kind
abbrev pub is_good_member : Option Op → Data → Member → Bool
is_good_member op d member = not (is_read op member) || is_of_kind op (row_of_member member).kind d

-- An entry is good whose name is that of a good member, or of a member that is never read; any
-- other name is that of no member.
abbrev pub is_good : Option Op → Entry → Bool
is_good op e = option_map_or (is_good_member op e.1) (member_named e.0) (is_one_unread e.0)

-- a member must be there and isn't
abbrev pub is_missing : Option Op → List Entry → Member → Bool
is_missing op es member = is_needed op member && is_none (member_of (name_of_member member) es)

-- the first such member, in byte order
abbrev pub missing_member : Option Op → List Entry → Option Member
missing_member op es = find (is_missing op es) all_members

-- the first entry that is not good, in the order of the entries
abbrev pub bad_entry : Option Op → List Entry → Option Entry
bad_entry op es = find (λ e. not (is_good op e)) es

-- a member that is missing comes before one that is bad
abbrev pub request_fault : Option Op → List Entry → Option PrimFault
request_fault op es =
    option_or (option_map (λ member. Missing (name_of_member member)) (missing_member op es))
    (option_map (λ e. Bad e.0) (bad_entry op es))

-- ---- a request

-- the value of a member, where it is read on the operation
abbrev pub value_read : Op → Member → List Entry → Option Data
value_read op member es =
    if is_read (Some op) member then member_of (name_of_member member) es else None

-- The operation that members name by its number.
abbrev pub operation_in : List Entry → Option Op
operation_in es = option_and_then read_operation (member_of (name_of_member Operation) es)

-- the request that members make which have no fault: then those are there that must be, and each
-- that is read is of its kind
abbrev pub request_made : Op → List Entry → RequestParts
request_made op es = record {
  op = op;
  to = text_or_empty (value_read op Target es);
  fr = option_and_then as_text (value_read op Originator es);
  rqi = text_or_empty (value_read op RequestId es);
  ty = option_and_then read_type_number (value_read op ResourceType es);
  pc = value_read op Content es;
  rqet = option_and_then read_expiry (value_read op Expiry es);
  rt = option_and_then read_response_type (value_read op ResponseType es);
  rcn = option_and_then as_number (value_read op ResultContent es);
  fc = option_map (λ d. filter_in (members_in d)) (value_read op FilterCriteria es);
  drt = option_and_then as_number (value_read op DesiredForm es);
}

-- the request with neither texts, nor content, nor the labels of its filter
abbrev pub plain_in : Op → List Entry → RequestParts
plain_in op es = record (request_made op es) {
  to = [];
  fr = None;
  rqi = [];
  pc = None;
  fc = option_map (relabelled []) (request_made op es).fc;
}

-- the values of which these are made
abbrev pub kept_in : Op → List Entry → Kept
kept_in op es = record {
  to = value_read op Target es;
  fr = value_read op Originator es;
  rqi = value_read op RequestId es;
  pc = value_read op Content es;
  lbl =
      option_and_then (λ d. member_of (conditions.name_of_condition OneLabel) (members_in d))
      (value_read op FilterCriteria es);
}

-- a request with what is made of these values in place of its own
abbrev pub with_kept : RequestParts → Kept → RequestParts
with_kept plain kept = record plain {
  to = text_or_empty kept.to;
  fr = option_and_then as_text kept.fr;
  rqi = text_or_empty kept.rqi;
  pc = kept.pc;
  fc = option_map (relabelled (labels_of kept.lbl)) plain.fc;
}

-- The request that members make, or their first fault.
abbrev pub request_of_members : List Entry → Result RequestParts PrimFault
request_of_members es =
    let op = operation_in es in
    read_as (request_fault op es) (request_made (unwrap_or op Create) es)

-- the request that a value is
abbrev pub read_request : Data → Result RequestParts PrimFault
read_request d = request_of_members (members_in d)

-- ---- a reply

-- `rsc` is the name of the response status code in a reply (TS-0004, 8.2.2).
abbrev pub rsc_name : List ℕ
rsc_name = codes "rsc"

-- `rqi` is the name of the request identifier, in a reply as in a request (TS-0004, 8.2.2).
abbrev pub rqi_name : List ℕ
rqi_name = name_of_member RequestId

-- `pc` is the name of the content, in a reply as in a request (TS-0004, 8.2.2).
abbrev pub pc_name : List ℕ
pc_name = name_of_member Content

-- the first fault of a reply: the status code must be there; the request identifier comes before it
-- in byte order
abbrev pub reply_fault : List Entry → Option PrimFault
reply_fault es =
    if is_none (member_of rsc_name es) then Some (Missing rsc_name)
    else (if not (may_have_member rqi_name is_id_text es) then Some (Bad rqi_name)
    else (if not (may_have_member rsc_name (λ d. is_some (read_status d)) es)
    then Some (Bad rsc_name) else None))

-- the reply that members make which have no fault
abbrev pub reply_made : List Entry → ReplyParts
reply_made es = record {
  rsc = unwrap_or (option_and_then read_status (member_of rsc_name es)) Internal;
  rqi = option_and_then as_text (member_of rqi_name es);
  pc = member_of pc_name es;
}

-- The reply that members make, or their first fault.
abbrev pub reply_of_members : List Entry → Result ReplyParts PrimFault
reply_of_members es = read_as (reply_fault es) (reply_made es)

-- the reply that a value is
abbrev pub read_reply : Data → Result ReplyParts PrimFault
read_reply d = reply_of_members (members_in d)
