-- What is known of a frame that binds.
use Rattle.std.proofs.Common.{◌≡◌, ◌<◌, ◌^◌, ℕ, Bool, true, false, not, ◌||◌, List, [], ◌∷◌, Option, Some, None, is_some, Result, Ok, Err, IfSome, refl, sym, ap, subst, ◌∙◌, arith}
use Rattle.std.specs.Bool.{if◌then◌else◌}
use Rattle.std.specs.Prelude.{ℤ, option_and_then, option_map}
use Rattle.std.specs.Option.{option_map_or, option_or}
use Rattle.std.specs.Str.{IsUtf8}
use Rattle.std.specs.Str.Parse.{digits_value}
use Rattle.std.specs.Result.{result_unwrap_or, is_ok}
use Rattle.std.proofs.lemmas.Bool.{and_parts, false≢true}
use Rattle.m2m_names.specs.Name.{is_filled, is_originator, originator_limit}
use Rattle.m2m_names.specs.StampReading.{moment_at}
use Rattle.m2m_names.specs.Types.{is_type_number}
use Rattle.m2m_names.proofs.NameLemmas.{printable_is_utf8}
use Rattle.m2m_names.proofs.StampReadingLemmas.{read_last}
use Rattle.m2m_names.specs.declared.operations.Op.{Op}
use Rattle.m2m_names.specs.declared.operations.Op.TheVariants.{Create, Retrieve, Update, Notify, Delete as Removal}
use Rattle.m2m_value.specs.Data.{Data}
use Rattle.m2m_value.specs.Reading.{reading}
use Rattle.m2m_value.specs.View.{as_object}
use Rattle.filter_criteria.specs.Bounds.{IsMoment}
use Rattle.primitive_json.specs.Bounds.{is_request_id, request_id_limit}
use Rattle.primitive_json.specs.Kinds.{is_numeral, expiry_spelled, target_limit, result_contents, is_among}
use Rattle.primitive_json.specs.Laws.{IsWhenOfKind, IsShortWhen, IsOfKinds, HasShortExpiry}
use Rattle.primitive_json.specs.Form.{is_only_read}
use Rattle.primitive_json.specs.Members.{creates, retrieves, has_content, has_result}
use Rattle.primitive_json.specs.Requests.{IsSoundWhen}
use Rattle.primitive_json.proofs.FormLemmas.{joined_kinds}
use Rattle.m2m_names.proofs.NumeralLemmas.{numeral_bound}
use Rattle.primitive_json.specs.declared.request.RequestParts.{RequestParts}
use Rattle.primitive_json.specs.declared.request.When.{When}
use Rattle.primitive_json.specs.declared.request.When.TheVariants.{At, Millis}
use Rattle.http_frames.specs.declared.frame.Frame.{Frame}
use Rattle.http_frames.specs.declared.frame.Start.{Start}
use Rattle.http_frames.specs.declared.frame.Start.TheVariants.{Ask, Answer}
use Rattle.http_frames.specs.Lines.{Line, values_named}
use Rattle.http_target.specs.declared.fault.BindFault.{BindFault}
use Rattle.http_target.specs.declared.fault.BindFault.TheVariants as bind
use Rattle.http_binding.specs.declared.headers.Field.{Field}
use Rattle.http_binding.specs.declared.headers.Field.TheVariants.{Origin, Id, Expiry, ContentType, ContentEncoding}
use Rattle.http_binding.specs.declared.method.Method.{Method}
use Rattle.http_binding.specs.declared.method.Method.TheVariants.{Get, Post, Put, Delete}
use Rattle.http_binding.specs.Headers.{field_name, admits_value, is_some_text}
use Rattle.http_binding.specs.MediaTypes.{TypeNumber, type_said, type_number, is_short_number}
use Rattle.http_target.specs.Targets.{PathAndQuery, TargetValues, target_parts, target_values, is_target}
use Rattle.http_target.proofs.QueryLemmas.{reads, IsSaid, said_on, nothing_is_said, filter_sound, filter_kinds, IsSaidFilter}
use Rattle.http_target.specs.Queries.{decoded_pairs, nothing_said, is_result}
use Rattle.http_target.specs.declared.query.Query.{Query}
use Rattle.filter_criteria.specs.Filters.{IsSoundFilter}
use Rattle.filter_criteria.specs.Laws.{IsFilterOfKinds}
use Rattle.filter_criteria.specs.declared.filter.FilterParts.{FilterParts}
use Rattle.http_binding.specs.Binding.{method_of, lone_value, header_value, HeaderValues, header_values, required, unless_empty, Caller, caller_of, kept_result, value_in, object_only, content_in, content_of, created_type, request_of, Binds, echo_of}
use Rattle.http_target.specs.Said.{said_by_target, target_of, query_said}
use Rattle.http_binding.specs.Methods.{operation_of}

pub binds_to_one : (frame : Frame) (request other : RequestParts) → Binds frame request → Binds frame other → request ≡ other
binds_to_one frame request other h g = ap (λ r. result_unwrap_or r request) (sym h ∙ g)

-- a choice that gives a value has passed its test
passed : {T : Type 0} (test : Bool) (value read : T) (fault : BindFault) → (if test then Ok value else Err fault) ≡ Ok read → (test ≡ true) × (value ≡ read)
passed true value read fault h = (refl, ap (λ r. result_unwrap_or r value) h)
passed false value read fault h = absurd (false≢true (ap is_ok h))

chosen : {T : Type 0} (test : Bool) (first : Result T BindFault) (read : T) (fault : BindFault) → (if test then first else Err fault) ≡ Ok read → first ≡ Ok read
chosen true first read fault h = h
chosen false first read fault h = absurd (false≢true (ap is_ok h))

-- ---- the target

said_target : (parts : Option PathAndQuery) (target : TargetValues) → option_map_or said_by_target parts (Err bind.Target) ≡ Ok target → is_target target ≡ true
said_target None target h = absurd (false≢true (ap is_ok h))
said_target (Some parts) target h =
    let p = passed (is_target (target_values parts)) (target_values parts) target _ h in
    subst (λ t. is_target t ≡ true) p.1 p.0

targets : (start : Start) (target : TargetValues) → target_of start ≡ Ok target → is_target target ≡ true
targets (Ask name text minor) target h = said_target (target_parts text) target h
targets (Answer status minor) target h = absurd (false≢true (ap is_ok h))

-- ---- the fields

-- the only value of a field is one that it admits
admitted : (field : Field) (values : List (List ℕ)) (value : List ℕ) → lone_value field values ≡ Ok (Some value) → admits_value field value ≡ true
admitted field [] value h = absurd (false≢true (ap (λ r. is_some (result_unwrap_or r None)) h))
admitted field (v ∷ []) value h =
    let p = passed (admits_value field v) (Some v) (Some value) _ h in
    subst (λ t. admits_value field t ≡ true) (ap (λ (o : Option (List ℕ)). elim o [ None ↦ v | Some t ↦ t ]) p.1) p.0
admitted field (v ∷ next ∷ values) value h = absurd (false≢true (ap is_ok h))

-- a value that has to be there is there
there : (field : Field) (value : Option (List ℕ)) (text : List ℕ) → required field value ≡ Ok text → value ≡ Some text
there field None text h = absurd (false≢true (ap is_ok h))
there field (Some v) text h = ap (λ r. Some (result_unwrap_or r v)) h

implied : (a b : Bool) → (not a || b) ≡ true → a ≡ true → b ≡ true
implied true b h is = h
implied false b h is = absurd (false≢true is)

-- an originator that says something is one
abbrev IsNamed : Option (List ℕ) → Type 0
IsNamed value = IfSome value (λ o. is_originator o ≡ true)

named_by_test : (o : List ℕ) (some : Bool) → (some ≡ true → is_originator o ≡ true) → IsNamed (if some then Some o else None)
named_by_test o true one = one refl
named_by_test o false one = tt

named_by : (value : Option (List ℕ)) → IfSome value (λ o. admits_value Origin o ≡ true) → IsNamed (unless_empty value)
named_by None one = tt
named_by (Some o) one = named_by_test o (is_some_text o) (implied (is_some_text o) (is_originator o) one)

-- what the lines say of a field is what it admits
admitted_any : (field : Field) (lines : List Line) (value : Option (List ℕ)) → header_value field lines ≡ Ok value
    → IfSome value (λ v. admits_value field v ≡ true)
admitted_any field lines None h = tt
admitted_any field lines (Some v) h = admitted field (values_named (field_name field) lines) v h

-- a time of expiry is of its kind, and its milliseconds have at most 18 digits
abbrev IsTimely : When → Type 0
IsTimely when = IsWhenOfKind when × IsShortWhen when

stamp_timely : (at : Option ℕ) → IfSome at IsMoment → IfSome (option_map At at) IsTimely
stamp_timely None h = tt
stamp_timely (Some at) h = (h, tt)

timely_by : (text : List ℕ) (numeral : Bool) → is_numeral text ≡ numeral → IfSome (option_or (option_map Millis (if numeral then Some (digits_value 10 text) else None)) (option_map At (moment_at text))) IsTimely
timely_by text true is = (tt, numeral_bound text is)
timely_by text false is = stamp_timely (moment_at text) (read_last text (moment_at text) refl)

timely : (value : Option (List ℕ)) → IfSome (option_and_then expiry_spelled value) IsTimely
timely None = tt
timely (Some text) = timely_by text (is_numeral text) refl

-- the number of the type that a Create creates is short
abbrev IsShort : Option ℕ → Type 0
IsShort number = IfSome number (λ n. is_type_number n ≡ true)

short_said : (said : Option TypeNumber) → option_map_or is_short_number said false ≡ true → IsShort (option_and_then (λ number. number) said)
short_said None h = tt
short_said (Some None) h = tt
short_said (Some (Some n)) h = h

short_value : (value : Option (List ℕ)) → IfSome value (λ v. admits_value (ContentType Post) v ≡ true) → IsShort (option_and_then type_number value)
short_value None h = tt
short_value (Some v) h = short_said (type_said v) h

created_by_post : (type : Option ℕ) → IsShort type → IsShort (created_type (operation_of Post type) type)
created_by_post None h = tt
created_by_post (Some n) h = h

none_by_get : (type : Option ℕ) → created_type (operation_of Get type) type ≡ None
none_by_get None = refl
none_by_get (Some n) = refl

none_by_put : (type : Option ℕ) → created_type (operation_of Put type) type ≡ None
none_by_put None = refl
none_by_put (Some n) = refl

none_by_delete : (type : Option ℕ) → created_type (operation_of Delete type) type ≡ None
none_by_delete None = refl
none_by_delete (Some n) = refl

short_none : (number : Option ℕ) → number ≡ None → IsShort number
short_none number none = subst IsShort (sym none) tt

created_short : (method : Method) (lines : List Line) (value : Option (List ℕ)) → header_value (ContentType method) lines ≡ Ok value
    → IsShort (created_type (operation_of method (option_and_then type_number value)) (option_and_then type_number value))
created_short Get lines value h = short_none _ (none_by_get (option_and_then type_number value))
created_short Put lines value h = short_none _ (none_by_put (option_and_then type_number value))
created_short Delete lines value h = short_none _ (none_by_delete (option_and_then type_number value))
created_short Post lines value h =
    created_by_post (option_and_then type_number value) (short_value value (admitted_any (ContentType Post) lines value h))

-- what is known of the caller that lines name
pub record IsCaller (method : Method) (lines : List Line) (caller : Caller) : Type 0 where
  pub originator : IfSome caller.originator (λ o. is_originator o ≡ true)
  pub id : is_request_id caller.id ≡ true
  pub id_is : header_value Id lines ≡ Ok (Some caller.id)
  pub expiry : IfSome caller.expiry IsTimely
  pub type : IsShort (created_type (operation_of method caller.type) caller.type)

pub is_caller : (method : Method) (lines : List Line) (caller : Caller) → caller_of method lines ≡ Ok caller → IsCaller method lines caller
is_caller method lines caller h =
    let values = reads (header_values method lines) _ caller h in
    let id = reads (required Id values.first.id) _ caller values.rest in
    let made : Caller = record {
      originator = unless_empty values.first.origin;
      id = id.first;
      expiry = option_and_then expiry_spelled values.first.expiry;
      type = option_and_then type_number values.first.type;
    } in
    let is : made ≡ caller = ap (λ r. result_unwrap_or r made) id.rest in
    let origin_read = reads (header_value Origin lines) _ values.first values.read in
    let id_read = reads (header_value Id lines) _ values.first origin_read.rest in
    let expiry_read = reads (header_value Expiry lines) _ values.first id_read.rest in
    let type_read = reads (header_value (ContentType method) lines) _ values.first expiry_read.rest in
    let coding_read = reads (header_value ContentEncoding lines) _ values.first type_read.rest in
    let found : HeaderValues = record {
      origin = origin_read.first;
      id = id_read.first;
      expiry = expiry_read.first;
      type = type_read.first;
    } in
    let found_is : found ≡ values.first = ap (λ r. result_unwrap_or r found) coding_read.rest in
    let id_is : header_value Id lines ≡ Ok (Some id.first) =
    id_read.read ∙ ap Ok (ap (λ v. v.id) found_is ∙ there Id values.first.id id.first id.read) in
    let origin_is : header_value Origin lines ≡ Ok values.first.origin = origin_read.read ∙ ap Ok (ap (λ v. v.origin) found_is) in
    let type_is : header_value (ContentType method) lines ≡ Ok values.first.type = type_read.read ∙ ap Ok (ap (λ v. v.type) found_is) in
    subst (IsCaller method lines) is (record {
      originator = named_by values.first.origin (admitted_any Origin lines values.first.origin origin_is);
      id = admitted Id (values_named (field_name Id) lines) id.first id_is;
      id_is = id_is;
      expiry = timely values.first.expiry;
      type = created_short method lines values.first.type type_is;
    })

-- ---- the content

-- the content is there where the operation has one, and is an object
abbrev IsContentOf : Op → Option Data → Type 0
IsContentOf op content = IfSome content (λ d. is_some (as_object d) ≡ true) × (is_some content ≡ has_content op)

an_object : (value : Data) (content : Option Data) → object_only value ≡ Ok content → IfSome content (λ d. is_some (as_object d) ≡ true) × (is_some content ≡ true)
an_object value content h =
    let p = passed (is_some (as_object value)) (Some value) content _ h in
    subst (λ (o : Option Data). IfSome o (λ d. is_some (as_object d) ≡ true) × (is_some o ≡ true)) p.1 (p.0, refl)

a_content : (body : List ℕ) (content : Option Data) → content_in body ≡ Ok content → IfSome content (λ d. is_some (as_object d) ≡ true) × (is_some content ≡ true)
a_content body content h =
    let value = reads (value_in (reading body)) object_only content (chosen (is_some_text body) _ content _ h) in
    an_object value.first content value.rest

abbrev nothing_read : Result (Option Data) BindFault
nothing_read = Ok None

no_content : (content : Option Data) → nothing_read ≡ Ok content → IfSome content (λ d. is_some (as_object d) ≡ true) × (is_some content ≡ false)
no_content content h = subst (λ (o : Option Data). IfSome o (λ d. is_some (as_object d) ≡ true) × (is_some o ≡ false)) (ap (λ r. result_unwrap_or r None) h) (tt, refl)

contents : (op : Op) (body : List ℕ) (content : Option Data) → content_of op body ≡ Ok content → IsContentOf op content
contents Create body content h = a_content body content h
contents Update body content h = a_content body content h
contents Notify body content h = a_content body content h
contents Retrieve body content h = no_content content h
contents Removal body content h = no_content content h

-- a type is there on a Create alone
type_there : (method : Method) (type : Option ℕ) → is_some (created_type (operation_of method type) type) ≡ creates (operation_of method type)
type_there Get None = refl
type_there Get (Some n) = refl
type_there Put None = refl
type_there Put (Some n) = refl
type_there Delete None = refl
type_there Delete (Some n) = refl
type_there Post None = refl
type_there Post (Some n) = refl

-- ---- the query

queries : (op : Op) (query : List ℕ) (q : Query) → query_said op query ≡ Ok q → IsSaid op q
queries op query q h = said_on op (decoded_pairs query) nothing_said q (nothing_is_said op) h

result_kind : (op : Op) (number : Option ℤ) → IfSome number (λ z. is_result op z ≡ true) → IfSome (kept_result op number) (λ z. is_among (result_contents op) z ≡ true)
result_kind Create number h = h
result_kind Retrieve number h = h
result_kind Update number h = h
result_kind Removal number h = h
result_kind Notify number h = tt

result_read : (op : Op) (number : Option ℤ) → is_only_read (has_result op) (kept_result op number) ≡ true
result_read Create number = refl
result_read Retrieve number = refl
result_read Update number = refl
result_read Removal number = refl
result_read Notify number = refl

conditions_kind : (op : Op) (fc : Option FilterParts) → IfSome fc (λ f. (retrieves op ≡ true) × IsSaidFilter f) → IfSome fc (λ f. (retrieves op ≡ true) × IsFilterOfKinds f)
conditions_kind op None h = tt
conditions_kind op (Some f) h = (h.0, filter_kinds f h.1)

conditions_sound : (op : Op) (fc : Option FilterParts) → IfSome fc (λ f. (retrieves op ≡ true) × IsSaidFilter f) → IfSome fc IsSoundFilter
conditions_sound op None h = tt
conditions_sound op (Some f) h = filter_sound f h.1

pub query_sound : (op : Op) (query : List ℕ) (q : Query) → query_said op query ≡ Ok q → (f : FilterParts) → q.fc ≡ Some f → IsSoundFilter f
query_sound op query q h f is = subst (λ (o : Option FilterParts). IfSome o IsSoundFilter) is (conditions_sound op q.fc (queries op query q h).fc)

-- ---- the request

-- what a frame that binds has said, part by part
record Said (frame : Frame) (request : RequestParts) : Type 0 where
  method : Method
  target : TargetValues
  caller : Caller
  query : Query
  content : Option Data
  target_is : is_target target ≡ true
  caller_is : IsCaller method frame.lines caller
  query_is : IsSaid (operation_of method caller.type) query
  content_is : IsContentOf (operation_of method caller.type) content
  request_is : request_of (operation_of method caller.type) target.to caller query content ≡ request

says : (frame : Frame) (request : RequestParts) → Binds frame request → Said frame request
says frame request h =
    let method = reads (method_of frame.start) _ request h in
    let target = reads (target_of frame.start) _ request method.rest in
    let caller = reads (caller_of method.first frame.lines) _ request target.rest in
    let op = operation_of method.first caller.first.type in
    let query = reads (query_said op target.first.query) _ request caller.rest in
    let content = reads (content_of op frame.body) _ request query.rest in
    record {
      method = method.first;
      target = target.first;
      caller = caller.first;
      query = query.first;
      content = content.first;
      target_is = targets frame.start target.first target.read;
      caller_is = is_caller method.first frame.lines caller.first caller.read;
      query_is = queries op target.first.query query.first query.read;
      content_is = contents op frame.body content.first content.read;
      request_is = ap (λ r. result_unwrap_or r (request_of op target.first.to caller.first query.first content.first)) content.rest;
    }

timely_kind : (expiry : Option When) → IfSome expiry IsTimely → IfSome expiry IsWhenOfKind
timely_kind None h = tt
timely_kind (Some when) h = h.0

timely_short : (expiry : Option When) → IfSome expiry IsTimely → IfSome expiry IsShortWhen
timely_short None h = tt
timely_short (Some when) h = h.1

abbrev IsKind : RequestParts → Type 0
IsKind request = IsOfKinds request × HasShortExpiry request

pub binds_to_kinds : (frame : Frame) (request : RequestParts) → Binds frame request → IsOfKinds request × HasShortExpiry request
binds_to_kinds frame request h =
    let s = says frame request h in
    let kinds : IsOfKinds (request_of (operation_of s.method s.caller.type) s.target.to s.caller s.query s.content) = joined_kinds _ (record {
      to = (and_parts (is_filled target_limit s.target.to) _ s.target_is).0;
      fr = s.caller_is.originator;
      rqi = s.caller_is.id;
      ty = s.caller_is.type;
      ty_there = type_there s.method s.caller.type;
      pc = s.content_is.0;
      pc_there = s.content_is.1;
      rqet = timely_kind s.caller.expiry s.caller_is.expiry;
      rcn = result_kind (operation_of s.method s.caller.type) s.query.rcn s.query_is.rcn;
      rcn_read = result_read (operation_of s.method s.caller.type) s.query.rcn;
      fc = conditions_kind (operation_of s.method s.caller.type) s.query.fc s.query_is.fc;
      drt = s.query_is.drt;
    }) in
    subst IsKind s.request_is (kinds, timely_short s.caller.expiry s.caller_is.expiry)

pub echo_is_id : (frame : Frame) (request : RequestParts) → Binds frame request → echo_of frame ≡ Some request.rqi
echo_is_id frame request h =
    let s = says frame request h in
    ap (λ r. result_unwrap_or r None) s.caller_is.id_is ∙ ap (λ r. Some r.rqi) s.request_is

-- what a caller has is what a request keeps
text_utf8 : (text : Option (List ℕ)) → IfSome text (λ o. is_originator o ≡ true) → IfSome text IsUtf8
text_utf8 None one = tt
text_utf8 (Some o) one = printable_is_utf8 originator_limit o one

pub originator_utf8 : (method : Method) (lines : List Line) (caller : Caller) → caller_of method lines ≡ Ok caller → IfSome caller.originator IsUtf8
originator_utf8 method lines caller h = text_utf8 caller.originator (is_caller method lines caller h).originator

pub id_utf8 : (method : Method) (lines : List Line) (caller : Caller) → caller_of method lines ≡ Ok caller → IsUtf8 caller.id
id_utf8 method lines caller h =
    printable_is_utf8 request_id_limit caller.id (is_caller method lines caller h).id

sound_when : (when : When) → IsTimely when → IsSoundWhen when
sound_when (At at) h = h.0
sound_when (Millis n) h = let short : n < 10 ^ 18 = h.1 in omega arith

expiry_kept : (expiry : Option When) → IfSome expiry IsTimely → IfSome expiry IsSoundWhen
expiry_kept None h = tt
expiry_kept (Some when) h = sound_when when h

pub expiry_sound : (method : Method) (lines : List Line) (caller : Caller) → caller_of method lines ≡ Ok caller → IfSome caller.expiry IsSoundWhen
expiry_sound method lines caller h = expiry_kept caller.expiry (is_caller method lines caller h).expiry
