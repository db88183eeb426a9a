-- What a request says that its refusal may turn on.
use Rattle.std.specs.Prelude.{ℕ, Bool, true, false, not, ◌&&◌, ◌||◌, List, [], ◌∷◌, codes, bytes_eq}
use Rattle.std.specs.Prelude.{Option, Some, None, Result, Ok, Err, is_some, option_and_then}
use Rattle.std.specs.Prelude.{if◌then◌else◌}
use Rattle.std.specs.List.{list_any}
use Rattle.std.specs.Option.{option_map_or}
use Rattle.std.specs.Ordering.{int_eq}
use Rattle.m2m_names.specs.Attributes.{attr_short}
use Rattle.m2m_names.specs.Name.{fan_name, poll_name, is_one_of, is_request_id}
use Rattle.m2m_names.specs.Types.{is_ty, ty_of_number, ty_of_word}
use Rattle.m2m_names.specs.declared.attributes.Attr.{Attr}
use Rattle.m2m_names.specs.declared.attributes.Attr.TheVariants.{Acpi, Et, Macp, Mid}
use Rattle.m2m_names.specs.declared.operations.Op.{Op}
use Rattle.m2m_names.specs.declared.operations.Op.TheVariants.{Create, Retrieve, Update, Delete}
use Rattle.m2m_names.specs.declared.operations.Op.TheVariants.{Notify}
use Rattle.m2m_names.specs.declared.types.Ty.{Ty}
use Rattle.m2m_names.specs.declared.types.Ty.TheVariants.{Ae}
use Rattle.m2m_value.specs.Data.{Data, Entry}
use Rattle.m2m_value.specs.View.{as_object, only_member}
use Rattle.filter_criteria.specs.declared.filter.FilterParts.{FilterParts}
use Rattle.filter_criteria.specs.declared.filter.FilterUsage.{FilterUsage}
use Rattle.filter_criteria.specs.declared.filter.FilterUsage.TheVariants.{Discovery, Conditional}
use Rattle.primitive_json.specs.Form.{has_form}
use Rattle.primitive_json.specs.Kinds.{blocking_request}
use Rattle.primitive_json.specs.Members.{creates}
use Rattle.primitive_json.specs.declared.request.RequestParts.{RequestParts}
use Rattle.resource_model.specs.Home.{HomeData}
use Rattle.addressing.specs.Addresses.{address_of}
use Rattle.addressing.specs.Short.{behind, short_of}
use Rattle.addressing.specs.declared.addr.Addr.{Addr}
use Rattle.addressing.specs.declared.addr.Addr.TheVariants.{Local, Foreign, OtherProvider}
use Rattle.addressing.specs.declared.addr.AddrFault.{AddrFault}
use Rattle.attribute_rules.specs.Admission.{are_admitted, attributes_in, fault_of, is_named}
use Rattle.attribute_rules.specs.declared.faults.AttrFault.{AttrFault}
use Rattle.attribute_rules.specs.declared.faults.AttrFault.TheVariants.{OutOfMemory, Shape}
use Rattle.attribute_rules.specs.declared.table.Writing.{Writing}
use Rattle.attribute_rules.specs.declared.table.Writing.TheVariants as writings
use Rattle.refusal_reasons.specs.declared.facts.Facts.{Facts}
use Rattle.refusal_reasons.specs.declared.facts.Place.{Place}
use Rattle.refusal_reasons.specs.declared.facts.Place.TheVariants.{Nowhere, Apart, Here}

-- ---- the type that a request is about

-- the type that a name in JSON stands for: `m2m:` and the short word of the type (TS-0004, 8.2.4)
abbrev pub ty_of_member : List ℕ → Option Ty
ty_of_member name = option_and_then ty_of_word (behind (codes "m2m:") name)

-- the type that names the only member of a content
abbrev pub ty_of_content : Data → Option Ty
ty_of_content d =
    option_and_then (λ (e : Entry). ty_of_member e.0)
    (option_and_then only_member (as_object d))

-- The type that a Create names by its number, or an Update by the only member of its content; other
-- operations name none (TS-0001, 10.2).
abbrev pub subject_by : Op → RequestParts → Option Ty
subject_by Create request = option_and_then ty_of_number request.ty
subject_by Retrieve request = None
subject_by Update request = option_and_then ty_of_content request.pc
subject_by Delete request = None
subject_by Notify request = None

abbrev pub subject_of : RequestParts → Option Ty
subject_of request = subject_by request.op request

-- ---- its content

-- as which a content is judged: that of a Create, or of an Update
abbrev pub writing_by : Op → Writing
writing_by Create = writings.Create
writing_by Retrieve = writings.Update
writing_by Update = writings.Update
writing_by Delete = writings.Update
writing_by Notify = writings.Update

-- the attributes that a content names for the type that the request is about
abbrev pub attributes_of : RequestParts → Option (List Entry)
attributes_of request =
    option_and_then (λ ty. option_and_then (attributes_in ty) request.pc) (subject_of request)

-- they are admitted for a resource of a type (TS-0004, 7.4)
abbrev pub admits : Op → Ty → Option (List Entry) → Bool
admits op ty named = option_map_or (are_admitted (writing_by op) ty) named false

-- The content of the request is admitted for a resource of the type that it is about (TS-0004,
-- 7.4).
abbrev pub is_admitted : RequestParts → Bool
is_admitted request =
    option_map_or (λ ty. admits request.op ty (attributes_of request)) (subject_of request) false

-- the content names the attribute
abbrev pub names : RequestParts → Attr → Bool
names request attr = option_map_or (is_named attr) (attributes_of request) false

-- the fault is none of the content: memory ran out
abbrev pub is_memory : AttrFault → Bool
is_memory OutOfMemory = true
is_memory _ = false

-- the first fault of a content by the type that the request is about; without such a type it is no
-- content of a resource
abbrev pub fault_by : Op → Option Ty → Data → Option AttrFault
fault_by op None d = Some Shape
fault_by op (Some ty) d = fault_of (writing_by op) ty d

-- The first fault of the content of the request, where it has content (TS-0004, 7.4).
abbrev pub content_fault : RequestParts → Option AttrFault
content_fault request = option_and_then (fault_by request.op (subject_of request)) request.pc

-- ---- its originator

-- the type is that of an application entity
abbrev pub is_ae : Option Ty → Bool
is_ae ty = option_map_or (is_ty Ae) ty false

-- The request says who asks, by a text that has a short form; only an application entity that
-- registers needs no word of it (TS-0001, 7.2, 8.1.2 and 10.2.2.2).
abbrev pub has_originator : HomeData → RequestParts → Bool
has_originator home request =
    option_map_or (λ fr. is_some (short_of home fr)) request.fr
    (creates request.op && is_ae (subject_of request))

-- ---- its address

-- a part of an address that names no resource: a fan-out point, a poll point, or the id of a request
-- that is answered later
abbrev pub is_apart : List ℕ → Bool
is_apart part = is_one_of (fan_name ∷ poll_name ∷ []) part || is_request_id part

-- where an address leads: nowhere, since it is none; to another CSE, or here to what is no resource;
-- or here, to a resource if anything
abbrev pub place_at : Result Addr AddrFault → Place
place_at (Ok (Local parts)) = if list_any is_apart parts then Apart else Here
place_at (Ok (Foreign text)) = Apart
place_at (Ok OtherProvider) = Apart
place_at (Err fault) = Nowhere

-- Where the address of the request leads (TS-0001, 7.2 and 9.3.1).
abbrev pub place_of : HomeData → RequestParts → Place
place_of home request = place_at (address_of home request.to)

-- ---- its filter and its answer

-- the filter looks for resources (TS-0001, 10.2.6)
abbrev pub is_search : FilterUsage → Bool
is_search Discovery = true
is_search Conditional = false

-- The request looks for resources: its filter says so by `fu` 1 (TS-0001, 10.2.6).
abbrev pub is_discovery : RequestParts → Bool
is_discovery request =
    option_map_or is_search (option_and_then (λ (f : FilterParts). f.fu) request.fc) false

-- The request asks for another answer than blockingRequest (TS-0001, 8.2.1).
abbrev pub is_deferred : RequestParts → Bool
is_deferred request = option_map_or (λ z. not (int_eq z blocking_request)) request.rt false

-- ---- all of it

-- the only member of an object
abbrev pub sole : Data → Option Entry
sole d = option_and_then only_member (as_object d)

-- the object has one member, and that is `acpi`
abbrev pub is_link : Data → Bool
is_link d = option_map_or (λ (e : Entry). bytes_eq e.0 (attr_short Acpi)) (sole d) false

-- The content of the request is of `acpi` alone, whatever its type (TS-0001, 9.6.2).
abbrev pub is_relink : RequestParts → Bool
is_relink request =
    option_map_or (λ (e : Entry). is_link e.1) (option_and_then sole request.pc) false

-- What the request says that its refusal may turn on (TS-0004, 7.3.3).
abbrev pub facts_of : HomeData → RequestParts → Facts
facts_of home request = record {
  op = request.op;
  ty = subject_of request;
  is_formed = has_form request;
  has_originator = has_originator home request;
  place = place_of home request;
  is_filtered = is_some request.fc;
  is_discovery = is_discovery request;
  is_deferred = is_deferred request;
  expires = is_some request.rqet;
  is_relink = is_relink request;
  is_admitted = is_admitted request;
  names_et = names request Et;
  names_acpi = names request Acpi;
  names_macp = names request Macp;
  names_mid = names request Mid;
}
