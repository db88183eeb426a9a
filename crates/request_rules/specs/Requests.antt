-- What a request to a resource asks for, by its operation (TS-0001, 10.2; TS-0004, 7.3.3).
use Rattle.std.specs.Prelude.{ℕ, Bool, true, false, ◌&&◌, ◌||◌, List, [], not, Option, Some, None}
use Rattle.std.specs.Prelude.{option_and_then, unwrap_or}
use Rattle.std.specs.Cmp.Lexicographic.{slice_cmp}
use Rattle.std.specs.FinMap.Entries.{is_sorted}
use Rattle.std.specs.Option.{option_map_or}
use Rattle.std.specs.Ordering.{nat_cmp}
use Rattle.m2m_names.specs.Stamps.{last_moment}
use Rattle.m2m_names.specs.Types.{ty_of_number, does_take}
use Rattle.m2m_names.specs.declared.operations.Op.{Op}
use Rattle.m2m_names.specs.declared.operations.Op.TheVariants.{Create, Retrieve, Update, Delete}
use Rattle.m2m_names.specs.declared.operations.Op.TheVariants.{Notify}
use Rattle.m2m_names.specs.declared.types.Ty.{Ty}
use Rattle.m2m_names.specs.declared.types.Ty.TheVariants.{Ae, ContentInstance, CseBase}
use Rattle.m2m_value.specs.Data.{Entry}
use Rattle.primitive_json.specs.declared.request.RequestParts.{RequestParts}
use Rattle.resource_model.specs.Resource.{ResourceData, is_ty}
use Rattle.attribute_rules.specs.Admission.{are_admitted, attributes_in}
use Rattle.attribute_rules.specs.Contents.{wanted_in}
use Rattle.attribute_rules.specs.declared.table.Writing.{Writing}
use Rattle.attribute_rules.specs.declared.table.Writing.TheVariants.{Create as Creating}
use Rattle.attribute_rules.specs.declared.table.Writing.TheVariants.{Update as Updating}

-- ---- types

-- the type that a Create names
abbrev pub child_ty : RequestParts → Option Ty
child_ty request = option_and_then ty_of_number request.ty

-- the operation is for resources of the type (TS-0001, 10.2; that an AE alone is notified is the
-- profile's); what a Create is for, the types of its parent and of its child say
abbrev pub is_for : Op → Ty → Bool
is_for Create ty = true
is_for Retrieve ty = true
is_for Update ty = not (is_ty ty CseBase || is_ty ty ContentInstance)
is_for Delete ty = not (is_ty ty CseBase)
is_for Notify ty = is_ty ty Ae

-- the target takes the child that is to be created (TS-0001, 9.6)
abbrev pub takes_child : Op → RequestParts → ResourceData → Bool
takes_child Create request parent = option_map_or (does_take parent.ty) (child_ty request) false
takes_child Retrieve request r = true
takes_child Update request r = true
takes_child Delete request r = true
takes_child Notify request r = true

-- ---- the content

-- the type whose attributes the content names
abbrev pub content_ty : Op → RequestParts → ResourceData → Option Ty
content_ty Create request parent = child_ty request
content_ty Retrieve request r = None
content_ty Update request r = Some r.ty
content_ty Delete request r = None
content_ty Notify request r = None

-- the attributes that it names, with their values, where it is one for the type
abbrev pub content_for : RequestParts → Ty → Option (List Entry)
content_for request ty = option_and_then (attributes_in ty) request.pc

-- The attributes that the content names for a type, and none where it is no content for the type.
abbrev pub named_for : RequestParts → Ty → List Entry
named_for request ty = unwrap_or (content_for request ty) []

-- The attributes that the content of an operation names, for the type that it is about.
abbrev pub named_by : Op → RequestParts → ResourceData → List Entry
named_by op request r = option_map_or (named_for request) (content_ty op request r) []

-- the attributes stand in the order of their names, each once, as the members of an object do (RFC
-- 8259, section 4)
abbrev pub are_in_order : List Entry → Bool
are_in_order es = is_sorted (slice_cmp nat_cmp) es

-- These attributes are admitted for a resource of the type (TS-0004, 7.4), each being named once.
abbrev pub admits : Writing → Ty → List Entry → Bool
admits writing ty es = are_in_order es && are_admitted writing ty es

-- the content is one for the type, with such attributes
abbrev pub is_content_for : Writing → RequestParts → Ty → Bool
is_content_for writing request ty =
    option_map_or (admits writing ty) (content_for request ty) false

-- what is written is admitted
abbrev pub admits_content : Op → RequestParts → ResourceData → Bool
admits_content Create request parent =
    option_map_or (is_content_for Creating request) (child_ty request) false
admits_content Retrieve request r = true
admits_content Update request r = is_content_for Updating request r.ty
admits_content Delete request r = true
admits_content Notify request r = true

-- the moment of expiry that these attributes name
abbrev pub named_expiry : List Entry → Option ℕ
named_expiry es = (wanted_in es).et

-- The moment of expiry that these attributes name, and the last moment where they name none.
abbrev pub expiry_for : List Entry → ℕ
expiry_for es = unwrap_or (named_expiry es) last_moment
