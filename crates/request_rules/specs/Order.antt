-- The order in which a request to a resource that is there is refused (TS-0004, 7.3.3).
use Rattle.std.specs.Prelude.{ℕ, nat_lt, Bool, true, List, [], ◌∷◌, ◌++◌, Option}
use Rattle.std.specs.Prelude.{Some, if◌then◌else◌}
use Rattle.std.specs.Option.{option_map_or, option_or}
use Rattle.m2m_names.specs.declared.codes.Rsc.{Rsc}
use Rattle.m2m_names.specs.declared.codes.Rsc.TheVariants.{BadChild, BadRequest, Conflict}
use Rattle.m2m_names.specs.declared.codes.Rsc.TheVariants.{NoPrivilege, NotAcceptable, NotAllowed}
use Rattle.m2m_names.specs.declared.codes.Rsc.TheVariants.{NotSubscribable, TooManyMembers}
use Rattle.m2m_names.specs.declared.codes.Rsc.TheVariants.{WrongMember}
use Rattle.m2m_names.specs.declared.operations.Op.{Op}
use Rattle.m2m_names.specs.declared.operations.Op.TheVariants.{Create, Retrieve, Update, Delete}
use Rattle.m2m_names.specs.declared.operations.Op.TheVariants.{Notify}
use Rattle.m2m_names.specs.declared.types.Ty.{Ty}
use Rattle.m2m_value.specs.Data.{Entry}
use Rattle.primitive_json.specs.declared.request.RequestParts.{RequestParts}
use Rattle.resource_model.specs.Resource.{ResourceData}
use Rattle.tree_model.specs.Tree.{at}
use Rattle.attribute_rules.specs.declared.table.Writing.{Writing}
use Rattle.attribute_rules.specs.declared.table.Writing.TheVariants.{Create as Creating}
use Rattle.attribute_rules.specs.declared.table.Writing.TheVariants.{Update as Updating}
use Rattle.request_rules.specs.Creation.{Creation, creation_of, is_unique, has_room}
use Rattle.entity_model.specs.Entity.{EntityData}
use Rattle.entity_model.specs.Places.{Check, absent, first_fault, unless}
use Rattle.request_rules.specs.Groups.{MembershipData, are_few, have_addresses, is_consistent}
use Rattle.request_rules.specs.Groups.{membership_edited, membership_new}
use Rattle.request_rules.specs.Policies.{links_live}
use Rattle.request_rules.specs.Requests.{admits, admits_content, child_ty, is_for, named_by}
use Rattle.request_rules.specs.Requests.{named_expiry, named_for, takes_child}
use Rattle.request_rules.specs.Rights.{is_subscribing, may_do}

-- a child that isn't taken: a subscription by what has none, any other by what isn't its parent
abbrev pub child_fault : RequestParts → Rsc
child_fault request = if is_subscribing request then NotSubscribable else BadChild

-- The expiry that a content names, where it names one, is later than the entity's moment.
abbrev pub expires_later : EntityData → List Entry → Bool
expires_later e es = option_map_or (nat_lt e.last) (named_expiry es) true

-- the creation that a Create asks for
abbrev pub creation_by : EntityData → List ℕ → RequestParts → ResourceData → Ty → Creation
creation_by e originator request parent ty =
    creation_of e originator ty parent (named_for request ty)

-- for want of the right, then by the types of target and child
abbrev pub target_places : Op → EntityData → List ℕ → RequestParts → ResourceData → List Check
target_places op e originator request target =
    unless (may_do op e originator request target.number) NoPrivilege
    ∷ unless (is_for op target.ty) NotAllowed
    ∷ unless (takes_child op request target) (child_fault request)
    ∷ []

-- then by what the content is and names
abbrev pub named_places : EntityData → List Entry → List Check
named_places e es =
    unless (expires_later e es) BadRequest ∷ unless (links_live e es) BadRequest ∷ []

-- The places of the content: it is admitted, it expires later, and the policies that it names are
-- there.
abbrev pub content_places : Op → EntityData → RequestParts → ResourceData → List Check
content_places op e request target =
    unless (admits_content op request target) BadRequest
    ∷ named_places e (named_by op request target)

-- by how many members a group is to have, and by their types; what asks for none passes both
abbrev pub member_places : EntityData → Option MembershipData → List Check
member_places e m =
    unless (option_map_or are_few m true) TooManyMembers
    ∷ unless (option_map_or (is_consistent e) m true) WrongMember
    ∷ []

-- then by the addresses of a group's members, by what stands there already, and by a limit; what
-- creates nothing passes them
abbrev pub new_places : Creation → List Check
new_places c =
    unless (have_addresses c.e.home (membership_new c)) BadRequest
    ∷ unless (is_unique c) Conflict
    ∷ unless (has_room c) NotAcceptable
    ∷ member_places c.e (membership_new c)

-- and an Update by the members that a group is to have
abbrev pub edit_places : EntityData → ResourceData → List Entry → List Check
edit_places e r es =
    unless (have_addresses e.home (membership_edited r es)) BadRequest
    ∷ member_places e (membership_edited r es)

-- The places of what is to be created, and of the members that a group is to have; an operation
-- that creates nothing and changes no member has none.
abbrev pub creation_places : Op → EntityData → List ℕ → RequestParts → ResourceData → List Check
creation_places Create e originator request parent =
    option_map_or (λ ty. new_places (creation_by e originator request parent ty))
    (child_ty request) []
creation_places Retrieve e originator request r = []
creation_places Update e originator request r = edit_places e r (named_by Update request r)
creation_places Delete e originator request r = []
creation_places Notify e originator request r = []

-- the status by which what a content names, and that by which what is created, is refused
abbrev pub fault_named : EntityData → List Entry → Option Rsc
fault_named e es = first_fault (named_places e es)

-- The status by which what is to be created is refused, for what stands there already or for a
-- limit.
abbrev pub fault_new : Creation → Option Rsc
fault_new c = first_fault (new_places c)

-- The status by which a content is refused that names these attributes of a type: they aren't
-- admitted, or by what they name.
abbrev pub fault_content : Writing → EntityData → Ty → List Entry → Option Rsc
fault_content writing e ty es =
    if admits writing ty es then fault_named e es else Some BadRequest

-- The status by which an Update is refused that names these attributes of the resource, and that by
-- which a Create is that names those of the creation.
abbrev pub fault_edit : EntityData → ResourceData → List Entry → Option Rsc
fault_edit e r es =
    option_or (fault_content Updating e r.ty es) (first_fault (edit_places e r es))

abbrev pub fault_creation : Creation → Option Rsc
fault_creation c = option_or (fault_content Creating c.e c.ty c.named) (fault_new c)

-- Every operation is refused in this order. A test that doesn't concern an operation holds of it.
abbrev pub places : Op → EntityData → List ℕ → RequestParts → ResourceData → List Check
places op e originator request target =
    target_places op e originator request target
    ++ content_places op e request target
    ++ creation_places op e originator request target

-- the status of the first place that refuses it
abbrev pub fault_on : Op → EntityData → List ℕ → RequestParts → ResourceData → Option Rsc
fault_on op e originator request target = first_fault (places op e originator request target)

-- on the resource of a number, which is looked up once
abbrev pub fault_at : Op → EntityData → List ℕ → RequestParts → ℕ → Option Rsc
fault_at op e originator request n =
    option_map_or (fault_on op e originator request) (at n e.nodes) (Some absent)
