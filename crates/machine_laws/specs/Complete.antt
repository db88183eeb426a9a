-- That a request is served which nothing speaks against (TS-0001, 10.2; TS-0004, 7.2 and 7.3.3).
use Rattle.std.specs.Prelude.{◌≡◌, ◌⊎◌, ℕ, true, false, List, ◌∷◌, ◌++◌, Option, Some, None, Ok}
use Rattle.std.specs.Prelude.{All, IsTrue}
use Rattle.std.specs.Prelude.{if◌then◌else◌}
use Rattle.std.specs.Option.{option_map_or}
use Rattle.m2m_names.specs.declared.attributes.Attr.TheVariants.{Poa}
use Rattle.m2m_names.specs.declared.codes.Rsc.TheVariants.{Created, Deleted, Ok as Fine, Updated}
use Rattle.m2m_names.specs.declared.operations.Op.{Op}
use Rattle.m2m_names.specs.declared.operations.Op.TheVariants.{Create, Retrieve, Update, Delete}
use Rattle.m2m_names.specs.declared.operations.Op.TheVariants.{Notify}
use Rattle.m2m_names.specs.declared.types.Ty.{Ty}
use Rattle.m2m_value.specs.Data.{Data}
use Rattle.policy_eval.specs.Rules.{listed_in, texts_of}
use Rattle.primitive_json.specs.declared.note.NoteParts.{NoteParts}
use Rattle.primitive_json.specs.declared.request.RequestParts.{RequestParts}
use Rattle.resource_model.specs.Attributes.{value_of}
use Rattle.resource_model.specs.Resource.{ResourceData}
use Rattle.tree_model.specs.Tree.{at, has}
use Rattle.addressing.specs.Addresses.{address_of}
use Rattle.addressing.specs.declared.addr.Addr.TheVariants.{Foreign}
use Rattle.addressing.specs.declared.spot.Spot.TheVariants.{Fan, Poll}
use Rattle.subscription_match.specs.Destinations.{cse_named, is_url}
use Rattle.entity_model.specs.Entity.{EntityData, swept}
use Rattle.entity_model.specs.Places.{reply_to, wanted_content}
use Rattle.request_rules.specs.Creation.{Creation, has_room, is_unique, new_resource}
use Rattle.request_rules.specs.Groups.{admits_members, membership_edited, membership_new}
use Rattle.request_rules.specs.Order.{creation_by, expires_later}
use Rattle.request_rules.specs.Policies.{links_live}
use Rattle.request_rules.specs.Requests.{admits_content, child_ty, is_for, named_by, takes_child}
use Rattle.request_rules.specs.Rights.{is_discovery, may_do}
use Rattle.retrieve_discover.specs.Conditions.{meets_any}
use Rattle.retrieve_discover.specs.Contents.{content}
use Rattle.retrieve_discover.specs.Findings.{address_list, found_addresses}
use Rattle.retrieve_discover.specs.Polling.{first_waiting, handed_on}
use Rattle.retrieve_discover.specs.Replies.{is_by_id}
use Rattle.retarget.specs.Routes.{comes_from_cse, forwarded}
use Rattle.create_delete.specs.Changing.{created_content, updated_content, updated_resource}
use Rattle.cse_machine.specs.declared.event.Event.TheVariants.{Ask}
use Rattle.cse_machine.specs.declared.event.Outcome.{Outcome}
use Rattle.cse_machine.specs.declared.event.Outcome.TheVariants.{Done, Forward, Item, Ticked}
use Rattle.cse_machine.specs.declared.event.Outcome.TheVariants.{Starved}
use Rattle.cse_machine.specs.Answer.{addressed, has_answer, spot_asked}
use Rattle.group_fanout.specs.Fan.{gathered, is_fanned, may_fan, member_requests, rest_of}
use Rattle.group_fanout.specs.Fan.{singles_of}
use Rattle.group_fanout.specs.Rights.{claimed_originator, has_right}
use Rattle.cse_machine.specs.Step.{Step}
use Rattle.cse_machine.specs.Heard.{MayBeHeard}
use Rattle.machine_laws.specs.Outbox.{may_poll}

-- ---- what speaks against a request

-- what is created is the only one of its name and of its ids, there is room for it, and a group may
-- have its members
pub record MayBeMade (c : Creation) : Type 0 where
  pub unique : IsTrue (is_unique c)
  pub room : IsTrue (has_room c)
  pub members : IsTrue (admits_members c.e (membership_new c))

-- an operation that creates something may make it, and a group may have the members that one gives
-- it
abbrev pub MayMakeChild : Op → EntityData → RequestParts → ResourceData → Type 0
MayMakeChild Create e request parent =
    (ty : Ty) → child_ty request ≡ Some ty
    → MayBeMade (creation_by e (claimed_originator e.home request) request parent ty)
MayMakeChild Retrieve e request target = Unit {0}
MayMakeChild Update e request target =
    IsTrue (admits_members e (membership_edited target (named_by Update request target)))
MayMakeChild Delete e request target = Unit {0}
MayMakeChild Notify e request target = Unit {0}

-- what is shown meets the conditions of the request; a discovery asks them of what it finds
abbrev pub MeetsConditions : Op → EntityData → RequestParts → ResourceData → Type 0
MeetsConditions Create e request target = Unit {0}
MeetsConditions Retrieve e request target =
    is_discovery request ≡ false → IsTrue (meets_any e.nodes request.fc target)
MeetsConditions Update e request target = Unit {0}
MeetsConditions Delete e request target = Unit {0}
MeetsConditions Notify e request target = Unit {0}

-- nothing speaks against the operation on the resource: its originator has the right; the operation
-- is for that type, takes the child and the content, which expires later and names policies that
-- are there; and it may make what it makes, or show what is asked for
pub record MayBeDone (op : Op) (e : EntityData) (request : RequestParts) (target : ResourceData)
    : Type 0 where
  pub right : IsTrue (may_do op e (claimed_originator e.home request) request target.number)
  pub type : IsTrue (is_for op target.ty)
  pub child : IsTrue (takes_child op request target)
  pub content : IsTrue (admits_content op request target)
  pub expiry : IsTrue (expires_later e (named_by op request target))
  pub links : IsTrue (links_live e (named_by op request target))
  pub creation : MayMakeChild op e request target
  pub conditions : MeetsConditions op e request target

-- ---- what it is answered then

-- the content of the reply to a Create under the target: of what is new, what is asked for
abbrev pub content_created : EntityData → RequestParts → ResourceData → Option Data
content_created e request parent =
    option_map_or (λ ty. created_content (wanted_content request.rcn) e (new_resource
    (creation_by e (claimed_originator e.home request) request parent ty)))
    (child_ty request) None

-- to a Retrieve: the addresses that a discovery finds, or of the target what is asked for
abbrev pub content_read : EntityData → RequestParts → ResourceData → Data
content_read e request target =
    if is_discovery request
    then address_list (found_addresses e.home e.nodes (claimed_originator e.home request)
    (is_by_id request) request.fc target.number)
    else content e.home e.nodes (claimed_originator e.home request) (is_by_id request)
    request.rcn target

-- to an Update: of the target as it leaves it, what is asked for
abbrev pub content_updated : EntityData → RequestParts → ResourceData → Option Data
content_updated e request target =
    let named = named_by Update request target in
    updated_content (wanted_content request.rcn) e named (updated_resource e named target)

-- the reply of each operation that is done: its status, and its content (TS-0004, 6.6.3)
abbrev pub IsSuccess : Op → EntityData → RequestParts → ResourceData → Outcome → Type 0
IsSuccess Create e request target outcome =
    outcome ≡ Done (reply_to request Created (content_created e request target))
IsSuccess Retrieve e request target outcome =
    outcome ≡ Done (reply_to request Fine (Some (content_read e request target)))
IsSuccess Update e request target outcome =
    outcome ≡ Done (reply_to request Updated (content_updated e request target))
IsSuccess Delete e request target outcome = outcome ≡ Done (reply_to request Deleted None)
IsSuccess Notify e request target outcome = outcome ≡ Done (reply_to request Fine None)

-- memory ran out
abbrev pub IsStarved : Outcome → Type 0
IsStarved (Done reply) = ⊥
IsStarved (Forward poa onward) = ⊥
IsStarved (Item given) = ⊥
IsStarved Ticked = ⊥
IsStarved (Starved done) = Unit {0}

-- A request is served which nothing speaks against, unless memory runs out: it is answered by the
-- success of its operation on the resource that its address names, with the content that is asked
-- for.
abbrev pub WhatMayBeServedIsServed : Type 0
WhatMayBeServedIsServed =
    (reading : ℕ) (request : RequestParts) (before after : EntityData) (outcome : Outcome)
    (target : ResourceData) → Step reading (Ask request) before outcome after
    → MayBeHeard (swept reading before) request
    → addressed (swept reading before) request.to ≡ Some target
    → MayBeDone request.op (swept reading before) request target
    → IsSuccess request.op (swept reading before) request target outcome ⊎ IsStarved outcome

-- ---- at what isn't a resource

-- So is a fan-out, by the replies of the operations on the members of its group, one after another.
abbrev pub WhatMayBeFannedOutIsFannedOut : Type 0
WhatMayBeFannedOutIsFannedOut =
    (reading : ℕ) (request : RequestParts) (before after : EntityData) (outcome : Outcome)
    (n place : ℕ) (group : ResourceData) → Step reading (Ask request) before outcome after
    → MayBeHeard (swept reading before) request
    → spot_asked (swept reading before) request ≡ Some (Fan n place)
    → at n (swept reading before).nodes ≡ Some group
    → IsTrue (may_fan (swept reading before) request n) → IsTrue (is_fanned request.op)
    → (outcome ≡ Done (reply_to request Fine (Some (gathered
    (singles_of (swept reading before)
    (member_requests request (rest_of (swept reading before).home request.to place) group))))))
    ⊎ IsStarved outcome

-- So is a poll of a channel for which an item waits, by the first of them.
abbrev pub WhatWaitsIsGiven : Type 0
WhatWaitsIsGiven =
    (reading : ℕ) (request : RequestParts) (before after : EntityData) (outcome : Outcome)
    (channel : ℕ) (note : NoteParts) → Step reading (Ask request) before outcome after
    → MayBeHeard (swept reading before) request
    → spot_asked (swept reading before) request ≡ Some (Poll channel) → request.op ≡ Retrieve
    → IsTrue (may_poll (swept reading before) request channel)
    → first_waiting channel (swept reading before) ≡ Some note
    → (outcome ≡ Done (reply_to request Fine (Some (handed_on note)))) ⊎ IsStarved outcome

-- So is an answer to what was polled.
abbrev pub WhatIsAnsweredIsTaken : Type 0
WhatIsAnsweredIsTaken =
    (reading : ℕ) (request : RequestParts) (before after : EntityData) (outcome : Outcome)
    (channel : ℕ) → Step reading (Ask request) before outcome after
    → MayBeHeard (swept reading before) request
    → spot_asked (swept reading before) request ≡ Some (Poll channel) → request.op ≡ Notify
    → IsTrue (has channel (swept reading before).nodes)
    → IsTrue (has_right (swept reading before) request channel) → IsTrue (has_answer request)
    → (outcome ≡ Done (reply_to request Fine None)) ⊎ IsStarved outcome

-- A request to another CSE goes on to it where that is registered and has a URL among its points of
-- access, of which the first is where it goes, unless the originator comes from a registered CSE
-- itself, or memory runs out (TS-0001, 10.2.2).
abbrev pub WhatMayGoOnGoesOn : Type 0
WhatMayGoOnGoesOn =
    (reading : ℕ) (request : RequestParts) (before after : EntityData) (outcome : Outcome)
    (text url : List ℕ) (passed behind : List (List ℕ)) (cse : ResourceData)
    → Step reading (Ask request) before outcome after
    → MayBeHeard (swept reading before) request
    → address_of (swept reading before).home request.to ≡ Ok (Foreign text)
    → cse_named text (swept reading before).nodes ≡ Some cse
    → comes_from_cse (swept reading before).nodes
    (claimed_originator (swept reading before).home request) ≡ false
    → texts_of (listed_in (value_of Poa cse.attrs)) ≡ passed ++ url ∷ behind
    → All (λ point. is_url point ≡ false) passed → is_url url ≡ true
    → (outcome ≡ Forward url (forwarded (swept reading before).home
    (claimed_originator (swept reading before).home request) request))
    ⊎ IsStarved outcome
