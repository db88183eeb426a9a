-- The causes of refusals: of which status each is, what it is told as, and of which requests it may
-- be the cause (TS-0004, 7.3.3; the order is that of request_rules and of cse_machine).
use Rattle.std.specs.Prelude.{ℕ, ◌==◌, Bool, true, false, not, ◌&&◌, ◌||◌, List, [], ◌∷◌, filter}
use Rattle.std.specs.Prelude.{codes, is_none, is_some}
use Rattle.std.specs.Option.{option_map_or}
use Rattle.std.specs.Ordering.{int_eq}
use Rattle.m2m_names.specs.Operations.{op_row}
use Rattle.m2m_names.specs.StatusCodes.{rsc_row}
use Rattle.m2m_names.specs.Types.{is_ty}
use Rattle.m2m_names.specs.declared.codes.Rsc.{Rsc}
use Rattle.m2m_names.specs.declared.codes.Rsc.TheVariants as status
use Rattle.m2m_names.specs.declared.operations.Op.{Op}
use Rattle.m2m_names.specs.declared.operations.Op.TheVariants.{Create, Retrieve, Update, Delete}
use Rattle.m2m_names.specs.declared.operations.Op.TheVariants.{Notify}
use Rattle.m2m_names.specs.declared.types.Ty.{Ty}
use Rattle.m2m_names.specs.declared.types.Ty.TheVariants.{Ae, ContentInstance, PollingChannel}
use Rattle.m2m_names.specs.declared.types.Ty.TheVariants.{RemoteCse, Subscription}
use Rattle.primitive_json.specs.declared.request.RequestParts.{RequestParts}
use Rattle.resource_model.specs.Home.{HomeData}
use Rattle.refusal_reasons.specs.Facts.{facts_of}
use Rattle.refusal_reasons.specs.declared.cause.Cause.{Cause}
use Rattle.refusal_reasons.specs.declared.cause.Cause.TheVariants as cause
use Rattle.refusal_reasons.specs.declared.facts.Facts.{Facts}
use Rattle.refusal_reasons.specs.declared.facts.Place.{Place}
use Rattle.refusal_reasons.specs.declared.facts.Place.TheVariants.{Nowhere, Apart, Here}

-- ---- what a request has passed

-- one operation is another
abbrev pub is_op : Op → Op → Bool
is_op a b = int_eq (op_row a).number (op_row b).number

-- a place is another
abbrev pub is_place : Place → Place → Bool
is_place Nowhere Nowhere = true
is_place Apart Apart = true
is_place Here Here = true
is_place _ _ = false

-- the request is one of its originator: its parameters are of their kinds, and it says who asks
abbrev pub is_said : Facts → Bool
is_said f = f.is_formed && f.has_originator

-- It is judged by a resource of this CSE, if anything: it is so, and its address leads here (TS-0004,
-- 7.3.3).
abbrev pub is_judged : Facts → Bool
is_judged f = is_said f && is_place f.place Here

-- and it says this
abbrev pub says : Facts → Bool → Bool
says f word = is_judged f && word

-- it asks for this operation, and says this
abbrev pub asks : Facts → Op → Bool → Bool
asks f op word = says f (is_op f.op op && word)

-- the operation has the content of a resource
abbrev pub is_written : Op → Bool
is_written op = is_op op Create || is_op op Update

-- it creates or updates, and says this
abbrev pub writes : Facts → Bool → Bool
writes f word = says f (is_written f.op && word)

-- its content is admitted for the type that the request is about, and says this
abbrev pub takes : Facts → Bool → Bool
takes f word = writes f (f.is_admitted && word)

-- the request is about this type
abbrev pub is_about : Facts → Ty → Bool
is_about f ty = option_map_or (is_ty ty) f.ty false

-- it creates a resource of this type
abbrev pub creates : Facts → Ty → Bool
creates f ty = asks f Create (is_about f ty)

-- nobody asks
abbrev pub is_unsaid : Facts → Bool
is_unsaid f = f.is_formed && not f.has_originator

-- it goes to no address
abbrev pub is_lost : Facts → Bool
is_lost f = is_said f && is_place f.place Nowhere

-- its filter tests the target itself
abbrev pub is_conditional : Facts → Bool
is_conditional f = f.is_filtered && not f.is_discovery

-- ---- the table

-- what stands for a cause: the status by which a request is refused for it, and its words
pub record CauseRow : Type 0 where
  pub code : Rsc
  pub words : List ℕ

-- The row of a cause by its columns.
abbrev pub cause_row : Rsc → List ℕ → CauseRow
cause_row code words = record { code = code; words = words }

-- the table
abbrev pub row_of : Cause → CauseRow
row_of cause.Form = cause_row status.BadRequest (codes "a parameter is not of its kind")
row_of cause.Originator =
    cause_row status.BadRequest
    (codes "no originator: send X-M2M-Origin (fr)")
row_of cause.Address =
    cause_row status.BadRequest
    (codes "the target is no address: each part is a name, and no slash stands at the end")
row_of cause.Content = cause_row status.BadRequest (codes "the content is not admitted")
row_of cause.OtherType =
    cause_row status.BadRequest
    (codes "the target is of another type than the content")
row_of cause.NotLater = cause_row status.BadRequest (codes "et is not later than now")
row_of cause.NoPolicy = cause_row status.BadRequest (codes "acpi names what is no policy")
row_of cause.NoFanPolicy = cause_row status.BadRequest (codes "macp names what is no policy")
row_of cause.NoMember = cause_row status.BadRequest (codes "mid names what is no address")
row_of cause.Absent = cause_row status.NotFound (codes "nothing has this address")
row_of cause.Unmatched =
    cause_row status.NotFound
    (codes "the conditions of the filter do not hold of the target")
row_of cause.NeverUpdated =
    cause_row status.NotAllowed
    (codes "a CSEBase and a contentInstance are never updated")
row_of cause.NeverDeleted = cause_row status.NotAllowed (codes "the CSEBase is never deleted")
row_of cause.NeverNotified =
    cause_row status.NotAllowed
    (codes "only an AE is notified; a POST that creates has ty= in its Content-Type")
row_of cause.Expired =
    cause_row status.RequestTimeout
    (codes "the request has expired: X-M2M-RET (rqet) is over")
row_of cause.NoCreate = cause_row status.NoPrivilege (codes "no right CREATE")
row_of cause.NoSubscribe =
    cause_row status.NoPrivilege
    (codes "no right CREATE, or no right RETRIEVE beside it")
row_of cause.NoRetrieve = cause_row status.NoPrivilege (codes "no right RETRIEVE")
row_of cause.NoDiscovery = cause_row status.NoPrivilege (codes "no right DISCOVERY")
row_of cause.NoUpdate = cause_row status.NoPrivilege (codes "no right UPDATE")
row_of cause.NoRelink = cause_row status.NoPrivilege (codes "no right to change acpi")
row_of cause.NoDelete = cause_row status.NoPrivilege (codes "no right DELETE")
row_of cause.NoNotify = cause_row status.NoPrivilege (codes "no right NOTIFY")
row_of cause.NameTaken =
    cause_row status.Conflict
    (codes "a sibling has the name already: rn gives another")
row_of cause.AeIdTaken = cause_row status.Conflict (codes "the AE-ID is that of another AE")
row_of cause.CseIdTaken =
    cause_row status.Conflict
    (codes "csi is that of another CSE, or of this one")
row_of cause.ChannelTaken =
    cause_row status.Conflict
    (codes "the target has a polling channel already")
row_of cause.UnknownType =
    cause_row status.BadChild
    (codes "ty is the number of no type that is served")
row_of cause.WrongParent = cause_row status.BadChild (codes "the target takes no child of this ty")
row_of cause.NotSubscribable =
    cause_row status.NotSubscribable
    (codes "the target takes no subscription")
row_of cause.Deferred =
    cause_row status.NonBlocking
    (codes "rt asks for an answer that is not given here: 3 is")
row_of cause.Full =
    cause_row status.NotAcceptable
    (codes "a limit of the CSE is passed: on resources, or on how deep they stand")
row_of cause.TooLarge =
    cause_row status.NotAcceptable
    (codes "a limit of the container is passed: mbs, or mni or mia is 0")
row_of cause.TooManyDeferred =
    cause_row status.NotAcceptable
    (codes "too many requests wait, or their results stand")
row_of cause.TooManyMembers =
    cause_row status.TooManyMembers
    (codes "mid has more members than mnm, or than 64")
row_of cause.WrongMember =
    cause_row status.WrongMember
    (codes "mid has a member of another type than mt, and csy is 2")

-- A request that says this may be refused for the cause: nothing that comes before it refuses the
-- request whatever stands in the CSE, and what it speaks of is there.
abbrev pub may_be : Facts → Cause → Bool
may_be f cause.Form = not f.is_formed
may_be f cause.Originator = is_unsaid f
may_be f cause.Address = is_lost f
may_be f cause.Content = writes f (not f.is_admitted)
may_be f cause.OtherType = asks f Update (is_some f.ty)
may_be f cause.NotLater = takes f f.names_et
may_be f cause.NoPolicy = takes f f.names_acpi
may_be f cause.NoFanPolicy = takes f f.names_macp
may_be f cause.NoMember = takes f f.names_mid
may_be f cause.Absent = is_judged f
may_be f cause.Unmatched = says f (is_conditional f)
may_be f cause.NeverUpdated = asks f Update true
may_be f cause.NeverDeleted = asks f Delete true
may_be f cause.NeverNotified = asks f Notify true
may_be f cause.Expired = says f f.expires
may_be f cause.NoCreate = asks f Create (not (is_about f Subscription))
may_be f cause.NoSubscribe = creates f Subscription
may_be f cause.NoRetrieve = asks f Retrieve (not f.is_discovery)
may_be f cause.NoDiscovery = asks f Retrieve f.is_discovery
may_be f cause.NoUpdate = asks f Update (not f.is_relink)
may_be f cause.NoRelink = asks f Update f.is_relink
may_be f cause.NoDelete = asks f Delete true
may_be f cause.NoNotify = asks f Notify true
may_be f cause.NameTaken = asks f Create true
may_be f cause.AeIdTaken = creates f Ae
may_be f cause.CseIdTaken = creates f RemoteCse
may_be f cause.ChannelTaken = creates f PollingChannel
may_be f cause.UnknownType = asks f Create (is_none f.ty)
may_be f cause.WrongParent = asks f Create (is_some f.ty)
may_be f cause.NotSubscribable = creates f Subscription
may_be f cause.Deferred = says f f.is_deferred
may_be f cause.Full = asks f Create true
may_be f cause.TooLarge = creates f ContentInstance
may_be f cause.TooManyDeferred = says f f.is_deferred
may_be f cause.TooManyMembers = writes f true
may_be f cause.WrongMember = writes f true

-- all causes, in the order in which requests are refused
abbrev pub all_causes : List Cause
all_causes =
    cause.Form ∷ cause.Originator ∷ cause.Address ∷ cause.Content ∷ cause.OtherType ∷
    cause.NotLater ∷ cause.NoPolicy ∷ cause.NoFanPolicy ∷ cause.NoMember ∷ cause.Absent ∷
    cause.Unmatched ∷ cause.NeverUpdated ∷ cause.NeverDeleted ∷ cause.NeverNotified ∷
    cause.Expired ∷ cause.NoCreate ∷ cause.NoSubscribe ∷ cause.NoRetrieve ∷ cause.NoDiscovery ∷
    cause.NoUpdate ∷ cause.NoRelink ∷ cause.NoDelete ∷ cause.NoNotify ∷ cause.NameTaken ∷
    cause.AeIdTaken ∷ cause.CseIdTaken ∷ cause.ChannelTaken ∷ cause.UnknownType ∷
    cause.WrongParent ∷ cause.NotSubscribable ∷ cause.Deferred ∷ cause.Full ∷ cause.TooLarge ∷
    cause.TooManyDeferred ∷ cause.TooManyMembers ∷ cause.WrongMember ∷ []

-- ---- the causes of a refusal

-- one status is another
abbrev pub is_status : Rsc → Rsc → Bool
is_status a b = (rsc_row a).number == (rsc_row b).number

-- the status and what the request says leave the cause
abbrev pub is_left : Facts → Rsc → Cause → Bool
is_left f code cause = is_status (row_of cause).code code && may_be f cause

-- those of these causes that they leave
abbrev pub left_among : Facts → Rsc → List Cause → List Cause
left_among f code causes = filter (is_left f code) causes

-- The causes for which a request may be refused with a status: a function of the home, the request
-- and the status alone.
abbrev pub causes : HomeData → RequestParts → Rsc → List Cause
causes home request code = left_among (facts_of home request) code all_causes
