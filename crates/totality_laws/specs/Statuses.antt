-- Which statuses a CSE gives to what it answers itself (TS-0004, 6.6.3).
use Rattle.std.specs.Prelude.{ℕ, Bool, true, false, ◌||◌, List, [], ◌∷◌, IsTrue, ⊤}
use Rattle.m2m_names.specs.declared.codes.Rsc.{Rsc}
use Rattle.m2m_names.specs.declared.codes.Rsc.TheVariants.{Accepted, Created, Deleted, Updated}
use Rattle.m2m_names.specs.declared.codes.Rsc.TheVariants.{Ok as Fine}
use Rattle.m2m_names.specs.declared.codes.Rsc.TheVariants.{BadChild, BadRequest, Conflict}
use Rattle.m2m_names.specs.declared.codes.Rsc.TheVariants.{Internal, NonBlocking, NoPrivilege}
use Rattle.m2m_names.specs.declared.codes.Rsc.TheVariants.{NotAcceptable, NotAllowed, NotFound}
use Rattle.m2m_names.specs.declared.codes.Rsc.TheVariants.{NotImplemented, NotReachable}
use Rattle.m2m_names.specs.declared.codes.Rsc.TheVariants.{NotSubscribable, Other, RequestTimeout}
use Rattle.m2m_names.specs.declared.codes.Rsc.TheVariants.{TooManyMembers, WrongMember}
use Rattle.primitive_json.specs.declared.reply.ReplyParts.{ReplyParts}
use Rattle.primitive_json.specs.declared.request.RequestParts.{RequestParts}
use Rattle.entity_model.specs.Entity.{EntityData}
use Rattle.cse_machine.specs.declared.event.Event.TheVariants.{Ask}
use Rattle.cse_machine.specs.declared.event.Outcome.TheVariants.{Done}
use Rattle.cse_machine.specs.Step.{Step}
use Rattle.group_fanout.specs.Fan.{Single, singles_of}
use Rattle.later_replies.specs.Effects.{is_status}
use Rattle.later_replies.specs.Entries.{LaterData}
use Rattle.later_replies.specs.Step.{LaterStep}

-- the CSE gives this status itself: to a request that it serves, or as a reason to refuse one; all
-- others it passes on from another CSE, or says where memory ran out, or never says
abbrev pub is_named : Rsc → Bool
is_named Accepted = false
is_named Fine = true
is_named Created = true
is_named Deleted = true
is_named Updated = true
is_named BadRequest = true
is_named NotFound = true
is_named NotAllowed = true
is_named RequestTimeout = true
is_named NoPrivilege = true
is_named Conflict = true
is_named BadChild = true
is_named Internal = false
is_named NotImplemented = false
is_named NotReachable = true
is_named NotSubscribable = true
is_named NonBlocking = true
is_named NotAcceptable = true
is_named TooManyMembers = true
is_named WrongMember = true
is_named (Other n) = false

-- Each reply that a step gives to a request has a status that is named.
abbrev pub StepsAreAnsweredByName : Type 0
StepsAreAnsweredByName =
    (reading : ℕ) (request : RequestParts) (before after : EntityData) (reply : ReplyParts)
    → Step reading (Ask request) before (Done reply) after → IsTrue (is_named reply.rsc)

-- the replies of these operations have statuses that are named
abbrev pub AreNamed : List Single → Type 0
AreNamed [] = ⊤
AreNamed (single ∷ singles) = IsTrue (is_named single.reply.rsc) × AreNamed singles

-- So has each reply of requests to members, one after another.
abbrev pub MembersAreAnsweredByName : Type 0
MembersAreAnsweredByName =
    (e : EntityData) (requests : List RequestParts) → AreNamed (singles_of e requests)

-- A CSE that answers later gives this status itself: it says besides that a request is accepted.
abbrev pub is_named_later : Rsc → Bool
is_named_later told = is_named told || is_status told Accepted

-- So has each reply that a step of a CSE gives which answers later.
abbrev pub LaterStepsAreAnsweredByName : Type 0
LaterStepsAreAnsweredByName =
    (reading : ℕ) (request : RequestParts) (before after : LaterData) (reply : ReplyParts)
    → LaterStep reading (Ask request) before (Done reply) after
    → IsTrue (is_named_later reply.rsc)
