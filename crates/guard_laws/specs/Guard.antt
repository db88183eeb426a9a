-- What a request may show, and what it may change.
use Rattle.std.specs.Prelude.{◌≡◌, ◌≢◌, ◌⊎◌, ℕ, Bool, true, false, List, [], ◌∷◌, ◌++◌}
use Rattle.std.specs.Prelude.{Option, Some, None, option_map, take, IsTrue}
use Rattle.m2m_names.specs.Operations.{op_row}
use Rattle.m2m_names.specs.StatusCodes.{is_success}
use Rattle.m2m_names.specs.declared.codes.Rsc.TheVariants.{Ok as Fine}
use Rattle.m2m_names.specs.declared.operations.Op.TheVariants.{Notify, Retrieve}
use Rattle.primitive_json.specs.declared.reply.ReplyParts.{ReplyParts}
use Rattle.primitive_json.specs.declared.request.RequestParts.{RequestParts}
use Rattle.resource_model.specs.Resource.{ResourceData}
use Rattle.turn_desk.specs.Entries.{entry_of}
use Rattle.tree_model.specs.Tree.{at}
use Rattle.policy_eval.specs.Rights.{fan_grants, grants}
use Rattle.addressing.specs.declared.spot.Spot.{Spot}
use Rattle.addressing.specs.declared.spot.Spot.TheVariants.{Resource, Fan, Poll}
use Rattle.entity_model.specs.Entity.{EntityData, swept}
use Rattle.entity_model.specs.Places.{reply_to}
use Rattle.entity_model.specs.Sound.{IsSoundEntity}
use Rattle.retrieve_discover.specs.Polling.{first_waiting, handed_on}
use Rattle.retrieve_laws.specs.Guard.{OthersAreShownByRight}
use Rattle.create_delete.specs.Guard.{ChangesByRight}
use Rattle.create_delete.specs.Telling.{drafts_at}
use Rattle.cse_machine.specs.declared.event.Event.{Event}
use Rattle.cse_machine.specs.declared.event.Event.TheVariants.{Ask}
use Rattle.cse_machine.specs.declared.event.Outcome.{Outcome}
use Rattle.cse_machine.specs.declared.event.Outcome.TheVariants.{Done, Forward, Starved}
use Rattle.cse_machine.specs.Answer.{addressed, spot_asked}
use Rattle.group_fanout.specs.Fan.{Single, gathered, member_requests, rest_of, singles_of}
use Rattle.cse_machine.specs.History.{History, HistoryLeaves}
use Rattle.group_fanout.specs.Rights.{claimed_originator, has_right}
use Rattle.cse_machine.specs.Step.{IsUnswept, Step, IsSameEntity}

-- ---- what is shown

-- the reply shows something: it has content, or it says that the request was served
abbrev pub DoesShow : ReplyParts → Type 0
DoesShow reply = (reply.pc ≢ None) ⊎ IsTrue (is_success reply.rsc)

-- the originator of the request has the right that it needs on the resource that its address names
-- (TS-0001, 9.6.2)
pub record HasRight (e : EntityData) (request : RequestParts) : Type 0 where
  pub target : ResourceData
  pub named : addressed e request.to ≡ Some target
  pub right : IsTrue (has_right e request target.number)

-- nothing is shown, and no resource changes
abbrev pub IsWithoutEffect : EntityData → ReplyParts → EntityData → Type 0
IsWithoutEffect before reply after = (DoesShow reply → ⊥) × (after.nodes ≡ before.nodes)

-- ---- what is changed

-- on the resource that its address names the operation changes nothing but by a grant to the
-- originator of the request
pub record ChangesAsAddressed (before : EntityData) (request : RequestParts)
    (after : EntityData) : Type 0 where
  pub target : ResourceData
  pub named : addressed before request.to ≡ Some target
  pub right : ChangesByRight request.op before (claimed_originator before.home request)
      target.number
      (drafts_at request.op before (claimed_originator before.home request) request target.number)
      after

-- ---- at a resource

-- One operation shows nothing and changes no resource but by a grant to the originator, in the
-- entity before it. Only how many notifications are left to a subscription is counted by the entity
-- itself (TS-0001, 9.6.8).
pub record IsGuardedAlone (before : EntityData) (request : RequestParts) (reply : ReplyParts)
    (after : EntityData) : Type 0 where
  pub shown : DoesShow reply → HasRight before request
  pub others : OthersAreShownByRight before.home before.nodes
      (claimed_originator before.home request) reply
  pub changes : (after.nodes ≡ before.nodes) ⊎ ChangesAsAddressed before request after

-- ---- at a fan-out point

-- operations one after another, each guarded in the entity that the one before it left
abbrev pub AreGuarded : EntityData → List Single → EntityData → Type 0
AreGuarded before [] after = after ≡ before
AreGuarded before (single ∷ singles) after =
    IsGuardedAlone before single.request single.reply single.after
    × AreGuarded single.after singles after

-- A fan-out is done by a grant through the group of the number, and shows and changes what the
-- operations on its members do, each of which is guarded by itself: one on each member that the
-- `mid` of the group lists before, in their order, with what stands behind the fan-out point.
pub record IsGuardedFan (n place : ℕ) (before : EntityData) (request : RequestParts)
    (reply : ReplyParts) (after : EntityData) : Type 0 where
  pub group : ResourceData
  pub there : at n before.nodes ≡ Some group
  pub right : IsTrue (fan_grants before.home before.nodes
      (claimed_originator before.home request) (op_row request.op).bit n)
  pub singles : List Single
  pub all : singles
      ≡ singles_of before
      (member_requests request (rest_of before.home request.to place) group)
  pub guarded : AreGuarded before singles after
  pub replied : reply ≡ reply_to request Fine (Some (gathered singles))

-- ---- at a poll point

-- A request to the poll point of a channel shows something only by the right that its operation
-- needs on the channel, which the channel's rule gives to its owner alone; what it shows is the
-- first item that waits for this channel; and it changes no resource.
pub record IsGuardedPoll (channel : ℕ) (before : EntityData) (request : RequestParts)
    (reply : ReplyParts) (after : EntityData) : Type 0 where
  pub shown : DoesShow reply → IsTrue (grants before.home before.nodes
      (claimed_originator before.home request) (op_row request.op).bit channel)
  pub own : (reply.pc ≡ None) ⊎ (reply.pc ≡ option_map handed_on (first_waiting channel before))
  pub kept : after.nodes ≡ before.nodes

-- ---- a request

-- What is shown and changed is so by right, by what the address of the request names here: a
-- resource; a fan-out point, where the fan-out is refused or done; a poll point; or nothing, where
-- nothing is shown or changed.
abbrev pub IsGuardedAt :
    Option Spot → EntityData → RequestParts → ReplyParts → EntityData → Type 0
IsGuardedAt None before request reply after = IsWithoutEffect before reply after
IsGuardedAt (Some (Resource n)) before request reply after =
    IsGuardedAlone before request reply after
IsGuardedAt (Some (Fan group place)) before request reply after =
    IsWithoutEffect before reply after ⊎ IsGuardedFan group place before request reply after
IsGuardedAt (Some (Poll channel)) before request reply after =
    IsGuardedPoll channel before request reply after

-- Nothing is shown or changed but by a grant to the originator, in the entity before the request.
abbrev pub IsGuarded : EntityData → RequestParts → ReplyParts → EntityData → Type 0
IsGuarded before request reply after =
    IsGuardedAt (spot_asked before request) before request reply after

-- Each step of a sound entity is guarded, in the entity from which what is due is gone.
abbrev pub StepsAreGuarded : Type 0
StepsAreGuarded =
    (reading : ℕ) (request : RequestParts) (before after : EntityData) (reply : ReplyParts)
    → IsSoundEntity before → Step reading (Ask request) before (Done reply) after
    → IsGuarded (swept reading before) request reply after

-- In a legal history from a sound entity each request was guarded in the entity that the requests
-- before it left.
abbrev pub HistoriesAreGuarded : Type 0
HistoriesAreGuarded =
    (opening e : EntityData) (earlier later : History)
    (reading : ℕ) (request : RequestParts) (reply : ReplyParts)
    → IsSoundEntity opening
    → HistoryLeaves opening (earlier ++ entry_of reading (Ask request) (Done reply) ∷ later) e
    → (before : EntityData) × (after : EntityData)
    × HistoryLeaves opening earlier before
    × HistoryLeaves opening (earlier ++ entry_of reading (Ask request) (Done reply) ∷ []) after
    × IsGuarded (swept reading before) request reply after

-- ---- where memory runs out

-- So many operations of a fan-out were done, the first ones, each guarded by itself; the fan-out
-- was done by a grant through its group.
pub record IsGuardedCut (before : EntityData) (request : RequestParts) (done : ℕ)
    (after : EntityData) : Type 0 where
  pub group : ResourceData
  pub place : ℕ
  pub spot : spot_asked before request ≡ Some (Fan group.number place)
  pub there : at group.number before.nodes ≡ Some group
  pub right : IsTrue (fan_grants before.home before.nodes
      (claimed_originator before.home request) (op_row request.op).bit group.number)
  pub singles : List Single
  pub all : singles
      ≡ singles_of before
      (member_requests request (rest_of before.home request.to place) group)
  pub guarded : AreGuarded before (take done singles) after

-- What has taken effect where memory ran out for a request: nothing, or these.
abbrev pub IsGuardedShort : EntityData → RequestParts → ℕ → EntityData → Type 0
IsGuardedShort before request done after =
    (after ≡ before) ⊎ IsGuardedCut before request done after

-- A step of a sound entity for which memory ran out has changed nothing but by a grant, in the
-- entity from which what is due is gone; or nothing at all, where it ran out in the expiry.
abbrev pub CutStepsAreGuarded : Type 0
CutStepsAreGuarded =
    (reading : ℕ) (request : RequestParts) (before after : EntityData) (done : ℕ)
    → IsSoundEntity before → Step reading (Ask request) before (Starved done) after
    → IsGuardedShort (swept reading before) request done after ⊎ IsUnswept reading before done after

-- ---- what changes nothing

-- A request that goes on to another CSE changes nothing but that what is due goes, with what stands
-- below it.
abbrev pub OnwardsChangeNothing : Type 0
OnwardsChangeNothing =
    (reading : ℕ) (request onward : RequestParts) (before after : EntityData) (poa : List ℕ)
    → Step reading (Ask request) before (Forward poa onward) after → after ≡ swept reading before

-- A refused request changes nothing but that what is due goes, with what stands below it.
abbrev pub RefusalsChangeNothing : Type 0
RefusalsChangeNothing =
    (reading : ℕ) (request : RequestParts) (before after : EntityData) (reply : ReplyParts)
    → Step reading (Ask request) before (Done reply) after → is_success reply.rsc ≡ false
    → after ≡ swept reading before

-- Nor does a Retrieve change a resource.
abbrev pub RetrievesChangeNoResource : Type 0
RetrievesChangeNoResource =
    (reading : ℕ) (request : RequestParts) (before after : EntityData) (reply : ReplyParts)
    → request.op ≡ Retrieve → Step reading (Ask request) before (Done reply) after
    → after.nodes ≡ (swept reading before).nodes

-- Nor does a Notify, whatever it is sent to.
abbrev pub NotifiesChangeNoResource : Type 0
NotifiesChangeNoResource =
    (reading : ℕ) (request : RequestParts) (before after : EntityData) (reply : ReplyParts)
    → request.op ≡ Notify → Step reading (Ask request) before (Done reply) after
    → after.nodes ≡ (swept reading before).nodes

-- So every step leaves the same entity.
abbrev pub StepsKeepTheEntity : Type 0
StepsKeepTheEntity =
    (reading : ℕ) (event : Event) (outcome : Outcome) (before after : EntityData)
    → Step reading event before outcome after → IsSameEntity reading before after

-- Where memory runs out, nothing changes but that what is due is gone, or not even that where it
-- was the expiry that ran out of memory.
abbrev pub WantOfMemoryChangesNothing : Type 0
WantOfMemoryChangesNothing =
    (reading : ℕ) (event : Event) (before after : EntityData)
    → Step reading event before (Starved 0) after
    → (after ≡ swept reading before) ⊎ IsUnswept reading before 0 after

-- the request is sent to a fan-out point
abbrev pub is_fan_point : Option Spot → Bool
is_fan_point None = false
is_fan_point (Some (Resource n)) = false
is_fan_point (Some (Fan group place)) = true
is_fan_point (Some (Poll channel)) = false

-- No member is told as done but by a fan-out.
abbrev pub FanOutsAloneAreCutShort : Type 0
FanOutsAloneAreCutShort =
    (reading : ℕ) (request : RequestParts) (done : ℕ) (before after : EntityData)
    → is_fan_point (spot_asked (swept reading before) request) ≡ false
    → Step reading (Ask request) before (Starved done) after → done ≡ 0
