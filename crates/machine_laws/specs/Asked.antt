-- What a request that is served changes (TS-0001, 10.2).
use Rattle.std.specs.Prelude.{◌≡◌, ℕ, ◌+◌, false, length, Some, None, IsTrue}
use Rattle.m2m_names.specs.declared.codes.Rsc.TheVariants.{Deleted}
use Rattle.m2m_names.specs.declared.operations.Op.{Op}
use Rattle.m2m_names.specs.declared.operations.Op.TheVariants.{Create, Update, Delete}
use Rattle.primitive_json.specs.declared.reply.ReplyParts.{ReplyParts}
use Rattle.primitive_json.specs.declared.request.RequestParts.{RequestParts}
use Rattle.resource_model.specs.Resource.{ResourceData}
use Rattle.entity_model.specs.Entity.{EntityData, swept, telling}
use Rattle.entity_model.specs.Places.{reply_to}
use Rattle.entity_model.specs.Sound.{IsSoundEntity}
use Rattle.create_delete.specs.Changes.{changes_by, only_in}
use Rattle.create_delete.specs.Changing.{delete_effect}
use Rattle.create_delete.specs.Telling.{gone_numbers}
use Rattle.change_laws.specs.Served.{AddsOne, ChangesOne}
use Rattle.cse_machine.specs.declared.event.Event.TheVariants.{Ask}
use Rattle.cse_machine.specs.declared.event.Outcome.TheVariants.{Done}
use Rattle.cse_machine.specs.Answer.{addressed, spot_asked}
use Rattle.guard_laws.specs.Guard.{is_fan_point}
use Rattle.m2m_names.specs.StatusCodes.{is_success}
use Rattle.cse_machine.specs.Step.{Step}

-- The request was served at a step: its reply is a success, and its address names this resource of
-- what isn't due.
pub record IsServedStep (reading : ℕ) (request : RequestParts) (before after : EntityData)
    (reply : ReplyParts) (target : ResourceData) : Type 0 where
  pub step : Step reading (Ask request) before (Done reply) after
  pub served : IsTrue (is_success reply.rsc)
  pub named : addressed (swept reading before) request.to ≡ Some target

-- An operation on the resource of a number made the second entity of the first, and its changes are
-- then told: their notes are appended, and behind them the requests about copies, and subscriptions
-- that count are lowered, or go (TS-0001, 9.6.8 and 9.6.26).
abbrev pub told_of : Op → RequestParts → ℕ → EntityData → EntityData → EntityData
told_of op request n before done =
    telling before.nodes (gone_numbers before done) (changes_by op request n before done) done

-- A Create that is served adds exactly one resource, with the next number, under the one that its
-- address names; it changes besides at most that one, and removes at most instances of it (TS-0001,
-- 10.2.1). Then its changes are told.
abbrev pub CreatesAddOne : Type 0
CreatesAddOne =
    (reading : ℕ) (request : RequestParts) (before after : EntityData) (reply : ReplyParts)
    (target : ResourceData) → IsSoundEntity before → request.op ≡ Create
    → IsServedStep reading request before after reply target
    → (done : EntityData) × AddsOne (swept reading before) target.number done
    × (after ≡ told_of Create request target.number (swept reading before) done)

-- An Update that is served changes the resource that its address names alone, which stays, and
-- removes at most instances of it (TS-0001, 10.2.4). Then its changes are told.
abbrev pub UpdatesChangeTheirTarget : Type 0
UpdatesChangeTheirTarget =
    (reading : ℕ) (request : RequestParts) (before after : EntityData) (reply : ReplyParts)
    (target : ResourceData) → IsSoundEntity before → request.op ≡ Update
    → IsServedStep reading request before after reply target
    → (done : EntityData) × ChangesOne (swept reading before) target.number done
    × (after ≡ told_of Update request target.number (swept reading before) done)

-- A Delete that is served takes the resource that its address names and all that stands below it,
-- and changes nothing else (TS-0001, 10.2.5). Then its changes are told.
abbrev pub DeletesTakeTheirTarget : Type 0
DeletesTakeTheirTarget =
    (reading : ℕ) (request : RequestParts) (before after : EntityData) (reply : ReplyParts)
    (target : ResourceData) → request.op ≡ Delete
    → IsServedStep reading request before after reply target
    → (reply ≡ reply_to request Deleted None)
    × (after ≡ told_of Delete request target.number (swept reading before)
    (delete_effect (swept reading before) request target).after)

-- Outside a fan-out the next number rises by exactly as many as are new. In a fan-out one member
-- may push out what another created.
abbrev pub NumbersRiseByWhatIsNew : Type 0
NumbersRiseByWhatIsNew =
    (reading : ℕ) (request : RequestParts) (before after : EntityData) (reply : ReplyParts)
    → IsSoundEntity before → Step reading (Ask request) before (Done reply) after
    → is_fan_point (spot_asked (swept reading before) request) ≡ false
    → after.next ≡ before.next + length (only_in after.nodes (swept reading before).nodes)
