-- Each reply of a CSE that answers later has a status that is named.
use Rattle.std.specs.Prelude.{⊤}
use Rattle.std.proofs.Common.{◌≡◌, ℕ, Bool, true, false, Option, Some, None, List, inl, inr, refl, sym, subst, IsTrue}
use Rattle.std.specs.Option.{option_map}
use Rattle.std.proofs.lemmas.Bool.{cases_Bool}
use Rattle.m2m_names.specs.declared.codes.Rsc.{Rsc}
use Rattle.m2m_names.specs.declared.codes.Rsc.TheVariants.{NonBlocking, NotFound}
use Rattle.m2m_names.specs.declared.operations.Op.{Op}
use Rattle.m2m_names.specs.declared.operations.Op.TheVariants.{Create, Retrieve, Update, Delete, Notify}
use Rattle.primitive_json.specs.declared.request.RequestParts.{RequestParts}
use Rattle.resource_model.specs.Home.{HomeData}
use Rattle.entity_model.specs.Entity.{EntityData}
use Rattle.cse_machine.specs.declared.event.Event.TheVariants.{Ask}
use Rattle.cse_machine.specs.declared.event.Outcome.{Outcome}
use Rattle.cse_machine.specs.declared.event.Outcome.TheVariants.{Done, Forward, Item, Ticked, Starved}
use Rattle.cse_machine.specs.Step.{Step}
use Rattle.later_replies.specs.Effects.{LaterEffect, acceptance, asker_effect, entry_effect, is_acceptable, is_full, is_own, is_status, later_effect, own_effect, taken_up_if_room}
use Rattle.later_replies.specs.Entries.{LaterEntryData, LaterRequestsData, still_standing}
use Rattle.later_replies.specs.Names.{entry_at}
use Rattle.later_replies.specs.Step.{IsAnsweredBy, asked_effect}
use Rattle.group_fanout.specs.Rights.{claimed_originator}
use Rattle.totality_laws.specs.Statuses.{LaterStepsAreAnsweredByName, is_named, is_named_later}
use Rattle.totality_laws.proofs.StatusLemmas.{steps_named}

-- ---- what an effect says

-- the reply has such a status
abbrev IsNamedLater : LaterEffect → Type 0
IsNamedLater effect = IsTrue (is_named_later effect.reply.rsc)

own_named : (op : Op) (requests : LaterRequestsData) (request : RequestParts) (e : LaterEntryData) → IsNamedLater (own_effect op requests request e)
own_named Create requests request e = refl
own_named Retrieve requests request e = refl
own_named Update requests request e = refl
own_named Delete requests request e = refl
own_named Notify requests request e = refl

entry_named : (own : Bool) (requests : LaterRequestsData) (request : RequestParts) (e : LaterEntryData) → IsNamedLater (entry_effect own requests request e)
entry_named true requests request e = own_named request.op requests request e
entry_named false requests request e = refl

taken_named : (requests : LaterRequestsData) (who : List ℕ) (request : RequestParts) (moment : ℕ) → IsNamedLater (taken_up_if_room requests who request moment)
taken_named requests who request moment = elim (cases_Bool (is_full requests)) [
  | inl t ↦ rw t refl
  | inr f ↦ rw f refl
]

-- if there is one, its reply has such a status
abbrev MaySay : Option LaterEffect → Type 0
MaySay None = ⊤
MaySay (Some effect) = IsNamedLater effect

acceptance_named : (home : HomeData) (requests : LaterRequestsData) (moment : ℕ) (request : RequestParts) → MaySay (acceptance home requests moment request)
acceptance_named home requests moment request = elim (cases_Bool (is_acceptable home requests request)) [
  | inl t ↦ rw t (taken_named requests (claimed_originator home request) request moment)
  | inr f ↦ rw f tt
]

naming_named : (home : HomeData) (requests : LaterRequestsData) (request : RequestParts) (found : Option LaterEntryData) → MaySay (option_map (asker_effect home requests request) found)
naming_named home requests request None = tt
naming_named home requests request (Some e) = entry_named (is_own home request e) requests request e

later_named : (home : HomeData) (requests : LaterRequestsData) (moment : ℕ) (request : RequestParts) (told : Rsc) → MaySay (later_effect home requests moment request told)
later_named home requests moment request told = elim (cases_Bool (is_status told NonBlocking)) [
  | inl t ↦ rw t (acceptance_named home requests moment request)
  | inr f ↦ elim (cases_Bool (is_status told NotFound)) [
    | inl t ↦ rw (f, t) (naming_named home requests request (entry_at home request.to requests))
    | inr g ↦ rw (f, g) tt
  ]
]

asked_named : (home : HomeData) (requests : LaterRequestsData) (moment : ℕ) (request : RequestParts) (told : Outcome) → MaySay (asked_effect home requests moment request told)
asked_named home requests moment request (Done reply) = later_named home requests moment request reply.rsc
asked_named home requests moment request (Forward poa onward) = tt
asked_named home requests moment request (Item given) = tt
asked_named home requests moment request Ticked = tt
asked_named home requests moment request (Starved done) = tt

-- ---- what comes of a request

-- it is no reply, or one that has such a status
abbrev SaysLater : Outcome → Type 0
SaysLater (Done reply) = IsTrue (is_named_later reply.rsc)
SaysLater (Forward poa onward) = ⊤
SaysLater (Item given) = ⊤
SaysLater Ticked = ⊤
SaysLater (Starved done) = ⊤

named_too : (told : Rsc) → is_named told ≡ true → is_named_later told ≡ true
named_too told is = rw is refl

told_named : (reading : ℕ) (request : RequestParts) (before after : EntityData) (told : Outcome) → Step reading (Ask request) before told after → SaysLater told
told_named reading request before after (Done reply) step = named_too reply.rsc (steps_named reading request before after reply step)
told_named reading request before after (Forward poa onward) step = tt
told_named reading request before after (Item given) step = tt
told_named reading request before after Ticked step = tt
told_named reading request before after (Starved done) step = tt

answered_named : (effect : Option LaterEffect) (requests after : LaterRequestsData) (told outcome : Outcome) → MaySay effect → SaysLater told → IsAnsweredBy effect requests told outcome after → SaysLater outcome
answered_named None requests after told outcome says said answered = subst SaysLater (sym answered.0) said
answered_named (Some effect) requests after told outcome says said (inl so) = subst SaysLater (sym so.0) says
answered_named (Some effect) requests after told outcome says said (inr so) = subst SaysLater (sym so.0) tt

pub later_steps_named : LaterStepsAreAnsweredByName
later_steps_named reading request before after reply s =
    let left : LaterRequestsData = still_standing s.moment s.ran in
    answered_named (asked_effect s.between.home left s.moment request s.taken.told) left after.requests s.taken.told (Done reply)
    (asked_named s.between.home left s.moment request s.taken.told)
    (told_named reading request s.between after.inner s.taken.told s.taken.step)
    s.taken.answered
