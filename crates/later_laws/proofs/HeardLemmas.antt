-- What comes of a request that may be accepted, and of one to another's accepted request.
use Rattle.std.specs.Option.{option_map}
use Rattle.std.proofs.Common.{◌≡◌, ◌⊎◌, ℕ, ◌+◌, Bool, true, false, List, Option, Some, inl, inr, refl, ap, subst, ◌∙◌}
use Rattle.std.proofs.lemmas.Bool.{cases_Bool}
use Rattle.m2m_names.specs.declared.codes.Rsc.TheVariants.{Accepted, NoPrivilege, NonBlocking, NotAcceptable, NotFound}
use Rattle.primitive_json.specs.declared.reply.ReplyParts.{ReplyParts}
use Rattle.primitive_json.specs.declared.request.RequestParts.{RequestParts}
use Rattle.resource_model.specs.Home.{HomeData}
use Rattle.entity_model.specs.Places.{refusal, reply_to}
use Rattle.group_fanout.specs.Rights.{claimed_originator}
use Rattle.cse_machine.specs.declared.event.Event.TheVariants.{Ask}
use Rattle.cse_machine.specs.declared.event.Outcome.{Outcome}
use Rattle.cse_machine.specs.declared.event.Outcome.TheVariants.{Done, Starved}
use Rattle.later_replies.specs.Effects.{LaterEffect, asker_effect, entry_effect, is_acceptable, is_full, is_own, later_effect, reply_only, taken_up, taken_up_if_room, with_accepted}
use Rattle.later_replies.specs.Entries.{LaterEntryData, LaterRequestsData}
use Rattle.accepted_requests.specs.Form.{uri_content}
use Rattle.later_replies.specs.Names.{entry_at}
use Rattle.later_replies.specs.Step.{IsAnsweredBy, asked_effect, event_effect}

-- ---- another's

others_refused : (home : HomeData) (requests : LaterRequestsData) (moment : ℕ) (request : RequestParts) (x : LaterEntryData) → entry_at home request.to requests ≡ Some x → is_own home request x ≡ false → later_effect home requests moment request NotFound ≡ Some (reply_only requests (refusal request NoPrivilege))
others_refused home requests moment request x named other =
    ap (option_map (asker_effect home requests request)) named
    ∙ ap (λ (own : Bool). Some (entry_effect own requests request x)) other

pub record IsRefusedThere (request : RequestParts) (standing : LaterRequestsData) (outcome : Outcome) (after : LaterRequestsData) : Type 0 where
  pub stays : after ≡ standing
  pub told : (outcome ≡ Done (refusal request NoPrivilege)) ⊎ (outcome ≡ Starved 0)

refused_there : (request : RequestParts) (standing after : LaterRequestsData) (told outcome : Outcome) → IsAnsweredBy (Some (reply_only standing (refusal request NoPrivilege))) standing told outcome after → IsRefusedThere request standing outcome after
refused_there request standing after told outcome (inl so) = record { stays = so.1; told = inl so.0 }
refused_there request standing after told outcome (inr so) = record { stays = so.1; told = inr so.0 }

pub other_refused : (home : HomeData) (standing after : LaterRequestsData) (moment : ℕ) (request : RequestParts) (told : ReplyParts) (inner outcome : Outcome) (x : LaterEntryData) → inner ≡ Done told → told.rsc ≡ NotFound → entry_at home request.to standing ≡ Some x → is_own home request x ≡ false → IsAnsweredBy (event_effect home standing moment (Ask request) inner) standing inner outcome after → IsRefusedThere request standing outcome after
other_refused home standing after moment request told inner outcome x is absent named other answered =
    refused_there request standing after inner outcome
    (subst (λ (effect : Option LaterEffect). IsAnsweredBy effect standing inner outcome after)
    (ap (asked_effect home standing moment request) is
    ∙ ap (later_effect home standing moment request) absent
    ∙ others_refused home standing moment request x named other) answered)

-- ---- what may be accepted

acceptable_taken : (home : HomeData) (requests : LaterRequestsData) (moment : ℕ) (request : RequestParts) → is_acceptable home requests request ≡ true → later_effect home requests moment request NonBlocking ≡ Some (taken_up_if_room requests (claimed_originator home request) request moment)
acceptable_taken home requests moment request acceptable = rw acceptable refl

-- it is accepted, or there is no room, or memory runs out
abbrev IsAcceptedOrNot : LaterRequestsData → List ℕ → RequestParts → ℕ → Outcome → LaterRequestsData → Type 0
IsAcceptedOrNot standing originator request moment outcome after =
    ((is_full standing ≡ true) × (outcome ≡ Done (refusal request NotAcceptable)) × (after ≡ standing))
    ⊎ (((is_full standing ≡ false) × (outcome ≡ Done (reply_to request Accepted (Some (uri_content (standing.given + 1)))))
    × (after ≡ with_accepted standing originator request moment))
    ⊎ ((outcome ≡ Starved 0) × (after ≡ standing)))

accepted_or_not : (standing after : LaterRequestsData) (originator : List ℕ) (request : RequestParts) (moment : ℕ) (told outcome : Outcome) → IsAnsweredBy (Some (taken_up_if_room standing originator request moment)) standing told outcome after → IsAcceptedOrNot standing originator request moment outcome after
accepted_or_not standing after originator request moment told outcome (inr so) = inr (inr (so.0, so.1))
accepted_or_not standing after originator request moment told outcome (inl so) = by (cases_Bool (is_full standing))
  where
    by : (is_full standing ≡ true) ⊎ (is_full standing ≡ false) → IsAcceptedOrNot standing originator request moment outcome after
    by (inl full) =
        let is : taken_up_if_room standing originator request moment ≡ reply_only standing (refusal request NotAcceptable) = rw full refl in
        inl (full, so.0 ∙ ap (λ (e : LaterEffect). Done e.reply) is, so.1 ∙ ap (λ (e : LaterEffect). e.requests) is)
    by (inr room) =
        let is : taken_up_if_room standing originator request moment ≡ taken_up standing originator request moment = rw room refl in
        inr (inl (room, so.0 ∙ ap (λ (e : LaterEffect). Done e.reply) is, so.1 ∙ ap (λ (e : LaterEffect). e.requests) is))

pub acceptable_accepted : (home : HomeData) (standing after : LaterRequestsData) (moment : ℕ) (request : RequestParts) (told : ReplyParts) (inner outcome : Outcome) → inner ≡ Done told → told.rsc ≡ NonBlocking → is_acceptable home standing request ≡ true → IsAnsweredBy (event_effect home standing moment (Ask request) inner) standing inner outcome after → IsAcceptedOrNot standing (claimed_originator home request) request moment outcome after
acceptable_accepted home standing after moment request told inner outcome is status acceptable answered =
    accepted_or_not standing after (claimed_originator home request) request moment inner outcome
    (subst (λ (effect : Option LaterEffect). IsAnsweredBy effect standing inner outcome after)
    (ap (asked_effect home standing moment request) is
    ∙ ap (later_effect home standing moment request) status
    ∙ acceptable_taken home standing moment request acceptable) answered)
