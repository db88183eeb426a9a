-- What is answered for the entity inside.
use Rattle.std.specs.Prelude.{unwrap_or}
use Rattle.std.proofs.Common.{◌≡◌, ◌⊎◌, ℕ, Option, Some, None, Result, Ok, Err, inl, inr, refl, ap, sym, subst}
use Rattle.primitive_json.specs.declared.reply.ReplyParts.{ReplyParts}
use Rattle.primitive_json.specs.declared.request.RequestParts.{RequestParts}
use Rattle.resource_model.specs.Home.{HomeData}
use Rattle.cse_machine.specs.declared.event.Event.{Event}
use Rattle.cse_machine.specs.declared.event.Event.TheVariants.{Take, Tick}
use Rattle.cse_machine.specs.declared.event.Outcome.{Outcome}
use Rattle.cse_machine.specs.declared.event.Outcome.TheVariants.{Done, Forward, Item, Ticked, Starved}
use Rattle.later_replies.specs.Effects.{GivesLater, LaterEffect}
use Rattle.later_replies.specs.Entries.{LaterRequestsData}
use Rattle.later_replies.specs.Step.{IsAnsweredBy, asked_effect, event_effect, outcome_made}

-- what a call gives, beside the reply of the entity inside
pub outcome_by : {E : Type 0} (given : Option (Result ReplyParts E)) (reply : ReplyParts) (before after : LaterRequestsData) (effect : Option LaterEffect) → GivesLater given before after effect → IsAnsweredBy effect before (Done reply) (outcome_made (unwrap_or given (Ok reply))) after
outcome_by None reply before after None gives = (refl, gives)
outcome_by None reply before after (Some effect) gives = absurd gives
outcome_by (Some told) reply before after None gives = absurd gives
outcome_by (Some (Ok other)) reply before after (Some effect) gives = inl (ap Done gives.reply, gives.requests)
outcome_by (Some (Err fault)) reply before after (Some effect) gives = inr (refl, gives.same)

-- ---- of an outcome

-- a reply
pub answered_reply : (home : HomeData) (requests after : LaterRequestsData) (moment : ℕ) (request : RequestParts) (told outcome : Outcome) (reply : ReplyParts) → told ≡ Done reply → IsAnsweredBy (asked_effect home requests moment request (Done reply)) requests (Done reply) outcome after → IsAnsweredBy (asked_effect home requests moment request told) requests told outcome after
answered_reply home requests after moment request told outcome reply is answered =
    subst (λ (o : Outcome). IsAnsweredBy (asked_effect home requests moment request o) requests o outcome after) (sym is) answered

-- any other stands
pub other_stands : (home : HomeData) (requests : LaterRequestsData) (moment : ℕ) (request : RequestParts) (told : Outcome) → ((reply : ReplyParts) → told ≡ Done reply → ⊥) → IsAnsweredBy (asked_effect home requests moment request told) requests told told requests
other_stands home requests moment request (Done reply) other = absurd (other reply refl)
other_stands home requests moment request (Forward poa onward) other = (refl, refl)
other_stands home requests moment request (Item given) other = (refl, refl)
other_stands home requests moment request Ticked other = (refl, refl)
other_stands home requests moment request (Starved done) other = (refl, refl)

-- so does that of an event that asks nothing
pub nothing_asked : (home : HomeData) (requests : LaterRequestsData) (moment : ℕ) (event : Event) (told : Outcome) → (event ≡ Take) ⊎ (event ≡ Tick) → IsAnsweredBy (event_effect home requests moment event told) requests told told requests
nothing_asked home requests moment event told (inl is) =
    subst (λ (e : Event). IsAnsweredBy (event_effect home requests moment e told) requests told told requests) (sym is) (refl, refl)
nothing_asked home requests moment event told (inr is) =
    subst (λ (e : Event). IsAnsweredBy (event_effect home requests moment e told) requests told told requests) (sym is) (refl, refl)
