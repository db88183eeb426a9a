-- What an event may come to.
use Rattle.std.proofs.Common.{◌≡◌, ◌⊎◌, ℕ, Bool, true, false, Option, Some, None, inl, inr, refl, sym, ap, subst, ◌∙◌}
use Rattle.std.specs.Option.{option_map}
use Rattle.std.proofs.lemmas.Bool.{cases_Bool}
use Rattle.m2m_names.specs.declared.codes.Rsc.TheVariants.{NoPrivilege, NonBlocking, NotAcceptable, NotFound}
use Rattle.m2m_names.specs.declared.operations.Op.{Op}
use Rattle.m2m_names.specs.declared.operations.Op.TheVariants.{Create, Retrieve, Update, Delete, Notify}
use Rattle.primitive_json.specs.declared.reply.ReplyParts.{ReplyParts}
use Rattle.primitive_json.specs.declared.request.RequestParts.{RequestParts}
use Rattle.resource_model.specs.Home.{HomeData}
use Rattle.entity_model.specs.Places.{refusal}
use Rattle.group_fanout.specs.Rights.{claimed_originator}
use Rattle.cse_machine.specs.declared.event.Event.{Event}
use Rattle.cse_machine.specs.declared.event.Event.TheVariants.{Ask, Take, Tick}
use Rattle.cse_machine.specs.declared.event.Outcome.{Outcome}
use Rattle.cse_machine.specs.declared.event.Outcome.TheVariants.{Done, Forward, Item, Ticked, Starved}
use Rattle.later_replies.specs.Effects.{LaterEffect, acceptance, asker_effect, entry_effect, is_acceptable, is_full, is_own, is_status, later_effect, own_effect, reply_only, taken_up, taken_up_if_room, with_accepted}
use Rattle.later_replies.specs.Entries.{LaterEntryData, LaterRequestsData, without}
use Rattle.later_replies.specs.Names.{entry_at}
use Rattle.later_replies.specs.Step.{IsAnsweredBy, event_effect}
use Rattle.later_replies.specs.Answered.{AsksLater, ComesTo, IsOwnAsked, IsTakenUp, NamesAccepted}

module _ (home : HomeData) (requests : LaterRequestsData) (moment : ℕ) where
  -- an effect is that of a request which asks to be answered later
  record Asked (event : Event) (told : Outcome) (effect : LaterEffect) : Type 0 where
    pub asked : AsksLater home requests event told
    pub is : effect ≡ taken_up_if_room requests (claimed_originator home asked.request) asked.request moment

  -- or of one that names an accepted request
  record Named (event : Event) (told : Outcome) (effect : LaterEffect) : Type 0 where
    pub at : NamesAccepted home requests event told
    pub is : effect ≡ asker_effect home requests at.request at.named

  -- if there is an effect, it is one of these
  abbrev IsOfBoth : Event → Outcome → Option LaterEffect → Type 0
  IsOfBoth event told None = Unit {0}
  IsOfBoth event told (Some effect) = Asked event told effect ⊎ Named event told effect

  acceptance_is : (request : RequestParts) (reply : ReplyParts) → is_status reply.rsc NonBlocking ≡ true → IsOfBoth (Ask request) (Done reply) (acceptance home requests moment request)
  acceptance_is request reply status = elim (cases_Bool (is_acceptable home requests request)) [
    | inl t ↦ rw t (inl (record { asked = record { request = request; asks = refl; reply = reply; refused = refl; status = status; acceptable = t }; is = refl }))
    | inr f ↦ rw f tt
  ]

  naming_is : (request : RequestParts) (reply : ReplyParts) (found : Option LaterEntryData) → is_status reply.rsc NotFound ≡ true → entry_at home request.to requests ≡ found → IsOfBoth (Ask request) (Done reply) (option_map (asker_effect home requests request) found)
  naming_is request reply None status names = tt
  naming_is request reply (Some named) status names =
      inr (record { at = record { request = request; asks = refl; reply = reply; refused = refl; status = status; named = named; names = names }; is = refl })

  later_is : (request : RequestParts) (reply : ReplyParts) → IsOfBoth (Ask request) (Done reply) (later_effect home requests moment request reply.rsc)
  later_is request reply = elim (cases_Bool (is_status reply.rsc NonBlocking)) [
    | inl t ↦ rw t (acceptance_is request reply t)
    | inr f ↦ elim (cases_Bool (is_status reply.rsc NotFound)) [
      | inl t ↦ rw (f, t) (naming_is request reply (entry_at home request.to requests) t refl)
      | inr g ↦ rw (f, g) tt
    ]
  ]

  event_is : (event : Event) (told : Outcome) → IsOfBoth event told (event_effect home requests moment event told)
  event_is (Ask request) (Done reply) = later_is request reply
  event_is (Ask request) (Forward poa onward) = tt
  event_is (Ask request) (Item given) = tt
  event_is (Ask request) Ticked = tt
  event_is (Ask request) (Starved done) = tt
  event_is Take told = tt
  event_is Tick told = tt

  -- ---- what it comes to

  asked_comes : (event : Event) (told outcome : Outcome) (effect : LaterEffect) (after : LaterRequestsData) → Asked event told effect → outcome ≡ Done effect.reply → after ≡ effect.requests → ComesTo home requests moment event told outcome after
  asked_comes event told outcome effect after a replied left = by (cases_Bool (is_full requests))
    where
      by : (is_full requests ≡ true) ⊎ (is_full requests ≡ false) → ComesTo home requests moment event told outcome after
      by (inl full) =
          let is : effect ≡ reply_only requests (refusal a.asked.request NotAcceptable) = a.is ∙ rw full refl in
          inr (inr (inl (record { asked = a.asked; full = full; comes = replied ∙ ap (λ (e : LaterEffect). Done e.reply) is; same = left ∙ ap (λ (e : LaterEffect). e.requests) is })))
      by (inr room) =
          let is : effect ≡ taken_up requests (claimed_originator home a.asked.request) a.asked.request moment = a.is ∙ rw room refl in
          inr (inr (inr (inl (record { asked = a.asked; room = room; comes = replied ∙ ap (λ (e : LaterEffect). Done e.reply) is; accepted = left ∙ ap (λ (e : LaterEffect). e.requests) is }))))

  named_comes : (event : Event) (told outcome : Outcome) (effect : LaterEffect) (after : LaterRequestsData) → Named event told effect → outcome ≡ Done effect.reply → after ≡ effect.requests → ComesTo home requests moment event told outcome after
  named_comes event told outcome effect after n replied left = by (cases_Bool (is_own home n.at.request n.at.named))
    where
      by : (is_own home n.at.request n.at.named ≡ true) ⊎ (is_own home n.at.request n.at.named ≡ false) → ComesTo home requests moment event told outcome after
      by (inl own) =
          let is : effect ≡ own_effect n.at.request.op requests n.at.request n.at.named = n.is ∙ ap (λ (b : Bool). entry_effect b requests n.at.request n.at.named) own in
          inr (inr (inr (inr (inr (record { at = n.at; own = own; comes = replied ∙ ap (λ (e : LaterEffect). Done e.reply) is; left = left ∙ ap (λ (e : LaterEffect). e.requests) is })))))
      by (inr other) =
          let is : effect ≡ reply_only requests (refusal n.at.request NoPrivilege) = n.is ∙ ap (λ (b : Bool). entry_effect b requests n.at.request n.at.named) other in
          inr (inr (inr (inr (inl (record { at = n.at; others = other; comes = replied ∙ ap (λ (e : LaterEffect). Done e.reply) is; same = left ∙ ap (λ (e : LaterEffect). e.requests) is })))))

  answered_comes : (event : Event) (told outcome : Outcome) (after : LaterRequestsData) (effect : Option LaterEffect) → IsAnsweredBy effect requests told outcome after → IsOfBoth event told effect → ComesTo home requests moment event told outcome after
  answered_comes event told outcome after None answered is = inl (record { comes = answered.0; same = answered.1 })
  answered_comes event told outcome after (Some effect) (inr so) is = inr (inl (record { comes = so.0; same = so.1 }))
  answered_comes event told outcome after (Some effect) (inl so) (inl asked) = asked_comes event told outcome effect after asked so.0 so.1
  answered_comes event told outcome after (Some effect) (inl so) (inr named) = named_comes event told outcome effect after named so.0 so.1

  -- the event comes to one of these
  pub comes_to : (event : Event) (told outcome : Outcome) (after : LaterRequestsData) → IsAnsweredBy (event_effect home requests moment event told) requests told outcome after → ComesTo home requests moment event told outcome after
  comes_to event told outcome after answered = answered_comes event told outcome after (event_effect home requests moment event told) answered (event_is event told)

-- ---- what is kept then

-- what holds where nothing comes or goes, and where it goes by a Delete, holds of what a request
-- leaves by its originator's own
own_holds : (P : LaterRequestsData → Type 0) (requests : LaterRequestsData) (op : Op) (request : RequestParts) (e : LaterEntryData) → P requests → (op ≡ Delete → P (without e.number requests)) → P (own_effect op requests request e).requests
own_holds P requests Create request e stays goes = stays
own_holds P requests Retrieve request e stays goes = stays
own_holds P requests Update request e stays goes = stays
own_holds P requests Delete request e stays goes = goes refl
own_holds P requests Notify request e stays goes = stays

-- and of what an event leaves, where it holds of what is accepted too
pub comes_holds : (P : LaterRequestsData → Type 0) (home : HomeData) (requests : LaterRequestsData) (moment : ℕ) (event : Event) (told outcome : Outcome) (after : LaterRequestsData) → P requests
    → ((up : IsTakenUp home requests moment event told outcome after) → P (with_accepted requests (claimed_originator home up.asked.request) up.asked.request moment))
    → ((o : IsOwnAsked home requests event told outcome after) → o.at.request.op ≡ Delete → P (without o.at.named.number requests))
    → ComesTo home requests moment event told outcome after → P after
comes_holds P home requests moment event told outcome after stays adds goes (inl c) = subst P (sym c.same) stays
comes_holds P home requests moment event told outcome after stays adds goes (inr (inl c)) = subst P (sym c.same) stays
comes_holds P home requests moment event told outcome after stays adds goes (inr (inr (inl c))) = subst P (sym c.same) stays
comes_holds P home requests moment event told outcome after stays adds goes (inr (inr (inr (inl c)))) = subst P (sym c.accepted) (adds c)
comes_holds P home requests moment event told outcome after stays adds goes (inr (inr (inr (inr (inl c))))) = subst P (sym c.same) stays
comes_holds P home requests moment event told outcome after stays adds goes (inr (inr (inr (inr (inr c))))) =
    subst P (sym c.left) (own_holds P requests c.at.request.op c.at.request c.at.named stays (goes c))
