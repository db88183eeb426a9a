-- No event takes an item from the outbox but the one that it gives away.
use Rattle.std.proofs.Common.{◌≡◌, ◌⊎◌, inl, inr, ⊎_elim, ℕ, List, [], ◌∷◌, take, sym, ◌∙◌, ap, subst}
use Rattle.std.specs.Prelude.{Contains, IsTrue, Option, Some, None, option_map}
use Rattle.std.specs.Option.{option_map_or}
use Rattle.m2m_names.specs.declared.codes.Rsc.{Rsc}
use Rattle.m2m_names.specs.declared.codes.Rsc.TheVariants.{BadChild}
use Rattle.m2m_names.specs.declared.operations.Op.{Op}
use Rattle.m2m_names.specs.declared.operations.Op.TheVariants.{Create, Retrieve, Update, Delete, Notify}
use Rattle.m2m_names.specs.declared.types.Ty.{Ty}
use Rattle.primitive_json.specs.declared.note.NoteParts.{NoteParts}
use Rattle.primitive_json.specs.declared.request.RequestParts.{RequestParts}
use Rattle.resource_model.specs.Resource.{ResourceData}
use Rattle.notify_outbox.specs.Items.{is_to_send, still_waits, waits_for}
use Rattle.notify_outbox.specs.declared.item.Item.{Item}
use Rattle.entity_model.specs.Entity.{EntityData, event_moment, swept}
use Rattle.entity_model.specs.Places.{Effect, refused}
use Rattle.request_rules.specs.Order.{creation_by, fault_on}
use Rattle.request_rules.specs.Requests.{child_ty}
use Rattle.create_delete.specs.Changing.{create_effect, effect_by}
use Rattle.create_delete.specs.Relaying.{notify_effect}
use Rattle.create_delete.specs.Telling.{told_effect_by, told_effect_on}
use Rattle.retrieve_discover.specs.Polling.{handed_on}
use Rattle.group_fanout.specs.Fan.{after_members, member_effect, requests_to}
use Rattle.group_fanout.specs.Operations.{change_effect, operation_effect, relay_effect}
use Rattle.group_fanout.specs.Rights.{claimed_originator}
use Rattle.cse_machine.specs.Answer.{effect_of}
use Rattle.cse_machine.specs.Step.{IsCutShort, Step}
use Rattle.cse_machine.specs.declared.event.Event.{Event}
use Rattle.cse_machine.specs.declared.event.Event.TheVariants.{Ask, Take, Tick}
use Rattle.cse_machine.specs.declared.event.Outcome.{Outcome}
use Rattle.cse_machine.specs.declared.event.Outcome.TheVariants.{Done, Forward, Item as Given, Ticked, Starved}
use Rattle.cse_machine.proofs.CutLemmas.{IsLeftShort, left_short, some_done, undone}
use Rattle.cse_machine.proofs.CameLemmas.{Came, comes}
use Rattle.cse_machine.proofs.SameLemmas.{done_holds, onward_leaves}
use Rattle.cse_machine.proofs.MemberLemmas.{of_member}
use Rattle.cse_machine.proofs.WayLemmas.{IsPolled, given_note, member_addresses}
use Rattle.journal_events.specs.Steps.{KeptEntityStep}
use Rattle.journal_events.specs.declared.event.KeptEvent.{KeptEvent}
use Rattle.journal_events.specs.declared.event.KeptEvent.TheVariants as events
use Rattle.journal_events.specs.declared.event.KeptOutcome.{KeptOutcome}
use Rattle.journal_events.specs.declared.event.KeptOutcome.TheVariants as outcomes
use Rattle.journal_events.proofs.LossLemmas.{contains_ahead, stays_or_is_first, stays_unless_sent, waits_expired, waits_still, waits_swept}
use Rattle.journaled_entity.specs.Losses.{HandsOn, IsGivenBy, LeavesBy}

module _ (item : Item) where
  -- ---- an operation

  module _ (e : EntityData) (request : RequestParts) (has : Contains e.items item) where
    abbrev o : List ℕ
    o = claimed_originator e.home request

    joins : (r : ResourceData) (c : Option Ty)
        → Contains (option_map_or (λ (ty : Ty). create_effect request (creation_by e o request r ty)) c (refused e request BadChild)).after.items item
    joins r None = has
    joins r (Some ty) = has

    does : (op : Op) (r : ResourceData) → Contains (effect_by op e o request r).after.items item
    does Create r = joins r (child_ty request)
    does Retrieve r = has
    does Update r = has
    does Delete r = has
    does Notify r = has

    -- what is told of it is appended
    told : (op : Op) (r : ResourceData) → Contains (told_effect_by op e o request r).after.items item
    told op r = contains_ahead (effect_by op e o request r).after.items _ item (does op r)

    told_on : (op : Op) (r : ResourceData) → Contains (told_effect_on op e o request r).after.items item
    told_on op r = by (fault_on op e o request r)
      where
        by : (f : Option Rsc) → Contains (option_map_or (refused e request) f (told_effect_by op e o request r)).after.items item
        by None = told op r
        by (Some fault) = has

    changed : (op : Op) (r : ResourceData) → Contains (change_effect op e request r).after.items item
    unfolding change_effect
    changed op r = told_on op r

    relayed_on : (f : Option Rsc) → Contains (option_map_or (refused e request) f (notify_effect e o request)).after.items item
    relayed_on None = contains_ahead e.items _ item has
    relayed_on (Some fault) = has

    relays : (r : ResourceData) → Contains (relay_effect e request r).after.items item
    unfolding relay_effect
    relays r = relayed_on (fault_on Notify e o request r)

    operated : (op : Op) (r : ResourceData) → Contains (operation_effect op e request r).after.items item
    operated Create r = changed Create r
    operated Retrieve r = has
    operated Update r = changed Update r
    operated Delete r = changed Delete r
    operated Notify r = relays r

  -- ---- a request

  member : (e : EntityData) (request : RequestParts) → Contains e.items item → Contains (member_effect e request).after.items item
  member e request has =
      of_member e request (λ x. Contains x.after.items item) (λ fault other. has) (λ way. operated e request has request.op way.target)

  members : (requests : List RequestParts) (e : EntityData) → Contains e.items item → Contains (after_members e requests).items item
  members [] e has = has
  members (request ∷ requests) e has = members requests (member_effect e request).after (member e request has)

  -- it stays, or is handed on
  abbrev Fares : Effect → Type 0
  Fares effect = Contains effect.after.items item ⊎ HandsOn item effect.reply

  module _ (e : EntityData) (request : RequestParts) (has : Contains e.items item) where
    polled : (way : IsPolled e request (effect_of e request)) → Fares (given_note e request way.channel way.note)
    polled way =
        ⊎_elim (λ stays. inl stays)
        (λ first. inr (ap (option_map handed_on) (sym way.first ∙ ap (option_map (λ (i : Item). i.note)) first)))
        (stays_or_is_first (waits_for way.channel) e.items item has)

    asked : Came e request Fares
    asked =
        comes e request Fares
        (λ fault other. inl has)
        (λ way. inl (operated e request has request.op way.target))
        (λ way. polled way)
        (λ way. inl has)
        (λ way. inl (members (requests_to request (member_addresses e request way.place way.group)) e has))

    cut_short : (done : ℕ) (after : EntityData) → IsLeftShort e request done after → Contains after.items item
    cut_short done after (undone none same) = subst (λ (x : EntityData). Contains x.items item) (sym same) has
    cut_short done after (some_done fan left) =
        subst (λ (x : EntityData). Contains x.items item) (sym left)
        (members (requests_to request (take done (member_addresses e request fan.place fan.group))) e has)

  -- ---- an event

  module _ (reading : ℕ) (before after : EntityData) (has : Contains before.items item) (waits : IsTrue (still_waits (event_moment before.last reading) item)) where
    abbrev Stays : Type 0
    Stays = Contains after.items item

    here : Contains (swept reading before).items item
    here = waits_still reading before item has waits

    left : after ≡ swept reading before → Stays
    left is = waits_swept reading before item has waits after is

    same : after ≡ before → Stays
    same is = subst (λ (e : EntityData). Contains e.items item) (sym is) has

    short : (request : RequestParts) (done : ℕ) → IsCutShort (swept reading before) request done after → Stays
    short request done cut =
        let e = swept reading before in
        cut_short e request here done after (left_short e request done after cut)

    pub machine_step : (event : Event) (came : Outcome) → Step reading event before came after → Stays ⊎ IsGivenBy item event came
    machine_step (Ask request) (Done reply) step = done_holds Fares reading request before after reply (asked (swept reading before) request here) step
    machine_step (Ask request) (Forward poa onward) step = inl (left (onward_leaves reading request before after poa onward step))
    machine_step (Ask request) (Given given) step = absurd step
    machine_step (Ask request) Ticked step = absurd step
    machine_step (Ask request) (Starved done) step = inl (⊎_elim (short request done) (λ unswept. same unswept.same) step)
    machine_step Take (Done reply) step = absurd step
    machine_step Take (Forward poa onward) step = absurd step
    machine_step Take (Given given) step =
        let e = swept reading before in
        ⊎_elim (λ stays. inl (subst (λ (x : EntityData). Contains x.items item) (sym step.1) stays))
        (λ first. inr (ap (λ (n : Option NoteParts). Given n) (step.0 ∙ ap (option_map (λ (i : Item). i.note)) first)))
        (stays_or_is_first (is_to_send e.nodes) e.items item here)
    machine_step Take Ticked step = absurd step
    machine_step Take (Starved done) step = inl (same step.same)
    machine_step Tick (Done reply) step = absurd step
    machine_step Tick (Forward poa onward) step = absurd step
    machine_step Tick (Given given) step = absurd step
    machine_step Tick Ticked step = inl (left step)
    machine_step Tick (Starved done) step = inl (same step.same)

    pub kept_step : (event : KeptEvent) (came : KeptOutcome) → KeptEntityStep reading event before came after → Stays ⊎ LeavesBy item event came
    kept_step (events.OfMachine event) (outcomes.OfMachine came) step = machine_step event came step
    kept_step (events.OfMachine event) (outcomes.Next given) step = absurd step
    kept_step (events.OfMachine event) outcomes.Taken step = absurd step
    kept_step events.Next (outcomes.OfMachine came) step = inl (waits_expired reading before item has waits came after step)
    kept_step events.Next (outcomes.Next given) step = inl (left step.0)
    kept_step events.Next outcomes.Taken step = absurd step
    kept_step (events.Sent number) (outcomes.OfMachine came) step = inl (waits_expired reading before item has waits came after step)
    kept_step (events.Sent number) (outcomes.Next given) step = absurd step
    kept_step (events.Sent number) outcomes.Taken step =
        ⊎_elim (λ there. inl (subst (λ (e : EntityData). Contains e.items item) (sym step) there)) (λ sent. inr sent)
        (stays_unless_sent number (swept reading before) item here)
