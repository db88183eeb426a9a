-- A step leads to what it leaves, and what it sends is what it appends.
use Rattle.std.proofs.Common.{◌≡◌, ℕ, List, [], ◌∷◌, ◌++◌, append_assoc, take, Option, Some, None, inl, inr, refl, sym, ap, ◌∙◌, subst}
use Rattle.std.proofs.lemmas.List.{append-nil}
use Rattle.std.proofs.Math.Seq.{take-nil}
use Rattle.std.specs.Option.{option_map_or}
use Rattle.primitive_json.specs.declared.request.RequestParts.{RequestParts}
use Rattle.resource_model.specs.Resource.{ResourceData}
use Rattle.subscription_match.specs.Notices.{notes_of_all}
use Rattle.tree_model.specs.Changes.{those_of}
use Rattle.tree_model.specs.Tree.{overdue_numbers}
use Rattle.notify_outbox.specs.Items.{is_to_send, waits_for}
use Rattle.notify_outbox.specs.declared.item.Item.{Item}
use Rattle.announce_copy.specs.Copies.{CopyDraft}
use Rattle.copy_laws.specs.Following.{nothing}
use Rattle.copy_laws.specs.Standing.{Instances}
use Rattle.entity_model.specs.Entity.{EntityData, event_moment, expired, swept}
use Rattle.entity_model.specs.Expiry.{expiry_changes}
use Rattle.entity_model.specs.Sound.{IsSoundEntity}
use Rattle.entity_model.proofs.TellingLemmas.{sound_swept}
use Rattle.group_fanout.specs.Fan.{after_members}
use Rattle.cse_machine.specs.declared.event.Event.{Event}
use Rattle.cse_machine.specs.declared.event.Event.TheVariants.{Ask, Take, Tick}
use Rattle.cse_machine.specs.declared.event.Outcome.{Outcome}
use Rattle.cse_machine.specs.declared.event.Outcome.TheVariants.{Done, Forward, Item as Given}
use Rattle.cse_machine.specs.declared.event.Outcome.TheVariants.{Starved, Ticked}
use Rattle.cse_machine.specs.Answer.{effect_of}
use Rattle.cse_machine.specs.Step.{IsCutShort, IsUnswept, Step, heard_members}
use Rattle.guard_laws.proofs.CutLemmas.{short_send}
use Rattle.cse_machine.proofs.CutLemmas.{Heard, a_fan, heard_by, no_fan}
use Rattle.cse_machine.proofs.SameLemmas.{onward_leaves}
use Rattle.cse_machine.proofs.MemberLemmas.{take_requests}
use Rattle.cse_machine.proofs.WayLemmas.{member_addresses}
use Rattle.machine_laws.specs.Outbox.{Account, AccountStep, aged, channel_polled, expired_account, expiry_items, expiry_notes, given, member_items, noted, request_items, requested_account, short_account}
use Rattle.copy_histories.specs.Histories.{AreThese, StandStep, copies_in, member_trees, request_trees, stood_through}
use Rattle.copy_histories.proofs.LeadingLemmas.{expiring_told}
use Rattle.copy_histories.proofs.MemberLemmas.{members_go}
use Rattle.copy_histories.proofs.NoteLemmas.{aged_in, copies_in_items, given_in, items_in, noted_in}
use Rattle.copy_histories.proofs.OperatedLemmas.{GoesTo, tells}
use Rattle.copy_histories.proofs.RequestLemmas.{appended, request_leads}
use Rattle.copy_histories.proofs.RunLemmas.{Goes, goes_nowhere, goes_on}

-- ---- the expiry

module _ (reading : ℕ) (e : EntityData) where
  abbrev moment : ℕ
  moment = event_moment e.last reading

  expiry_goes : IsSoundEntity e → GoesTo e (swept reading e) (copies_in_items (expiry_items reading e))
  expiry_goes sound =
      let going : List ℕ = overdue_numbers moment e.nodes in
      let changes = expiry_changes moment e.nodes in
      subst (λ (ds : List CopyDraft). GoesTo e (swept reading e) ds) (sym (items_in e.numbered moment (expiry_notes reading e)))
      (tells e going changes (expired moment e) nothing (those_of going e.nodes)
      (expiring_told moment e (notes_of_all e.home e.nodes going changes) sound) refl)

  expired_in : (account : Account) → copies_in (expired_account reading e account) ≡ copies_in account ++ copies_in_items (expiry_items reading e)
  expired_in account =
      noted_in (expiry_items reading e) (aged moment account)
      ∙ ap (λ (ds : List CopyDraft). ds ++ copies_in_items (expiry_items reading e)) (aged_in moment account)

-- ---- a step

-- what a step that makes this of an account sends, which is what it appends, and the trees that it
-- leaves one after another
pub record Steps (reading : ℕ) (event : Event) (before : EntityData) (outcome : Outcome) (after : EntityData) (account next : Account) : Type 0 where
  pub sent : List CopyDraft
  pub trees : List (List ResourceData)
  pub run : Goes before.home before.nodes after.nodes sent trees
  pub appends : copies_in next ≡ copies_in account ++ sent
  pub stands : (peer : List ℕ) (stood upon : Instances) → AreThese upon (stood_through peer stood before.nodes trees) → StandStep peer reading event before outcome after stood upon

module _ (reading : ℕ) (before : EntityData) (account : Account) (sound : IsSoundEntity before) where
  abbrev e : EntityData
  e = swept reading before

  abbrev told : List CopyDraft
  told = copies_in_items (expiry_items reading before)

  abbrev expired_next : Account
  expired_next = expired_account reading before account

  e_sound : IsSoundEntity e
  e_sound = sound_swept reading before sound

  -- what is behind the expiry
  behind : (after : EntityData) (sent : List CopyDraft) (trees : List (List ResourceData)) → Goes e.home e.nodes after.nodes sent trees → Goes before.home before.nodes after.nodes (told ++ sent) (e.nodes ∷ trees)
  behind after sent trees second =
      goes_on before.home before.nodes e.nodes after.nodes told sent (e.nodes ∷ []) trees (expiry_goes reading before sound) second

  -- where nothing is
  alone : (after : EntityData) → after.nodes ≡ e.nodes → Goes before.home before.nodes after.nodes told (e.nodes ∷ [])
  alone after same = subst (λ (nodes : List ResourceData). Goes before.home before.nodes nodes told (e.nodes ∷ [])) (sym same) (expiry_goes reading before sound)

  module _ (request : RequestParts) where
    abbrev asked : List CopyDraft
    asked = copies_in_items (appended (channel_polled e request) (request_items e request))

    -- what a request appends behind the expiry
    requested_in : copies_in (requested_account e request expired_next) ≡ copies_in account ++ (told ++ asked)
    requested_in =
        by (channel_polled e request)
        ∙ ap (λ (ds : List CopyDraft). ds ++ asked) (expired_in reading before account)
        ∙ append_assoc (copies_in account) told asked
      where
        by : (polled : Option ℕ) → copies_in (option_map_or (λ (c : ℕ). given (waits_for c) expired_next) polled (noted (request_items e request) expired_next)) ≡ copies_in expired_next ++ copies_in_items (appended polled (request_items e request))
        by None = noted_in (request_items e request) expired_next
        by (Some c) = given_in (waits_for c) expired_next ∙ sym (append-nil (copies_in expired_next))

    pub done_goes : (after : EntityData) → after ≡ (effect_of e request).after → Goes before.home before.nodes after.nodes (told ++ asked) (e.nodes ∷ request_trees e request after)
    done_goes after is =
        subst (λ (x : EntityData). Goes before.home before.nodes x.nodes (told ++ asked) (e.nodes ∷ request_trees e request x)) (sym is)
        (behind (effect_of e request).after asked (request_trees e request (effect_of e request).after) (request_leads e request e_sound))

    -- where memory ran out, so many members
    abbrev Cut : List RequestParts → Type 0
    Cut members = Goes e.home e.nodes (after_members e members).nodes (copies_in_items (member_items e members)) (member_trees e members)

    cut_goes : (done : ℕ) → Cut (take done (heard_members e request))
    cut_goes done = by (heard_by e request)
      where
        by : Heard e request (heard_members e request) → Cut (take done (heard_members e request))
        by (no_fan none) = subst (λ (members : List RequestParts). Cut (take done members)) (sym none) (subst Cut (sym (take-nil done)) (goes_nowhere e.home e.nodes))
        by (a_fan fan) =
            let addresses : List (List ℕ) = member_addresses e request fan.place fan.group in
            subst (λ (members : List RequestParts). Cut (take done members)) (sym fan.are)
            (subst Cut (sym (take_requests done addresses request))
            (members_go e.home request (take done addresses) e (short_send e request fan) (record { sound = e_sound; home_is = refl })))

    pub short_goes : (done : ℕ) (after : EntityData) (next : Account) → IsCutShort e request done after → next ≡ short_account reading request before done account → Steps reading (Ask request) before (Starved done) after account next
    short_goes done after next short goes =
        let members : List RequestParts = take done (heard_members e request) in
        let items : List Item = member_items e members in
        record {
          sent = told ++ copies_in_items items;
          trees = e.nodes ∷ member_trees e members;
          run =
              subst (λ (x : EntityData). Goes before.home before.nodes x.nodes (told ++ copies_in_items items) (e.nodes ∷ member_trees e members)) (sym short.left)
              (behind (after_members e members) (copies_in_items items) (member_trees e members) (cut_goes done));
          appends =
              ap copies_in goes ∙ noted_in items expired_next
              ∙ ap (λ (ds : List CopyDraft). ds ++ copies_in_items items) (expired_in reading before account)
              ∙ append_assoc (copies_in account) told (copies_in_items items);
          stands = λ peer stood upon these. inl (short, these);
        }

-- where memory ran out in the expiry, nothing is done
unswept_run : (reading : ℕ) (before after : EntityData) (done : ℕ) → IsUnswept reading before done after → Goes before.home before.nodes after.nodes [] []
unswept_run reading before after done unswept =
    subst (λ (x : EntityData). Goes before.home before.nodes x.nodes [] []) (sym unswept.same) (goes_nowhere before.home before.nodes)

unswept_in : (account next : Account) → next ≡ account → copies_in next ≡ copies_in account ++ []
unswept_in account next same = ap copies_in same ∙ sym (append-nil (copies_in account))

pub step_goes : (reading : ℕ) (event : Event) (before after : EntityData) (outcome : Outcome) (account next : Account) → IsSoundEntity before → Step reading event before outcome after → AccountStep reading event before outcome after account next → Steps reading event before outcome after account next
step_goes reading (Ask request) before after (Done reply) account next sound step goes =
    let e : EntityData = swept reading before in
    record {
      sent = copies_in_items (expiry_items reading before) ++ copies_in_items (appended (channel_polled e request) (request_items e request));
      trees = e.nodes ∷ request_trees e request after;
      run = done_goes reading before account sound request after step.1;
      appends = ap copies_in goes ∙ requested_in reading before account sound request;
      stands = λ peer stood upon these. these;
    }
step_goes reading (Ask request) before after (Forward poa onward) account next sound step goes =
    let e : EntityData = swept reading before in
    record {
      sent = copies_in_items (expiry_items reading before);
      trees = e.nodes ∷ [];
      run = alone reading before account sound after (ap (λ (x : EntityData). x.nodes) (onward_leaves reading request before after poa onward step));
      appends = ap copies_in goes ∙ expired_in reading before account;
      stands = λ peer stood upon these. these;
    }
step_goes reading (Ask request) before after (Starved done) account next sound step goes = elim goes [
  | inl short ↦ short_goes reading before account sound request done after next short.0 short.1
  | inr unswept ↦ record {
    sent = [];
    trees = [];
    run = unswept_run reading before after done unswept.0;
    appends = unswept_in account next unswept.1;
    stands = λ peer stood upon these. inr (unswept.0, these);
  }
]
step_goes reading (Ask request) before after (Given sent) account next sound step goes = absurd step
step_goes reading (Ask request) before after Ticked account next sound step goes = absurd step
step_goes reading Take before after (Done reply) account next sound step goes = absurd step
step_goes reading Take before after (Forward poa onward) account next sound step goes = absurd step
step_goes reading Take before after (Given sent) account next sound step goes =
    let e : EntityData = swept reading before in
    record {
      sent = copies_in_items (expiry_items reading before);
      trees = e.nodes ∷ [];
      run = alone reading before account sound after (ap (λ (x : EntityData). x.nodes) step.1);
      appends = ap copies_in goes ∙ given_in (is_to_send e.nodes) (expired_account reading before account) ∙ expired_in reading before account;
      stands = λ peer stood upon these. these;
    }
step_goes reading Take before after Ticked account next sound step goes = absurd step
step_goes reading Take before after (Starved done) account next sound step goes = record {
  sent = [];
  trees = [];
  run = unswept_run reading before after done step;
  appends = unswept_in account next goes.1;
  stands = λ peer stood upon these. (step, these);
}
step_goes reading Tick before after (Done reply) account next sound step goes = absurd step
step_goes reading Tick before after (Forward poa onward) account next sound step goes = absurd step
step_goes reading Tick before after (Given sent) account next sound step goes = absurd step
step_goes reading Tick before after Ticked account next sound step goes =
    let e : EntityData = swept reading before in
    record {
      sent = copies_in_items (expiry_items reading before);
      trees = e.nodes ∷ [];
      run = alone reading before account sound after (ap (λ (x : EntityData). x.nodes) step);
      appends = ap copies_in goes ∙ expired_in reading before account;
      stands = λ peer stood upon these. these;
    }
step_goes reading Tick before after (Starved done) account next sound step goes = record {
  sent = [];
  trees = [];
  run = unswept_run reading before after done step;
  appends = unswept_in account next goes.1;
  stands = λ peer stood upon these. (step, these);
}
