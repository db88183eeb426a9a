-- Entities of which an originator sees the same, one step after another.
use Rattle.machine_laws.proofs.Words.{◌≡◌, ℕ, List, [], ◌∷◌, Bool, true, false, ◌&&◌, refl, sym, ap, subst, ◌∙◌, All, list_all, list_any}
use Rattle.machine_laws.proofs.Terms.{readings_of, events_of, outcomes_of, RequestParts, HomeData, EntityData, EventEffect, swept, IsSoundEntity, Event, Ask, Take, Tick, Outcome, Done, Forward, Item, Ticked, Starved, ComesOf, effect_of, History, HistoryLeaves, IsDone, Step, address_of, named_here, spot_of, Addr, Local, Foreign, OtherProvider, AddrFault, Spot, Resource, Fan, Poll, Op, ResourceData}
use Rattle.machine_laws.proofs.Facts.{and_parts, both_ways, or_parts, All-head, All-tail}
use Rattle.std.specs.Prelude.{Option, Some, None, Result, Ok, Err}
use Rattle.machine_laws.specs.Sight.{EqualSightsAnswerAlike, EqualSightsKeepOneShape, EqualSightsStayAlike, EqualSightsStayEqual, HaveAnswersOf, IsBy, IsRequestBy, NonePolls, WithoutTheSegmentNonePolls, are_calm_but_last, does_event_poll, does_poll, is_calm, is_calm_event, is_poll, is_poll_point, is_polling_event, names_poll, polls_at, shape, sight}
use Rattle.guard_laws.proofs.HistoryLemmas.{none_some, same_first, same_rest, sound_step}
use Rattle.cse_machine.proofs.SameLemmas.{same_entity}
use Rattle.machine_laws.proofs.PollSightLemmas.{poll_named}
use Rattle.machine_laws.proofs.ShapeLemmas.{one_shape}
use Rattle.machine_laws.proofs.SightLemmas.{IsHeardAlike, heard-alike, heard_so, judges_anew, passed-alike}

-- what steps of both leave
pub record AreStillAlike (o : List ℕ) (one after left : EntityData) (poll calm : Bool) (mine theirs : Outcome) : Type 0 where
  pub outcome : poll ≡ false → mine ≡ theirs
  pub seen : calm ≡ true → sight o after ≡ sight o left
  pub shaped : shape o after ≡ shape o left
  pub sound : IsSoundEntity after
  pub sounds : IsSoundEntity left
  pub home : one.home ≡ after.home

module _ (o : List ℕ) (one other : EntityData) (sound : IsSoundEntity one) (sounds : IsSoundEntity other) (same : sight o one ≡ sight o other) where
  -- an answered request of both
  asked_alike : (reading : ℕ) (request : RequestParts) (after left : EntityData) (outcome twin : Outcome) → IsRequestBy one.home o request → ComesOf (swept reading one) request outcome after → ComesOf (swept reading other) request twin left → Step reading (Ask request) one outcome after → Step reading (Ask request) other twin left → AreStillAlike o one after left (is_poll (swept reading one) request) (is_calm request) outcome twin
  asked_alike reading request after left outcome twin by first second step steps =
      by_heard (heard-alike one other o reading sound sounds same request by)
    where
      well : IsSoundEntity after
      well = sound_step reading (Ask request) one after outcome sound step

      wells : IsSoundEntity left
      wells = sound_step reading (Ask request) other left twin sounds steps

      kept : one.home ≡ after.home
      kept = sym (same_entity reading (Ask request) outcome one after step).home

      by_heard : IsHeardAlike o request (is_poll (swept reading one) request) (effect_of (swept reading one) request) (effect_of (swept reading other) request) → AreStillAlike o one after left (is_poll (swept reading one) request) (is_calm request) outcome twin
      by_heard (heard_so so) =
          let seen : sight o after ≡ sight o left = ap (sight o) first.1 ∙ so.after ∙ sym (ap (sight o) second.1) in
          record {
            outcome = λ unpolled. first.0 ∙ so.outcome unpolled ∙ sym second.0;
            seen = λ calm. seen;
            shaped = one_shape after left o well wells seen;
            sound = well;
            sounds = wells;
            home = kept;
          }
      by_heard (judges_anew anew so) = record {
        outcome = λ unpolled. first.0 ∙ so.outcome unpolled ∙ sym second.0;
        seen = λ calm. absurd (both_ways _ anew calm);
        shaped = ap (shape o) first.1 ∙ so.after ∙ sym (ap (shape o) second.1);
        sound = well;
        sounds = wells;
        home = kept;
      }

  abbrev Still : ℕ → Event → EntityData → EntityData → Outcome → Outcome → Type 0
  Still reading event after left outcome twin = AreStillAlike o one after left (does_event_poll (swept reading one) event) (is_calm_event event) outcome twin

  -- a step of both
  pub step_alike : (reading : ℕ) (event : Event) (after left : EntityData) (outcome twin : Outcome) → IsBy one.home o event → Step reading event one outcome after → Step reading event other twin left → IsDone outcome → IsDone twin → AreStillAlike o one after left (does_event_poll (swept reading one) event) (is_calm_event event) outcome twin
  step_alike reading (Ask request) after left (Done reply) (Done again) by first second done dones = asked_alike reading request after left (Done reply) (Done again) by first second first second
  step_alike reading (Ask request) after left (Done reply) (Forward way further) by first second done dones = asked_alike reading request after left (Done reply) (Forward way further) by first second first second
  step_alike reading (Ask request) after left (Done reply) (Item noted) by first second done dones = absurd second
  step_alike reading (Ask request) after left (Done reply) Ticked by first second done dones = absurd second
  step_alike reading (Ask request) after left (Done reply) (Starved few) by first second done dones = absurd dones
  step_alike reading (Ask request) after left (Forward poa onward) (Done again) by first second done dones = asked_alike reading request after left (Forward poa onward) (Done again) by first second first second
  step_alike reading (Ask request) after left (Forward poa onward) (Forward way further) by first second done dones = asked_alike reading request after left (Forward poa onward) (Forward way further) by first second first second
  step_alike reading (Ask request) after left (Forward poa onward) (Item noted) by first second done dones = absurd second
  step_alike reading (Ask request) after left (Forward poa onward) Ticked by first second done dones = absurd second
  step_alike reading (Ask request) after left (Forward poa onward) (Starved few) by first second done dones = absurd dones
  step_alike reading (Ask request) after left (Item given) twin by first second done dones = absurd first
  step_alike reading (Ask request) after left Ticked twin by first second done dones = absurd first
  step_alike reading (Ask request) after left (Starved some) twin by first second done dones = absurd done
  step_alike reading Take after left outcome twin by first second done dones = absurd by
  step_alike reading Tick after left (Done reply) twin by first second done dones = absurd first
  step_alike reading Tick after left (Forward poa onward) twin by first second done dones = absurd first
  step_alike reading Tick after left (Item given) twin by first second done dones = absurd first
  step_alike reading Tick after left Ticked (Done again) by first second done dones = absurd second
  step_alike reading Tick after left Ticked (Forward way further) by first second done dones = absurd second
  step_alike reading Tick after left Ticked (Item noted) by first second done dones = absurd second
  step_alike reading Tick after left Ticked Ticked by first second done dones =
      let seen : sight o after ≡ sight o left = ap (sight o) first ∙ passed-alike one other o reading sound sounds same ∙ sym (ap (sight o) second) in
      let well = sound_step reading Tick one after Ticked sound first in
      let wells = sound_step reading Tick other left Ticked sounds second in
      record {
        outcome = λ unpolled. refl;
        seen = λ calm. seen;
        shaped = one_shape after left o well wells seen;
        sound = well;
        sounds = wells;
        home = sym (same_entity reading Tick Ticked one after first).home;
      }
  step_alike reading Tick after left Ticked (Starved few) by first second done dones = absurd dones
  step_alike reading Tick after left (Starved some) twin by first second done dones = absurd done

-- ---- one step alone

pub steps_alike : EqualSightsAnswerAlike
steps_alike left right after other o reading request outcome twin sound sounds same by unpolled first second done dones =
    (step_alike o left right sound sounds same reading (Ask request) after other outcome twin by first second done dones).outcome unpolled

pub steps_stay : EqualSightsStayEqual
steps_stay left right after other o reading request outcome twin sound sounds same by calm first second done dones =
    (step_alike o left right sound sounds same reading (Ask request) after other outcome twin by first second done dones).seen calm

pub steps_shaped : EqualSightsKeepOneShape
steps_shaped left right after other o reading request outcome twin sound sounds same by first second done dones =
    (step_alike o left right sound sounds same reading (Ask request) after other outcome twin by first second done dones).shaped

-- ---- one after another

-- what is known of two histories
pub record StayedAlike (o : List ℕ) (left after other : EntityData) (history twin : History) (leaves : HistoryLeaves left history after) : Type 0 where
  pub answers : HaveAnswersOf left history after leaves twin
  pub seen : list_all is_calm_event (events_of history) ≡ true → sight o after ≡ sight o other
  pub shaped : shape o after ≡ shape o other

-- where more comes behind an event, it is calm
calm_first : (event next : Event) (events : List Event) → are_calm_but_last (event ∷ next ∷ events) ≡ true → (is_calm_event event ≡ true) × (are_calm_but_last (next ∷ events) ≡ true)
calm_first event next events calm = and_parts (is_calm_event event) (are_calm_but_last (next ∷ events)) calm

-- the entry in front, and those behind it
pub stayed_alike : (history twin : History) (o : List ℕ) (left right after other : EntityData) → IsSoundEntity left → IsSoundEntity right → sight o left ≡ sight o right → (leaves : HistoryLeaves left history after) → HistoryLeaves right twin other
    → readings_of history ≡ readings_of twin → events_of history ≡ events_of twin → All (IsBy left.home o) (events_of history) → are_calm_but_last (events_of history) ≡ true
    → All IsDone (outcomes_of history) → All IsDone (outcomes_of twin) → StayedAlike o left after other history twin leaves
stayed_alike [] [] o left right after other sound sounds same first second readings events by calm done dones =
    let seen : sight o after ≡ sight o other = ap (sight o) first ∙ same ∙ sym (ap (sight o) second) in
    record {
      answers = tt;
      seen = λ all. seen;
      shaped = ap (shape o) first ∙ one_shape left right o sound sounds same ∙ sym (ap (shape o) second);
    }
stayed_alike [] (t ∷ twin) o left right after other sound sounds same first second readings events by calm done dones = absurd (none_some t.reading (readings_of twin) readings)
stayed_alike (h ∷ history) [] o left right after other sound sounds same first second readings events by calm done dones = absurd (none_some h.reading (readings_of history) (sym readings))
stayed_alike (h ∷ []) (t ∷ []) o left right after other sound sounds same first second readings events by calm done dones =
    let step =
    step_alike o left right sound sounds same h.reading h.event first.0 second.0 h.outcome t.outcome (All-head (IsBy left.home o) h.event [] by) first.1
    (subst (λ (n : ℕ). Step n h.event right t.outcome second.0) (sym (same_first h.reading t.reading [] [] readings))
    (subst (λ (v : Event). Step t.reading v right t.outcome second.0) (sym (same_first h.event t.event [] [] events)) second.1))
    (All-head IsDone h.outcome [] done) (All-head IsDone t.outcome [] dones) in
    record {
      answers = (step.outcome, tt);
      seen = λ all. ap (sight o) first.2 ∙ step.seen (and_parts (is_calm_event h.event) true all).0 ∙ sym (ap (sight o) second.2);
      shaped = ap (shape o) first.2 ∙ step.shaped ∙ sym (ap (shape o) second.2);
    }
stayed_alike (h ∷ []) (t ∷ u ∷ twin) o left right after other sound sounds same first second readings events by calm done dones =
    absurd (none_some u.reading (readings_of twin) (same_rest h.reading t.reading [] (readings_of (u ∷ twin)) readings))
stayed_alike (h ∷ i ∷ history) (t ∷ twin) o left right after other sound sounds same first second readings events by calm done dones =
    let step =
    step_alike o left right sound sounds same h.reading h.event first.0 second.0 h.outcome t.outcome (All-head (IsBy left.home o) h.event (events_of (i ∷ history)) by) first.1
    (subst (λ (n : ℕ). Step n h.event right t.outcome second.0) (sym (same_first h.reading t.reading (readings_of (i ∷ history)) (readings_of twin) readings))
    (subst (λ (v : Event). Step t.reading v right t.outcome second.0) (sym (same_first h.event t.event (events_of (i ∷ history)) (events_of twin) events)) second.1))
    (All-head IsDone h.outcome (outcomes_of (i ∷ history)) done) (All-head IsDone t.outcome (outcomes_of twin) dones) in
    let calms = calm_first h.event i.event (events_of history) calm in
    let rest =
    stayed_alike (i ∷ history) twin o first.0 second.0 after other step.sound step.sounds (step.seen calms.0) first.2 second.2
    (same_rest h.reading t.reading (readings_of (i ∷ history)) (readings_of twin) readings)
    (same_rest h.event t.event (events_of (i ∷ history)) (events_of twin) events)
    (subst (λ (home : HomeData). All (IsBy home o) (events_of (i ∷ history))) step.home (All-tail (IsBy left.home o) h.event (events_of (i ∷ history)) by))
    calms.1
    (All-tail IsDone h.outcome (outcomes_of (i ∷ history)) done) (All-tail IsDone t.outcome (outcomes_of twin) dones) in
    record {
      answers = (step.outcome, rest.answers);
      seen = λ all. rest.seen (and_parts (is_calm_event h.event) (list_all is_calm_event (events_of (i ∷ history))) all).1;
      shaped = rest.shaped;
    }

pub stay_alike : EqualSightsStayAlike
stay_alike left right after other o history twin sound sounds same leaves others readings events by calm done dones =
    let stayed = stayed_alike history twin o left right after other sound sounds same leaves others readings events by calm done dones in
    (stayed.answers, stayed.seen, stayed.shaped)

-- ---- where no address has the segment of a poll point

point_named : (segments : List (List ℕ)) (nodes : List ResourceData) (spot : Option Spot) → spot_of segments nodes ≡ spot → is_poll_point spot ≡ true → names_poll (Ok (Local segments)) ≡ true
point_named segments nodes None is point = absurd (both_ways _ refl point)
point_named segments nodes (Some (Resource n)) is point = absurd (both_ways _ refl point)
point_named segments nodes (Some (Fan group place)) is point = absurd (both_ways _ refl point)
point_named segments nodes (Some (Poll channel)) is point = poll_named segments nodes channel is

-- it is no poll
no_poll_at : (op : Op) (nodes : List ResourceData) (a : Result Addr AddrFault) → (does_poll op && names_poll a) ≡ false → polls_at op (named_here a nodes) ≡ false
no_poll_at op nodes a none = by (does_poll op) (is_poll_point (named_here a nodes)) refl none
  where
    named : (b : Result Addr AddrFault) → is_poll_point (named_here b nodes) ≡ true → names_poll b ≡ true
    named (Ok (Local segments)) point = point_named segments nodes (spot_of segments nodes) refl point
    named (Ok (Foreign text)) point = absurd (both_ways _ refl point)
    named (Ok OtherProvider) point = absurd (both_ways _ refl point)
    named (Err fault) point = absurd (both_ways _ refl point)

    by : (polls point : Bool) → is_poll_point (named_here a nodes) ≡ point → (polls && names_poll a) ≡ false → (polls && point) ≡ false
    by false point is none = refl
    by true false is none = refl
    by true true is none = absurd (both_ways _ none (named a is))

unpolled : (reading : ℕ) (e : EntityData) (event : Event) → is_polling_event e.home event ≡ false → does_event_poll (swept reading e) event ≡ false
unpolled reading e (Ask request) none = no_poll_at request.op (swept reading e).nodes (address_of e.home request.to) none
unpolled reading e Take none = refl
unpolled reading e Tick none = refl

-- so none of a history does
none_in : (history : History) (left after : EntityData) (leaves : HistoryLeaves left history after) → list_any (is_polling_event left.home) (events_of history) ≡ false → NonePolls left history after leaves
none_in [] left after leaves none = tt
none_in (h ∷ history) left after leaves none =
    let parts = or_parts (is_polling_event left.home h.event) (list_any (is_polling_event left.home) (events_of history)) none in
    let home = (same_entity h.reading h.event h.outcome left leaves.0 leaves.1).home in (
      unpolled h.reading left h.event parts.0,
      none_in history leaves.0 after leaves.2 (ap (λ (x : HomeData). list_any (is_polling_event x) (events_of history)) home ∙ parts.1),
    )

pub none_polls : WithoutTheSegmentNonePolls
none_polls e after history leaves none = none_in history e after leaves none

-- ---- where none polls

-- all outcomes are the same
pub same_outcomes : (history twin : History) (left after : EntityData) (leaves : HistoryLeaves left history after) → readings_of history ≡ readings_of twin → NonePolls left history after leaves → HaveAnswersOf left history after leaves twin → outcomes_of history ≡ outcomes_of twin
same_outcomes [] [] left after leaves readings none answers = refl
same_outcomes [] (t ∷ twin) left after leaves readings none answers = absurd (none_some t.reading (readings_of twin) readings)
same_outcomes (h ∷ history) [] left after leaves readings none answers = absurd (none_some h.reading (readings_of history) (sym readings))
same_outcomes (h ∷ history) (t ∷ twin) left after leaves readings none answers =
    let rest = same_outcomes history twin leaves.0 after leaves.2 (same_rest h.reading t.reading (readings_of history) (readings_of twin) readings) none.1 answers.1 in
    ap (λ (out : Outcome). out ∷ outcomes_of history) (answers.0 none.0) ∙ ap (λ (os : List Outcome). t.outcome ∷ os) rest
