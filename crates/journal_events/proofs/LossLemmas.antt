-- An item stays in the outbox until it was sent.
use Rattle.std.proofs.Common.{◌≡◌, ◌⊎◌, inl, inr, ⊎_elim, ℕ, zero, suc, Bool, true, false, List, [], ◌∷◌, ◌++◌, filter, refl, sym, ◌∙◌, ap, subst, arith}
use Rattle.std.specs.Prelude.{◌==◌, Contains, IsTrue, Option, Some, None, find}
use Rattle.std.specs.Option.{option_map_or}
use Rattle.std.proofs.lemmas.Bool.{cases_Bool, true≢false}
use Rattle.std.proofs.lemmas.Option.{none-some}
use Rattle.notify_outbox.specs.Items.{is_to_send, still_waits}
use Rattle.notify_outbox.specs.Outbox.{without_first}
use Rattle.notify_outbox.specs.declared.item.Item.{Item}
use Rattle.entity_model.specs.Entity.{EntityData, event_moment, swept}
use Rattle.cse_machine.specs.Step.{Step}
use Rattle.cse_machine.specs.declared.event.Event.TheVariants.{Tick}
use Rattle.cse_machine.specs.declared.event.Outcome.{Outcome}
use Rattle.cse_machine.specs.declared.event.Outcome.TheVariants as gives
use Rattle.journal_events.specs.Losses.{AnItemStaysUntilItWasSent, IsOfSender, WhatIsToldStays}
use Rattle.journal_events.specs.Steps.{KeptEntityStep, OnlyExpires, is_next, next_item, without_sent}
use Rattle.journal_events.specs.declared.event.KeptEvent.{KeptEvent}
use Rattle.journal_events.specs.declared.event.KeptEvent.TheVariants as events
use Rattle.journal_events.specs.declared.event.KeptOutcome.{KeptOutcome}
use Rattle.journal_events.specs.declared.event.KeptOutcome.TheVariants as outcomes

-- ---- elements

contains_first : {X : Type 0} (x : X) (xs : List X) → Contains (x ∷ xs) x
contains_first x xs = (0, omega arith, refl)

contains_behind : {X : Type 0} (y : X) (xs : List X) (x : X) → Contains xs x → Contains (y ∷ xs) x
contains_behind y xs x (k, within, is) = (suc k, omega (arith, within), is)

contains_one_of : {X : Type 0} (y : X) (xs : List X) (x : X) → Contains (y ∷ xs) x → (y ≡ x) ⊎ Contains xs x
contains_one_of y xs x (zero, within, is) = inl is
contains_one_of y xs x (suc k, within, is) = inr (k, omega (arith, within), is)

contains_none : {X : Type 0} (x : X) → Contains [] x → ⊥
contains_none x (k, within, is) = omega (arith, within)

-- the first of these, or one behind it
first_or_behind : {X : Type 0} (y : X) (xs zs : List X) (x : X) → (Contains xs x → Contains zs x) → Contains (y ∷ xs) x → Contains (y ∷ zs) x
first_or_behind y xs zs x on has =
    ⊎_elim (λ same. subst (λ z. Contains (y ∷ zs) z) same (contains_first y zs)) (λ behind. contains_behind y zs x (on behind)) (contains_one_of y xs x has)

pub contains_ahead : {X : Type 0} (xs ys : List X) (x : X) → Contains xs x → Contains (xs ++ ys) x
contains_ahead [] ys x has = absurd (contains_none x has)
contains_ahead (y ∷ xs) ys x has = first_or_behind y xs (xs ++ ys) x (contains_ahead xs ys x) has

contains_filtered : {X : Type 0} (p : X → Bool) (xs : List X) (x : X) → p x ≡ true → Contains xs x → Contains (filter p xs) x
contains_filtered p [] x passes has = absurd (contains_none x has)
contains_filtered p (y ∷ xs) x passes has = elim (cases_Bool (p y)) [
  | inl t ↦ rw t (first_or_behind y xs (filter p xs) x (contains_filtered p xs x passes) has)
  | inr f ↦ rw f (⊎_elim (λ same. absurd (true≢false (sym passes ∙ ap p (sym same) ∙ f))) (contains_filtered p xs x passes) (contains_one_of y xs x has))
]

-- ---- the first item of a kind

abbrev StaysOrIsFirst : (Item → Bool) → List Item → Item → Type 0
StaysOrIsFirst p items item = Contains (without_first p items) item ⊎ (find p items ≡ Some item)

pub stays_or_is_first : (p : Item → Bool) (items : List Item) (item : Item) → Contains items item → StaysOrIsFirst p items item
stays_or_is_first p [] item has = absurd (contains_none item has)
stays_or_is_first p (first ∷ items) item has = elim (cases_Bool (p first)) [
  | inl t ↦ rw t (⊎_elim (λ same. inr (ap (λ (i : Item). Some i) same)) (λ behind. inl behind) (contains_one_of first items item has))
  | inr f ↦ rw f (⊎_elim (λ same. inl (subst (λ i. Contains (first ∷ without_first p items) i) same (contains_first first (without_first p items))))
      (λ behind. ⊎_elim (λ stays. inl (contains_behind first (without_first p items) item stays)) (λ is. inr is) (stays_or_is_first p items item behind))
      (contains_one_of first items item has))
]

found_there : (p : Item → Bool) (items : List Item) (item : Item) → find p items ≡ Some item → Contains items item
found_there p [] item found = absurd (none-some item found)
found_there p (first ∷ items) item found = elim (cases_Bool (p first)) [
  | inl t ↦ let is : find p (first ∷ items) ≡ Some first = rw t refl in
      subst (λ i. Contains (first ∷ items) i) (same_item first item (sym is ∙ found)) (contains_first first items)
  | inr f ↦ let is : find p (first ∷ items) ≡ find p items = rw f refl in
      contains_behind first items item (found_there p items item (sym is ∙ found))
]
  where
    same_item : (a b : Item) → Some a ≡ Some b → a ≡ b
    same_item a b is = ap (λ (o : Option Item). option_map_or (λ i. i) o a) is

same_number : (a b : ℕ) → (a == b) ≡ true → b ≡ a
same_number a b is = grind (arith, is)

pub stays_unless_sent : (number : ℕ) (e : EntityData) (item : Item) → Contains e.items item → Contains (without_sent number e).items item ⊎ (number ≡ item.number)
stays_unless_sent number e item has = elim (cases_Bool (is_next number e)) [
  | inl t ↦ ⊎_elim (λ stays. inl (rw t stays))
      (λ first.
      let is : is_next number e ≡ (item.number == number) = ap (λ (o : Option Item). option_map_or (λ (i : Item). i.number == number) o false) first in
      inr (same_number item.number number (sym is ∙ t)))
      (stays_or_is_first (is_to_send e.nodes) e.items item has)
  | inr f ↦ inl (rw f has)
]

-- what still waits is there behind an expiry
waits_on : (moment : ℕ) (items told : List Item) (item : Item) → Contains items item → IsTrue (still_waits moment item)
    → Contains (filter (still_waits moment) items ++ told) item
waits_on moment items told item has waits =
    contains_ahead (filter (still_waits moment) items) told item (contains_filtered (still_waits moment) items item waits has)

-- ---- the passing of time

-- it leaves what isn't due; or all, where memory ran out for it
pub ticked : (reading : ℕ) (outcome : Outcome) (before after : EntityData) → Step reading Tick before outcome after
    → (after ≡ swept reading before) ⊎ (after ≡ before)
ticked reading (gives.Done reply) before after step = absurd step
ticked reading (gives.Forward poa onward) before after step = absurd step
ticked reading (gives.Item given) before after step = absurd step
ticked reading gives.Ticked before after step = inl step
ticked reading (gives.Starved done) before after step = inr step.same

module _ (reading : ℕ) (before : EntityData) (item : Item) (has : Contains before.items item)
    (waits : IsTrue (still_waits (event_moment before.last reading) item)) where
  pub waits_still : Contains (swept reading before).items item
  waits_still = waits_on (event_moment before.last reading) before.items _ item has waits

  pub waits_swept : (after : EntityData) → after ≡ swept reading before → Contains after.items item
  waits_swept after is = subst (λ (e : EntityData). Contains e.items item) (sym is) waits_still

  pub waits_expired : (came : Outcome) (after : EntityData) → OnlyExpires reading before came after → Contains after.items item
  waits_expired came after only =
      ⊎_elim (λ left. waits_swept after left) (λ same. subst (λ (e : EntityData). Contains e.items item) (sym same) has)
      (ticked reading only.ticked before after only.expires)

  stays : (event : KeptEvent) (outcome : KeptOutcome) (after : EntityData) → IsOfSender event → KeptEntityStep reading event before outcome after
      → Contains after.items item ⊎ (event ≡ events.Sent item.number)
  stays (events.OfMachine asked) outcome after other step = absurd other
  stays events.Next (outcomes.OfMachine came) after own step = inl (waits_expired came after step)
  stays events.Next (outcomes.Next given) after own step = inl (waits_swept after step.0)
  stays events.Next outcomes.Taken after own step = absurd step
  stays (events.Sent number) (outcomes.OfMachine came) after own step = inl (waits_expired came after step)
  stays (events.Sent number) (outcomes.Next given) after own step = absurd step
  stays (events.Sent number) outcomes.Taken after own step =
      ⊎_elim (λ there. inl (subst (λ (e : EntityData). Contains e.items item) (sym step) there)) (λ sent. inr (ap (λ n. events.Sent n) sent))
      (stays_unless_sent number (swept reading before) item waits_still)

pub item_stays : AnItemStaysUntilItWasSent
item_stays = λ reading event outcome before after item own step has waits. stays reading before item has waits event outcome after own step

pub told_stays : WhatIsToldStays
told_stays = λ reading before after item step. found_there (is_to_send after.nodes) after.items item (sym step.1)
