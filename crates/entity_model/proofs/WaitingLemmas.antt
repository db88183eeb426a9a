-- Items that wait, as time passes.
use Rattle.std.specs.Prelude.{nat_le}
use Rattle.std.proofs.Common.{◌≡◌, ℕ, ◌+◌, ◌<◌, ◌≤◌, List, [], ◌∷◌, ◌++◌, Bool, true, inl, inr, refl, sym, ap, ◌∙◌, arith, append_assoc}
use Rattle.std.proofs.lemmas.Bool.{cases_Bool, and_parts, and_from, leb-true, le-leb, lt-ltb}
use Rattle.std.proofs.lemmas.List.{append-nil}
use Rattle.std.proofs.lemmas.List.Folds.{list_all-append}
use Rattle.std.specs.List.{filter, list_all, AllByRecursion}
use Rattle.m2m_names.proofs.ListLemmas.{all_filtered, all_weaker}
use Rattle.primitive_json.specs.declared.note.NoteParts.{NoteParts}
use Rattle.notify_outbox.specs.Items.{item_under, next_number, still_waits}
use Rattle.notify_outbox.specs.Outbox.{without_first}
use Rattle.notify_outbox.specs.declared.item.Item.{Item}
use Rattle.entity_model.specs.Entity.{items_from, still_waiting}
use Rattle.entity_model.specs.Sound.{is_waiting, are_from, do_not_fall}

-- what waits at a later moment
pub waiting_later : (last moment : ℕ) (items : List Item) → last ≤ moment → list_all (is_waiting last) items ≡ true → list_all (is_waiting moment) (still_waiting moment items) ≡ true
waiting_later last moment [] le all = refl
waiting_later last moment (i ∷ items) le all =
    let parts = and_parts (is_waiting last i) _ all in
    let here = and_parts (nat_le i.since last) _ parts.0 in
    let early : i.since ≤ last = leb-true _ _ here.0 in
    let by : i.since ≤ moment = omega arith in
    elim (cases_Bool (still_waits moment i)) [
      | inl t ↦ rw t (and_from _ _ (and_from _ _ (le-leb _ _ by) t) (waiting_later last moment items le parts.1))
      | inr f ↦ rw f (waiting_later last moment items le parts.1)
    ]

-- the order stays where some go
pub order_filtered : (p : Item → Bool) (items : List Item) → do_not_fall items ≡ true → do_not_fall (filter p items) ≡ true
order_filtered p [] order = refl
order_filtered p (i ∷ items) order =
    let parts = and_parts (are_from i.since items) _ order in
    elim (cases_Bool (p i)) [
      | inl t ↦ rw t (and_from _ _ (all_filtered (λ (j : Item). nat_le i.since j.since) p items parts.0) (order_filtered p items parts.1))
      | inr f ↦ rw f (order_filtered p items parts.1)
    ]

-- where all wait, none is dropped
pub all_waiting : (moment : ℕ) (items : List Item) → list_all (is_waiting moment) items ≡ true → still_waiting moment items ≡ items
all_waiting moment [] all = refl
all_waiting moment (i ∷ items) all =
    let parts = and_parts (is_waiting moment i) _ all in
    let waits : still_waits moment i ≡ true = (and_parts (nat_le i.since moment) _ parts.0).1 in
    rw waits (ap (λ (l : List Item). i ∷ l) (all_waiting moment items parts.1))

-- a test of each, where the first of a kind goes
pub all_without : (p q : Item → Bool) (items : List Item) → list_all q items ≡ true → list_all q (without_first p items) ≡ true
all_without p q [] all = refl
all_without p q (i ∷ items) all =
    let parts = and_parts (q i) _ all in
    elim (cases_Bool (p i)) [
      | inl t ↦ rw t parts.1
      | inr f ↦ rw f (and_from _ _ parts.0 (all_without p q items parts.1))
    ]

pub order_without : (p : Item → Bool) (items : List Item) → do_not_fall items ≡ true → do_not_fall (without_first p items) ≡ true
order_without p [] order = refl
order_without p (i ∷ items) order =
    let parts = and_parts (are_from i.since items) _ order in
    elim (cases_Bool (p i)) [
      | inl t ↦ rw t parts.1
      | inr f ↦ rw f (and_from _ _ (all_without p (λ (j : Item). nat_le i.since j.since) items parts.0) (order_without p items parts.1))
    ]

-- one more, appended at a moment before which each was appended
order_push : (items : List Item) (i : Item) → do_not_fall items ≡ true → list_all (λ (j : Item). nat_le j.since i.since) items ≡ true → do_not_fall (items ++ i ∷ []) ≡ true
order_push [] i order early = refl
order_push (x ∷ items) i order early =
    let parts = and_parts (are_from x.since items) _ order in
    let each = and_parts (nat_le x.since i.since) _ early in
    and_from _ _ (list_all-append (λ (j : Item). nat_le x.since j.since) items (i ∷ []) ∙ and_from _ _ parts.0 (and_from _ _ each.0 refl)) (order_push items i parts.1 each.1)

-- notes that are appended at the last moment
fresh_item : (number last : ℕ) (note : NoteParts) → is_waiting last (item_under number last note) ≡ true
fresh_item number last note =
    let same : last ≤ last = omega arith in
    let kept : last < last + 86400 = omega arith in
    and_from _ _ (le-leb _ _ same) (lt-ltb _ _ kept)

all_fresh : (notes : List NoteParts) (count last : ℕ) → list_all (is_waiting last) (items_from count last notes) ≡ true
all_fresh [] count last = refl
all_fresh (note ∷ notes) count last = and_from _ _ (fresh_item (next_number count) last note) (all_fresh notes (next_number count) last)

pub waiting_noted : (notes : List NoteParts) (count last : ℕ) (items : List Item) → list_all (is_waiting last) items ≡ true → list_all (is_waiting last) (items ++ items_from count last notes) ≡ true
waiting_noted notes count last items all =
    list_all-append (is_waiting last) items (items_from count last notes) ∙ and_from _ _ all (all_fresh notes count last)

by_last : (last : ℕ) (items : List Item) → list_all (is_waiting last) items ≡ true → list_all (λ (j : Item). nat_le j.since last) items ≡ true
by_last last items all = all_weaker (is_waiting last) (λ (j : Item). nat_le j.since last) (λ j held. (and_parts (nat_le j.since last) _ held).0) items all

order_from : (notes : List NoteParts) (count last : ℕ) (items : List Item) → do_not_fall items ≡ true → list_all (λ (j : Item). nat_le j.since last) items ≡ true → do_not_fall (items ++ items_from count last notes) ≡ true
order_from [] count last items order early = ap do_not_fall (append-nil items) ∙ order
order_from (note ∷ notes) count last items order early =
    let i : Item = item_under (next_number count) last note in
    let same : last ≤ last = omega arith in
    ap do_not_fall (sym (append_assoc items (i ∷ []) (items_from (next_number count) last notes)))
    ∙ order_from notes (next_number count) last (items ++ i ∷ []) (order_push items i order early)
    (list_all-append (λ (j : Item). nat_le j.since last) items (i ∷ []) ∙ and_from _ _ early (and_from _ _ (le-leb _ _ same) refl))

pub order_noted : (notes : List NoteParts) (count last : ℕ) (items : List Item) → do_not_fall items ≡ true → list_all (is_waiting last) items ≡ true → do_not_fall (items ++ items_from count last notes) ≡ true
order_noted notes count last items order waiting = order_from notes count last items order (by_last last items waiting)

-- ---- as a fact of each

pub waiting_each : (last : ℕ) (items : List Item) → list_all (is_waiting last) items ≡ true → AllByRecursion (λ (i : Item). i.since ≤ last) items
waiting_each last [] all = tt
waiting_each last (i ∷ items) all =
    let parts = and_parts (is_waiting last i) _ all in
    (leb-true _ _ (and_parts (nat_le i.since last) _ parts.0).0, waiting_each last items parts.1)
