-- Items that follow one another are those of a sound entity, numbered in order.
use Rattle.std.specs.Prelude.{nat_le, nat_lt}
use Rattle.std.proofs.Common.{◌≡◌, ℕ, ◌<◌, ◌≤◌, List, [], ◌∷◌, ◌++◌, Bool, true, ◌&&◌, refl, sym, ap, ◌∙◌, arith}
use Rattle.std.proofs.lemmas.Bool.{and_parts, and_from, leb-true, le-leb, ltb-true, lt-ltb}
use Rattle.std.specs.List.{list_all}
use Rattle.notify_outbox.specs.declared.item.Item.{Item}
use Rattle.entity_model.specs.Sound.{are_from, do_not_fall, is_waiting}
use Rattle.entity_soundness.specs.Laws.{AreNumbered}
use Rattle.entity_soundness.specs.Tested.{do_follow, follows}

pub record StandsBehind (last most number since : ℕ) (item : Item) : Type 0 where
  pub above : number < item.number
  pub within : item.number ≤ most
  pub later : since ≤ item.since
  pub waits : is_waiting last item ≡ true

pub follow_parts : (last most number since : ℕ) (item : Item) → follows last most number since item ≡ true → StandsBehind last most number since item
follow_parts last most number since item h =
    let three = and_parts (nat_lt number item.number && nat_le item.number most && nat_le since item.since) _ h in
    let two = and_parts (nat_lt number item.number && nat_le item.number most) _ three.0 in
    let one = and_parts (nat_lt number item.number) _ two.0 in
    record { above = ltb-true _ _ one.0; within = leb-true _ _ one.1; later = leb-true _ _ two.1; waits = three.1 }

pub follow_from : (last most number since : ℕ) (item : Item) → StandsBehind last most number since item → follows last most number since item ≡ true
follow_from last most number since item h =
    and_from _ _ (and_from _ _ (and_from _ _ (lt-ltb _ _ h.above) (le-leb _ _ h.within)) (le-leb _ _ h.later)) h.waits

-- the first of those that follow one another do
pub follow_front : (last most number since : ℕ) (xs ys : List Item) → do_follow last most number since (xs ++ ys) ≡ true → do_follow last most number since xs ≡ true
follow_front last most number since [] ys h = refl
follow_front last most number since (x ∷ xs) ys h =
    let parts = and_parts (follows last most number since x) _ h in
    and_from _ _ parts.0 (follow_front last most x.number x.since xs ys parts.1)

pub all_wait : (last most number since : ℕ) (items : List Item) → do_follow last most number since items ≡ true → list_all (is_waiting last) items ≡ true
all_wait last most number since [] h = refl
all_wait last most number since (x ∷ items) h =
    let parts = and_parts (follows last most number since x) _ h in
    and_from _ _ (follow_parts last most number since x parts.0).waits (all_wait last most x.number x.since items parts.1)

pub numbers_ascend : (last most number since : ℕ) (items : List Item) → do_follow last most number since items ≡ true → AreNumbered number most items
numbers_ascend last most number since [] h = tt
numbers_ascend last most number since (x ∷ items) h =
    let parts = and_parts (follows last most number since x) _ h in
    let here = follow_parts last most number since x parts.0 in
    (here.above, here.within, numbers_ascend last most x.number x.since items parts.1)

-- all are from the moment on behind which they follow
from_then : (last most number since early : ℕ) (items : List Item) → early ≤ since → do_follow last most number since items ≡ true → are_from early items ≡ true
from_then last most number since early [] le h = refl
from_then last most number since early (x ∷ items) le h =
    let parts = and_parts (follows last most number since x) _ h in
    let later : since ≤ x.since = (follow_parts last most number since x parts.0).later in
    and_from _ _ (le-leb _ _ (omega (arith, le, later))) (from_then last most x.number x.since early items (omega (arith, le, later)) parts.1)

pub none_falls : (last most number since : ℕ) (items : List Item) → do_follow last most number since items ≡ true → do_not_fall items ≡ true
none_falls last most number since [] h = refl
none_falls last most number since (x ∷ items) h =
    let parts = and_parts (follows last most number since x) _ h in
    and_from _ _ (from_then last most x.number x.since x.since items (omega arith) parts.1) (none_falls last most x.number x.since items parts.1)

pub follow_all : (last most number since : ℕ) (items : List Item) → AreNumbered number most items → are_from since items ≡ true → do_not_fall items ≡ true → list_all (is_waiting last) items ≡ true → do_follow last most number since items ≡ true
follow_all last most number since [] numbered from order waiting = refl
follow_all last most number since (x ∷ items) numbered from order waiting =
    let here = and_parts (nat_le since x.since) _ from in
    let falls = and_parts (are_from x.since items) _ order in
    let waits = and_parts (is_waiting last x) _ waiting in
    and_from _ _
    (follow_from last most number since x (record { above = numbered.0; within = numbered.1; later = leb-true _ _ here.0; waits = waits.0 }))
    (follow_all last most x.number x.since items numbered.2 falls.0 falls.1 waits.1)

-- each is from the first moment on
pub all_from : (items : List Item) → are_from 0 items ≡ true
all_from [] = refl
all_from (x ∷ items) = and_from _ _ (le-leb 0 x.since (omega arith)) (all_from items)
