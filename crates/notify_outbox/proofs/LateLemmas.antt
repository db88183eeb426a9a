-- Items that have the last number too, behind all queues.
use Rattle.std.specs.Prelude.{slice_get}
use Rattle.std.proofs.Common.{◌≡◌, ℕ, zero, suc, ◌+◌, ◌-◌, ◌<◌, ◌≤◌, min, map, List, [], ◌∷◌, ◌++◌, length, take, drop, Bool, true, false, Bor, Option, Some, None, IsSome, ◌↔◌, option_map, inl, inr, refl, sym, ap, ◌∙◌, subst, arith, length-append}
use Rattle.std.proofs.lemmas.Bool.{cases_Bool, false≢true, ltb-true, lt-ltb}
use Rattle.std.proofs.lemmas.List.Elements.{filter-append}
use Rattle.std.proofs.lemmas.List.Folds.{find-append, find_at}
use Rattle.std.proofs.Math.Numerals.{suc-eq-add-one}
use Rattle.std.specs.List.{filter, find, position_or_len}
use Rattle.std.specs.Option.{option_or, option_to_list}
use Rattle.m2m_value.specs.Shapes.{largest_count}
use Rattle.primitive_json.specs.declared.note.NoteParts.{NoteParts}
use Rattle.notify_outbox.specs.Items.{is_item, item_under, keeping_time, next_number, still_waits}
use Rattle.notify_outbox.specs.Outbox.{OutboxData, appended, without_first}
use Rattle.notify_outbox.specs.Queues.{AreLate, DoFollow, fresh, freshened, in_order, is_fresh, joined}
use Rattle.notify_outbox.specs.declared.item.Item.{Item}
use Rattle.notify_outbox.specs.declared.queues.Queue.{Queue}
use Rattle.notify_outbox.proofs.DropLemmas.{all_young, dropped_is, filter_same, fresh_kept}
use Rattle.notify_outbox.proofs.OrderLemmas.{Each, each_append, each_parts, each_weaker, length_in_order}
use Rattle.notify_outbox.proofs.QueueLemmas.{AreQueues}

-- ---- the first of a kind

module _ (p : Item → Bool) where
  without_is : (xs : List Item) (k : ℕ) → k ≡ position_or_len p xs → take k xs ++ drop (suc k) xs ≡ without_first p xs
  without_is [] zero at = refl
  without_is [] (suc k) at = absurd (omega (arith, at))
  without_is (x ∷ xs) zero at = elim (cases_Bool (p x)) [
    | inl t ↦ rw t refl
    | inr f ↦ let never : 0 ≡ 1 + position_or_len p xs = rw f at at in absurd (omega (arith, never))
  ]
  without_is (x ∷ xs) (suc k) at = elim (cases_Bool (p x)) [
    | inl t ↦ let never : suc k ≡ 0 = rw t at at in absurd (omega (arith, never))
    | inr f ↦
        let next : suc k ≡ 1 + position_or_len p xs = rw f at at in
        let here : k ≡ position_or_len p xs = omega (arith, next) in
        rw f (ap (λ (l : List Item). x ∷ l) (without_is xs k here))
  ]

  -- it stands at its place
  pub item_at : (xs : List Item) (k : ℕ) (item : Option Item) → k ≡ position_or_len p xs → item ≡ slice_get xs k → item ≡ find p xs
  item_at xs k item at is = is ∙ ap (slice_get xs) at ∙ sym (find_at p xs)

  -- and the others stand round it
  pub rest_at : (xs rest : List Item) (k : ℕ) → k ≡ position_or_len p xs → rest ≡ take k xs ++ drop (k + 1) xs → rest ≡ without_first p xs
  rest_at xs rest k at is =
      is ∙ ap (λ (n : ℕ). take n xs ++ drop (n + 1) xs) at
      ∙ ap (λ (n : ℕ). take (position_or_len p xs) xs ++ drop n xs) (sym (suc-eq-add-one (position_or_len p xs)))
      ∙ without_is xs (position_or_len p xs) refl

  without_found : (xs ys : List Item) (x : Item) → find p xs ≡ Some x → without_first p (xs ++ ys) ≡ without_first p xs ++ ys
  without_found [] ys x e = absurd (false≢true (ap is_there e))
    where
      is_there : Option Item → Bool
      is_there None = false
      is_there (Some i) = true
  without_found (z ∷ xs) ys x e = elim (cases_Bool (p z)) [
    | inl t ↦ rw t refl
    | inr f ↦ rw f (ap (λ (l : List Item). z ∷ l) (without_found xs ys x (rw f at e)))
  ]

  without_missed : (xs ys : List Item) → find p xs ≡ None → without_first p (xs ++ ys) ≡ xs ++ without_first p ys
  without_missed [] ys e = refl
  without_missed (z ∷ xs) ys e = elim (cases_Bool (p z)) [
    | inl t ↦ let e' : Some z ≡ None = rw t at e in cc
    | inr f ↦ rw f (ap (λ (l : List Item). z ∷ l) (without_missed xs ys (rw f at e)))
  ]

  -- what is found in front is found in all
  pub took_here : (xs ys rest : List Item) (x : Item) → (find p xs ≡ Some x) × (without_first p xs ≡ rest) → (find p (xs ++ ys) ≡ Some x) × (without_first p (xs ++ ys) ≡ rest ++ ys)
  took_here xs ys rest x h = (
    find-append p xs ys ∙ ap (λ (o : Option Item). option_or o (find p ys)) h.0,
    without_found xs ys x h.0 ∙ ap (λ (l : List Item). l ++ ys) h.1,
  )

  pub found_here : (xs ys : List Item) (x : Item) → find p xs ≡ Some x → find p (xs ++ ys) ≡ Some x
  found_here xs ys x h = find-append p xs ys ∙ ap (λ (o : Option Item). option_or o (find p ys)) h

  -- and else what is found behind
  pub took_there : (xs ys : List Item) → find p xs ≡ None → (find p (xs ++ ys) ≡ find p ys) × (without_first p (xs ++ ys) ≡ xs ++ without_first p ys)
  took_there xs ys none = (
    find-append p xs ys ∙ ap (λ (o : Option Item). option_or o (find p ys)) none,
    without_missed xs ys none,
  )

  each_without : (P : Item → Type 0) (xs : List Item) → Each P xs → Each P (without_first p xs)
  each_without P [] h = tt
  each_without P (x ∷ xs) h = elim (cases_Bool (p x)) [
    | inl t ↦ rw t h.1
    | inr f ↦ rw f (h.0, each_without P xs h.1)
  ]

  follow_without : (xs : List Item) → DoFollow xs → DoFollow (without_first p xs)
  follow_without [] h = tt
  follow_without (x ∷ xs) h = elim (cases_Bool (p x)) [
    | inl t ↦ rw t h.1
    | inr f ↦ rw f (each_without (λ (y : Item). x.since ≤ y.since) xs h.0, follow_without xs h.1)
  ]

  pub fewer_without : (xs : List Item) → length (without_first p xs) ≤ length xs
  fewer_without [] = omega arith
  fewer_without (x ∷ xs) =
      let rest = fewer_without xs in
      elim (cases_Bool (p x)) [
        | inl t ↦ rw t (omega arith)
        | inr f ↦ rw f (omega (arith, rest))
      ]

  -- one of them is taken
  pub late_taken : (late : List Item) (count oldest : ℕ) → AreLate late count oldest → AreLate (without_first p late) count oldest
  late_taken late count oldest are = record {
    full = λ some. are.full (let less = fewer_without late in omega (arith, some));
    order = follow_without late are.order;
    young = each_without (λ (x : Item). oldest ≤ x.since) late are.young;
  }

-- the first of what stands behind a place stands there
head_dropped : (xs : List Item) (k : ℕ) → slice_get (drop k xs) 0 ≡ slice_get xs k
head_dropped [] zero = refl
head_dropped [] (suc k) = refl
head_dropped (x ∷ xs) zero = refl
head_dropped (x ∷ xs) (suc k) = head_dropped xs k

first_of : (item : Option Item) (xs rest : List Item) → xs ≡ option_to_list item ++ rest → IsSome item ↔ (0 < length xs) → item ≡ slice_get xs 0
first_of None [] rest is some = refl
first_of None (x ∷ xs) rest is some = let there : 0 < length (x ∷ xs) = omega arith in absurd (false≢true (some.1 there))
first_of (Some i) xs rest is some = sym (ap (λ (l : List Item). slice_get l 0) is)

-- what is taken from the front of what stands behind a place
pub taken_behind : (item : Option Item) (xs behind rest : List Item) (k : ℕ) → behind ≡ drop k xs → behind ≡ option_to_list item ++ rest → IsSome item ↔ (0 < length behind) → item ≡ slice_get xs k
taken_behind item xs behind rest k is taken some = first_of item behind rest taken some ∙ ap (λ (l : List Item). slice_get l 0) is ∙ head_dropped xs k

-- the length of all
pub length_all : (xs late : List Item) → length (in_order xs ++ late) ≡ length xs + length late
length_all xs late =
    let all = length-append (in_order xs) late in
    let ordered = length_in_order xs in
    omega (arith, all, ordered)

-- where so many numbers are left, so many items can come
pub holds_more : (late : List Item) (front count oldest n : ℕ) → AreLate late count oldest → front ≤ count → count ≤ largest_count → front + length late ≤ largest_count → n ≤ largest_count - count → front + length late + n ≤ largest_count
holds_more [] front count oldest n are few top all le = omega (arith, few, top, le)
holds_more (x ∷ late) front count oldest n are few top all le =
    let some : 0 < length (x ∷ late) = omega arith in
    let full = are.full some in
    omega (arith, all, le, full)

-- the note of what was found
pub noted_as : (item : Option (Bor Item)) (found : Option Item) → option_map (λ i. i.now) item ≡ found → option_map (λ i. i.now.note) item ≡ option_map (λ (i : Item). i.note) found
noted_as None found is = ap (option_map (λ (i : Item). i.note)) is
noted_as (Some i) found is = ap (option_map (λ (x : Item). x.note)) is

-- the first of any kind
pub first_place : (xs : List Item) → 0 ≡ position_or_len is_item xs
first_place [] = refl
first_place (x ∷ xs) = refl

-- an item that was taken at its place
pub ruleset taken_at = (item_at, rest_at, first_place)

-- ---- when there are none

pub late_none : (late : List Item) (count oldest : ℕ) → late ≡ [] → AreLate late count oldest
late_none late count oldest none = subst (λ (l : List Item). AreLate l count oldest) (sym none) (record {
  full = λ some. absurd (omega (arith, some));
  order = tt;
  young = tt;
})

-- before the last number is given there are none
pub late_empty : (late : List Item) (count oldest : ℕ) → AreLate late count oldest → count < largest_count → late ≡ []
late_empty [] count oldest are less = refl
late_empty (x ∷ late) count oldest are less =
    let some : 0 < length (x ∷ late) = omega arith in
    let full = are.full some in
    absurd (omega (arith, full, less))

-- more were numbered
pub late_more : (late : List Item) (count more oldest : ℕ) → count ≤ more → more ≤ largest_count → AreLate late count oldest → AreLate late more oldest
late_more late count more oldest le top are = record {
  full = λ some. (let full = are.full some in omega (arith, full, le, top));
  order = are.order;
  young = are.young;
}

-- ---- one is put behind them

follow_put : (xs : List Item) (x : Item) → DoFollow xs → Each (λ (i : Item). i.since ≤ x.since) xs → DoFollow (xs ++ x ∷ [])
follow_put [] x h e = (tt, tt)
follow_put (y ∷ xs) x h e = (each_append (λ (z : Item). y.since ≤ z.since) xs (x ∷ []) h.0 (e.0, tt), follow_put xs x h.1 e.1)

pub late_put : (late : List Item) (count oldest : ℕ) (x : Item) → count ≡ largest_count → Each (λ (i : Item). i.since ≤ x.since) late → AreLate late count oldest → AreLate (late ++ x ∷ []) count (min oldest x.since)
late_put late count oldest x full before are = record {
  full = λ some. full;
  order = follow_put late x are.order before;
  young = each_append (λ (z : Item). min oldest x.since ≤ z.since) late (x ∷ [])
      (each_weaker (λ (z : Item). oldest ≤ z.since) (λ (z : Item). min oldest x.since ≤ z.since) (λ z le. lower z le) late are.young)
      (omega arith, tt);
}
  where
    lower : (z : Item) → oldest ≤ z.since → min oldest x.since ≤ z.since
    lower z le = omega arith

-- the moments of all are those in front and those behind
pub before_all : (since : ℕ) (xs ys all : List Item) → xs ++ ys ≡ all → Each (λ (i : Item). i.since ≤ since) all → Each (λ (i : Item). i.since ≤ since) xs × Each (λ (i : Item). i.since ≤ since) ys
before_all since xs ys all is each = each_parts (λ (i : Item). i.since ≤ since) xs ys (subst (Each (λ (i : Item). i.since ≤ since)) (sym is) each)

-- ---- by age

module _ (limit : ℕ) where
  all_fresh : (x : Item) (xs : List Item) → is_fresh limit x ≡ true → Each (λ (y : Item). x.since ≤ y.since) xs → filter (is_fresh limit) xs ≡ xs
  all_fresh x [] t h = refl
  all_fresh x (y ∷ xs) t h =
      let less : limit < x.since = ltb-true _ _ t in
      let le : x.since ≤ y.since = h.0 in
      let more : limit < y.since = omega arith in
      let sure : is_fresh limit y ≡ true = lt-ltb _ _ more in
      rw sure (ap (λ (l : List Item). y ∷ l) (all_fresh x xs t h.1))

  -- what is fresh of them is what is left where the old are taken from the front
  fresh_late : (xs : List Item) → DoFollow xs → fresh limit xs ≡ filter (is_fresh limit) xs
  fresh_late [] h = refl
  fresh_late (x ∷ xs) h = elim (cases_Bool (is_fresh limit x)) [
    | inl t ↦ rw t (ap (λ (l : List Item). x ∷ l) (sym (all_fresh x xs t h.0)))
    | inr f ↦ rw f (fresh_late xs h.1)
  ]

  follow_fresh : (xs : List Item) → DoFollow xs → DoFollow (fresh limit xs)
  follow_fresh [] h = tt
  follow_fresh (x ∷ xs) h = elim (cases_Bool (is_fresh limit x)) [
    | inl t ↦ rw t h
    | inr f ↦ rw f (follow_fresh xs h.1)
  ]

  pub fewer_fresh : (xs : List Item) → length (fresh limit xs) ≤ length xs
  fewer_fresh [] = omega arith
  fewer_fresh (x ∷ xs) =
      let rest = fewer_fresh xs in
      elim (cases_Bool (is_fresh limit x)) [
        | inl t ↦ rw t (omega arith)
        | inr f ↦ rw f (omega (arith, rest))
      ]

  -- the old are dropped
  pub late_fresh : (late new : List Item) (count oldest : ℕ) → new ≡ fresh limit late → AreLate late count oldest → AreLate new count (limit + 1)
  late_fresh late new count oldest is are = subst (λ (l : List Item). AreLate l count (limit + 1)) (sym is) (record {
    full = λ some. are.full (let less = fewer_fresh late in omega (arith, some));
    order = follow_fresh late are.order;
    young = subst (Each (λ (x : Item). limit + 1 ≤ x.since)) (sym (fresh_late late are.order)) (all_young limit late);
  })

-- the list of all without what is dropped
pub all_dropped : (moment : ℕ) (qs new : List Queue) (late left : List Item) → keeping_time ≤ moment → AreQueues qs → joined new ≡ joined (map (freshened (moment - keeping_time)) qs) → DoFollow late → left ≡ fresh (moment - keeping_time) late → in_order (joined new) ++ left ≡ filter (still_waits moment) (in_order (joined qs) ++ late)
all_dropped moment qs new late left le h same follow is =
    ap (λ (l : List Item). l ++ left) (dropped_is moment qs new le h same)
    ∙ ap (λ (l : List Item). filter (still_waits moment) (in_order (joined qs)) ++ l)
    (is ∙ fresh_late (moment - keeping_time) late follow ∙ filter_same (is_fresh (moment - keeping_time)) (still_waits moment) (λ x. fresh_kept moment x le) late)
    ∙ sym (filter-append (still_waits moment) (in_order (joined qs)) late)

-- the list of all with one that has the last number
pub appended_last : (items now : List Item) (count room left since : ℕ) (note : NoteParts) (x : Item) → now ≡ items ++ x ∷ [] → x ≡ item_under largest_count since note → count ≡ largest_count → next_number count ≡ largest_count → left + 1 ≡ room → record { items = now; count = count; room = left } ≡ appended note since (record { items = items; count = count; room = room })
appended_last items now count room left since note x is item full next more =
    ap (λ (l : List Item). whole l count left) (is ∙ ap (λ (i : Item). items ++ i ∷ []) (item ∙ ap (λ (n : ℕ). item_under n since note) (sym next)))
    ∙ ap (λ (n : ℕ). whole (items ++ item_under (next_number count) since note ∷ []) n left) (full ∙ sym next)
    ∙ ap (λ (n : ℕ). whole (items ++ item_under (next_number count) since note ∷ []) (next_number count) n) less
  where
    whole : List Item → ℕ → ℕ → OutboxData
    whole l n m = record { items = l; count = n; room = m }

    less : left ≡ room - 1
    less = omega arith
