-- The least first item of the wanted queues.
use Rattle.std.specs.Prelude.{nat_lt}
use Rattle.std.proofs.Common.{◌≡◌, ◌≢◌, ℕ, suc, ◌+◌, ◌<◌, ◌≤◌, ◌⊎◌, List, [], ◌∷◌, ◌++◌, length, take, drop, get_or, set, Bool, true, false, Option, Some, None, is_some, inl, inr, refl, sym, ap, ◌∙◌, subst, arith}
use Rattle.std.proofs.lemmas.Bool.{cases_Bool, false≢true, ltb-true, ltb-false}
use Rattle.std.proofs.lemmas.List.{get_or_default}
use Rattle.std.proofs.lemmas.Option.{same_Some}
use Rattle.std.specs.List.{AllByRecursion, find}
use Rattle.notify_outbox.specs.Items.{item_channel}
use Rattle.notify_outbox.specs.Outbox.{without_first}
use Rattle.notify_outbox.specs.Queues.{joined, in_order, Precedes, IsQueueOf, IsQueue, AreApart, better, least_from, Pops}
use Rattle.notify_outbox.specs.declared.item.Item.{Item}
use Rattle.notify_outbox.specs.declared.queues.Queue.{Queue}
use Rattle.notify_outbox.proofs.OrderLemmas.{each_append, each_parts, each_weaker, each_with, Each, first_out, none_out, apart_parts}
use Rattle.notify_outbox.proofs.QueueLemmas.{AreQueues, queue_at, pop_there}

no_some : {A : Type 0} (a : A) → Some a ≡ None → ⊥
no_some a e = false≢true (sym (ap is_some e))

-- the first of these, if there is one, has this number or a greater one
abbrev From : ℕ → List Item → Type 0
From n [] = Unit {0}
From n (x ∷ items) = n ≤ x.number

abbrev BestFrom : ℕ → Option (ℕ × ℕ) → Type 0
BestFrom n None = Unit {0}
BestFrom n (Some b) = n ≤ b.1

-- the first of these has this number
abbrev HasFirst : ℕ → List Item → Type 0
HasFirst n items = (x : Item) × (rest : List Item) × (items ≡ x ∷ rest) × (x.number ≡ n)

better_from : (best : Option (ℕ × ℕ)) (k : ℕ) (items : List Item) (n : ℕ) → BestFrom n (better best k items) → BestFrom n best × From n items
better_from None k [] n h = (h, tt)
better_from (Some b) k [] n h = (h, tt)
better_from None k (x ∷ items) n h = (tt, h)
better_from (Some b) k (x ∷ items) n h = elim (cases_Bool (nat_lt x.number b.1)) [
  | inl t ↦ let less : x.number < b.1 = ltb-true _ _ t in let here : n ≤ x.number = rw t at h in let there : n ≤ b.1 = omega arith in (there, here)
  | inr f ↦ let more : b.1 ≤ x.number = ltb-false _ _ f in let there : n ≤ b.1 = rw f at h in let here : n ≤ x.number = omega arith in (there, here)
]

here_of : (k : ℕ) (x : Item) (items : List Item) (b : ℕ × ℕ) → Some (k, x.number) ≡ Some b → (b.0 ≡ k) × HasFirst b.1 (x ∷ items)
here_of k x items b e = (let same = same_Some (k, x.number) b e in (sym (ap (λ (p : ℕ × ℕ). p.0) same), (x, items, refl, ap (λ (p : ℕ × ℕ). p.1) same)))

better_here : (best : Option (ℕ × ℕ)) (k : ℕ) (items : List Item) (b : ℕ × ℕ) → better best k items ≡ Some b → (best ≡ Some b) ⊎ ((b.0 ≡ k) × HasFirst b.1 items)
better_here None k [] b e = inl e
better_here (Some c) k [] b e = inl e
better_here None k (x ∷ items) b e = inr (here_of k x items b e)
better_here (Some c) k (x ∷ items) b e = elim (cases_Bool (nat_lt x.number c.1)) [
  | inl t ↦ let is : Some (k, x.number) ≡ Some b = rw t at e in inr (here_of k x items b is)
  | inr f ↦ let is : Some c ≡ Some b = rw f at e in inl is
]

better_none : (best : Option (ℕ × ℕ)) (k : ℕ) (items : List Item) → better best k items ≡ None → (best ≡ None) × (items ≡ [])
better_none None k [] e = (refl, refl)
better_none (Some c) k [] e = absurd (no_some c e)
better_none None k (x ∷ items) e = absurd (no_some (k, x.number) e)
better_none (Some c) k (x ∷ items) e = elim (cases_Bool (nat_lt x.number c.1)) [
  | inl t ↦ let is : Some (k, x.number) ≡ None = rw t at e in absurd (no_some (k, x.number) is)
  | inr f ↦ let is : Some c ≡ None = rw f at e in absurd (no_some c is)
]

-- ---- in a queue

items_from : (n : ℕ) (channel : Option ℕ) (items : List Item) → IsQueueOf channel items → From n items → Each (λ (y : Item). n ≤ y.number) items
items_from n channel [] h from = tt
items_from n channel (x ∷ items) h from = (from, each_weaker (Precedes x) (λ (y : Item). n ≤ y.number) (λ y p. after y p.0) items h.1)
  where
    after : (y : Item) → x.number < y.number → n ≤ y.number
    after y less = (let low : n ≤ x.number = from in omega arith)

of_channel : (channel : Option ℕ) (items : List Item) → IsQueueOf channel items → Each (λ y. item_channel y ≡ channel) items
of_channel channel [] h = tt
of_channel channel (x ∷ items) h = (h.0, of_channel channel items h.2)

module _ (w : Option ℕ → Bool) where
  abbrev Wanted : ℕ → Queue → Type 0
  Wanted n q = w q.channel ≡ true → From n q.items

  abbrev Empty : Queue → Type 0
  Empty q = w q.channel ≡ true → q.items ≡ []

  abbrev IsFront : ℕ → Queue → Type 0
  IsFront n q = (w q.channel ≡ true) × HasFirst n q.items

  abbrev StandsAt : ℕ → List Queue → ℕ × ℕ → Type 0
  StandsAt k qs b = (j : ℕ) × (b.0 ≡ k + j) × (j < length qs) × ((d : Queue) → IsFront b.1 (get_or qs j d))

  record Found (best : Option (ℕ × ℕ)) (k : ℕ) (qs : List Queue) (b : ℕ × ℕ) : Type 0 where
    all : AllByRecursion (Wanted b.1) qs
    least : BestFrom b.1 best
    place : (best ≡ Some b) ⊎ StandsAt k qs b

  next : (best more : Option (ℕ × ℕ)) (k : ℕ) (q : Queue) (qs : List Queue) (b : ℕ × ℕ) → Found more (k + 1) qs b → (BestFrom b.1 more → BestFrom b.1 best × Wanted b.1 q) → (more ≡ Some b → (best ≡ Some b) ⊎ ((b.0 ≡ k) × IsFront b.1 q)) → Found best k (q ∷ qs) b
  next best more k q qs b r from here = record {
    all = ((from r.least).1, r.all);
    least = (from r.least).0;
    place = elim r.place [
      | inl e ↦ elim (here e) [
        | inl s ↦ inl s
        | inr s ↦ inr (first s)
      ]
      | inr s ↦ inr (later s)
    ];
  }
    where
      first : (b.0 ≡ k) × IsFront b.1 q → StandsAt k (q ∷ qs) b
      first s = (let e : b.0 ≡ k = s.0 in let at : b.0 ≡ k + 0 = omega arith in let in' : 0 < length (q ∷ qs) = omega arith in (0, at, in', λ d. s.1))

      later : StandsAt (k + 1) qs b → StandsAt k (q ∷ qs) b
      later s = (let e : b.0 ≡ (k + 1) + s.0 = s.1 in let at : b.0 ≡ k + suc s.0 = omega arith in let lt : s.0 < length qs = s.2 in let in' : suc s.0 < length (q ∷ qs) = omega arith in (suc s.0, at, in', s.3))

  found : (best : Option (ℕ × ℕ)) (k : ℕ) (qs : List Queue) (b : ℕ × ℕ) → least_from w best k qs ≡ Some b → Found best k qs b
  found best k [] b is = record {
    all = tt;
    least = subst (BestFrom b.1) (sym is) (let low : b.1 ≤ b.1 = omega arith in low);
    place = inl is;
  }
  found best k (q ∷ qs) b is = elim (cases_Bool (w q.channel)) [
    | inl t ↦
        let e : least_from w (better best k q.items) (k + 1) qs ≡ Some b = rw t at is in
        next best (better best k q.items) k q qs b (found (better best k q.items) (k + 1) qs b e)
        (λ h. let r = better_from best k q.items b.1 h in (r.0, λ _. r.1))
        (λ s. elim (better_here best k q.items b s) [ inl g ↦ inl g | inr g ↦ inr (g.0, (t, g.1)) ])
    | inr f ↦
        let e : least_from w best (k + 1) qs ≡ Some b = rw f at is in
        next best best k q qs b (found best (k + 1) qs b e) (λ h. (h, λ t. absurd (false≢true (sym f ∙ t)))) (λ s. inl s)
  ]

  not_found : (best : Option (ℕ × ℕ)) (k : ℕ) (qs : List Queue) → least_from w best k qs ≡ None → (best ≡ None) × AllByRecursion Empty qs
  not_found best k [] is = (is, tt)
  not_found best k (q ∷ qs) is = elim (cases_Bool (w q.channel)) [
    | inl t ↦
        let e : least_from w (better best k q.items) (k + 1) qs ≡ None = rw t at is in
        let r = not_found (better best k q.items) (k + 1) qs e in
        let g = better_none best k q.items r.0 in
        (g.0, (λ _. g.1, r.1))
    | inr f ↦
        let e : least_from w best (k + 1) qs ≡ None = rw f at is in
        let r = not_found best (k + 1) qs e in
        (r.0, (λ t. absurd (false≢true (sym f ∙ t)), r.1))
  ]

  -- whether an item is wanted
  abbrev picks : Item → Bool
  picks item = w (item_channel item)

  abbrev Above : ℕ → Item → Type 0
  Above n y = picks y ≡ true → n ≤ y.number

  items_above : (n : ℕ) (q : Queue) → IsQueue q → Wanted n q → Each (Above n) q.items
  items_above n q h from = elim (cases_Bool (w q.channel)) [
    | inl t ↦ each_weaker (λ (y : Item). n ≤ y.number) (Above n) (λ y le _. le) q.items (items_from n q.channel q.items h (from t))
    | inr f ↦ each_weaker (λ y. item_channel y ≡ q.channel) (Above n) (λ y e t. absurd (false≢true (sym f ∙ sym (ap w e) ∙ t))) q.items (of_channel q.channel q.items h)
  ]

  all_above : (n : ℕ) (qs : List Queue) → AreQueues qs → AllByRecursion (Wanted n) qs → Each (Above n) (joined qs)
  all_above n [] h from = tt
  all_above n (q ∷ qs) h from = each_append (Above n) q.items (joined qs) (items_above n q h.0 from.0) (all_above n qs h.1 from.1)

  abbrev Unwanted : Item → Type 0
  Unwanted y = picks y ≡ false

  items_unwanted : (q : Queue) → IsQueue q → Empty q → Each Unwanted q.items
  items_unwanted q h empty = elim (cases_Bool (w q.channel)) [
    | inl t ↦ subst (Each Unwanted) (sym (empty t)) tt
    | inr f ↦ each_weaker (λ y. item_channel y ≡ q.channel) Unwanted (λ y e. ap w e ∙ f) q.items (of_channel q.channel q.items h)
  ]

  all_unwanted : (qs : List Queue) → AreQueues qs → AllByRecursion Empty qs → Each Unwanted (joined qs)
  all_unwanted [] h empty = tt
  all_unwanted (q ∷ qs) h empty = each_append Unwanted q.items (joined qs) (items_unwanted q h.0 empty.0) (all_unwanted qs h.1 empty.1)

  -- where no queue has a wanted item, none is found
  pub took_none : (qs : List Queue) → AreQueues qs → least_from w None 0 qs ≡ None → (find picks (in_order (joined qs)) ≡ None) × (without_first picks (in_order (joined qs)) ≡ in_order (joined qs))
  took_none qs h is = none_out picks (joined qs) (all_unwanted qs h (not_found None 0 qs is).1)

  place_of : (qs : List Queue) (b : ℕ × ℕ) → least_from w None 0 qs ≡ Some b → (b.0 < length qs) × ((d : Queue) → IsFront b.1 (get_or qs b.0 d))
  place_of qs b is = elim (found None 0 qs b is).place [
    | inl e ↦ absurd (no_some b (sym e))
    | inr s ↦
        let lt : s.0 < length qs = s.2 in
        let e : b.0 ≡ 0 + s.0 = s.1 in
        let at : b.0 ≡ s.0 = omega arith in
        let within : b.0 < length qs = omega arith in
        (within, λ d. subst (λ (n : ℕ). IsFront b.1 (get_or qs n d)) (sym at) (s.3 d))
  ]

  some_items : (n : ℕ) (items : List Item) → HasFirst n items → 0 < length items
  some_items n items h = (let long : length items ≡ length (h.0 ∷ h.1) = ap length h.2 in omega arith)

  -- the place that is found has an item
  pub place_filled : (qs : List Queue) (b : ℕ × ℕ) → least_from w None 0 qs ≡ Some b → (b.0 < length qs) × ((d : Queue) → 0 < length (get_or qs b.0 d).items)
  place_filled qs b is = (let r = place_of qs b is in (r.0, λ d. some_items b.1 (get_or qs b.0 d).items (r.1 d).1))

  head_is : (x y : Item) (rest items : List Item) → items ≡ y ∷ rest → take 1 items ≡ x ∷ [] → y ≡ x
  head_is x y rest items e f = ap (first_or x) (sym (ap (take 1) e) ∙ f)
    where
      first_or : Item → List Item → Item
      first_or d [] = d
      first_or d (z ∷ zs) = z

  above_then : (x y : Item) (n : ℕ) → x.number ≡ n → Above n y → y.number ≢ x.number → picks y ≡ true → x.number < y.number
  above_then x y n e h ne t = (let le : n ≤ y.number = h t in omega (arith, ne))

  -- the first item of the queue that is found is the first wanted one of all
  pub took_first : (qs new : List Queue) (b : ℕ × ℕ) (x : Item) → AreQueues qs → AreApart (joined qs) → least_from w None 0 qs ≡ Some b → Pops b.0 qs new x → (find picks (in_order (joined qs)) ≡ Some x) × (without_first picks (in_order (joined qs)) ≡ in_order (joined new))
  took_first qs new b x h apart is pops = (ap (λ (l : List Item). find picks (in_order l)) pops.was ∙ out.0, ap (λ (l : List Item). without_first picks (in_order l)) pops.was ∙ out.1 ∙ ap in_order (sym pops.is))
    where
      nothing : Queue
      nothing = record { channel = None; items = [] }

      at : (b.0 < length qs) × ((d : Queue) → IsFront b.1 (get_or qs b.0 d))
      at = place_of qs b is

      front : IsFront b.1 (get_or qs b.0 nothing)
      front = at.1 nothing

      same : front.1.0 ≡ x
      same = head_is x front.1.0 front.1.1 (get_or qs b.0 nothing).items front.1.2 (pops.front nothing)

      numbered : x.number ≡ b.1
      numbered = ap (λ (i : Item). i.number) (sym same) ∙ front.1.3

      channel_of_first : item_channel front.1.0 ≡ (get_or qs b.0 nothing).channel
      channel_of_first = (let whole : IsQueueOf (get_or qs b.0 nothing).channel (front.1.0 ∷ front.1.1) = subst (IsQueueOf (get_or qs b.0 nothing).channel) front.1.2 (queue_at qs b.0 nothing at.0 h) in whole.0)

      sure : picks x ≡ true
      sure = ap (λ (i : Item). w (item_channel i)) (sym same) ∙ ap w channel_of_first ∙ front.0

      differ : Each (λ (z : Item). z.number ≢ x.number) (pops.before ++ pops.after)
      differ = (apart_parts pops.before pops.after x (subst AreApart pops.was apart)).0

      above : Each (Above b.1) (pops.before ++ x ∷ pops.after)
      above = subst (Each (Above b.1)) pops.was (all_above b.1 qs h (found None 0 qs b is).all)

      others : Each (Above b.1) (pops.before ++ pops.after)
      others = (let parts = each_parts (Above b.1) pops.before (x ∷ pops.after) above in each_append (Above b.1) pops.before pops.after parts.0 parts.1.1)

      later : Each (λ z. picks z ≡ true → x.number < z.number) (pops.before ++ pops.after)
      later = each_with (Above b.1) (λ (z : Item). z.number ≢ x.number) (λ z. picks z ≡ true → x.number < z.number) (λ z a ne. above_then x z b.1 numbered a ne) (pops.before ++ pops.after) others differ

      out : (find picks (in_order (pops.before ++ x ∷ pops.after)) ≡ Some x) × (without_first picks (in_order (pops.before ++ x ∷ pops.after)) ≡ in_order (pops.before ++ pops.after))
      out = first_out picks pops.before pops.after x (each_parts (λ (z : Item). z.number ≢ x.number) pops.before pops.after differ).0 sure later

  -- it is the first of the wanted, before it is taken
  pub front_found : (qs : List Queue) (b : ℕ × ℕ) (x : Item) → AreQueues qs → AreApart (joined qs) → least_from w None 0 qs ≡ Some b → ((d : Queue) → take 1 (get_or qs b.0 d).items ≡ x ∷ []) → find picks (in_order (joined qs)) ≡ Some x
  front_found qs b x h apart is front = (took_first qs (set qs b.0 (record first { items = drop 1 first.items })) b x h apart is (pop_there qs b.0 first (record first { items = drop 1 first.items }) x within (get_or_default qs b.0 nothing first within) refl split)).0
    where
      nothing : Queue
      nothing = record { channel = None; items = [] }

      within : b.0 < length qs
      within = (place_filled qs b is).0

      first : Queue
      first = get_or qs b.0 nothing

      taken_all : (items : List Item) → take 1 items ≡ x ∷ [] → items ≡ x ∷ drop 1 items
      taken_all [] e = e
      taken_all (y ∷ items) e = ap (λ (l : List Item). l ++ items) e

      split : first.items ≡ x ∷ drop 1 first.items
      split = taken_all first.items (front nothing)
