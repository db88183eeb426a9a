-- What waited too long is dropped.
use Rattle.std.specs.Prelude.{nat_le}
use Rattle.std.proofs.Common.{◌≡◌, ◌≢◌, ℕ, ◌+◌, ◌-◌, ◌<◌, ◌≤◌, List, [], ◌∷◌, ◌++◌, map, length, take, drop, get_or, set, Bool, true, false, Option, inl, inr, refl, sym, ap, ◌∙◌, subst, arith, append_assoc}
use Rattle.std.proofs.lemmas.Bool.{cases_Bool, leb-true, leb-false, le-leb, ltb-true, ltb-false, lt-ltb, le-ltb}
use Rattle.std.proofs.lemmas.List.{append-nil, drop_all, take_all, drop_more, length-map, length-take-le, map-append, set_at, take_more}
use Rattle.std.proofs.lemmas.List.Elements.{filter-append}
use Rattle.std.proofs.Math.Seq.{get_or-append_seam}
use Rattle.std.specs.List.{filter}
use Rattle.notify_outbox.specs.Items.{still_waits, keeping_time}
use Rattle.notify_outbox.specs.Outbox.{OutboxData, dropped}
use Rattle.notify_outbox.specs.Queues.{joined, placed, in_order, fresh, is_fresh, freshened, Precedes, IsQueueOf, AreApart, AreKept}
use Rattle.notify_outbox.specs.declared.item.Item.{Item}
use Rattle.notify_outbox.specs.declared.queues.Queue.{Queue}
use Rattle.notify_outbox.proofs.OrderLemmas.{each_weaker, each_placed, Each}
use Rattle.notify_outbox.proofs.QueueLemmas.{AreQueues}

-- ---- a filter of items in order

abbrev IsAscending : List Item → Type 0
IsAscending [] = Unit {0}
IsAscending (y ∷ ys) = Each (λ (z : Item). y.number ≤ z.number) ys × IsAscending ys

ascending_placed : (x : Item) (ys : List Item) → IsAscending ys → IsAscending (placed x ys)
ascending_placed x [] s = (tt, tt)
ascending_placed x (y ∷ ys) s = elim (cases_Bool (nat_le x.number y.number)) [
  | inl t ↦
      let le : x.number ≤ y.number = leb-true _ _ t in
      rw t ((le, each_weaker (λ (z : Item). y.number ≤ z.number) (λ (z : Item). x.number ≤ z.number) (λ z h. up z le h) ys s.0), s)
  | inr f ↦
      let more : y.number < x.number = leb-false _ _ f in
      let le : y.number ≤ x.number = omega arith in
      rw f (each_placed (λ (z : Item). y.number ≤ z.number) x ys le s.0, ascending_placed x ys s.1)
]
  where
    up : (z : Item) → x.number ≤ y.number → y.number ≤ z.number → x.number ≤ z.number
    up z a b = omega arith

ascending_in_order : (xs : List Item) → IsAscending (in_order xs)
ascending_in_order [] = tt
ascending_in_order (x ∷ xs) = ascending_placed x (in_order xs) (ascending_in_order xs)

placed_first : (x : Item) (zs : List Item) → Each (λ (z : Item). x.number ≤ z.number) zs → placed x zs ≡ x ∷ zs
placed_first x [] h = refl
placed_first x (z ∷ zs) h = let t : nat_le x.number z.number ≡ true = le-leb _ _ h.0 in rw t refl

module _ (p : Item → Bool) where
  pub each_filter : (P : Item → Type 0) (xs : List Item) → Each P xs → Each P (filter p xs)
  each_filter P [] h = tt
  each_filter P (x ∷ xs) h = elim (cases_Bool (p x)) [
    | inl t ↦ rw t (h.0, each_filter P xs h.1)
    | inr f ↦ rw f (each_filter P xs h.1)
  ]

  filter_gone : (x : Item) (ys : List Item) → p x ≡ false → filter p (placed x ys) ≡ filter p ys
  filter_gone x [] never = rw never refl
  filter_gone x (y ∷ ys) never = elim (cases_Bool (nat_le x.number y.number)) [
    | inl t ↦ rw t (rw never refl)
    | inr f ↦ rw f (elim (cases_Bool (p y)) [
      | inl py ↦ rw py (ap (λ (l : List Item). y ∷ l) (filter_gone x ys never))
      | inr py ↦ rw py (filter_gone x ys never)
    ])
  ]

  filter_kept : (x : Item) (ys : List Item) → IsAscending ys → p x ≡ true → filter p (placed x ys) ≡ placed x (filter p ys)
  filter_kept x [] s sure = rw sure refl
  filter_kept x (y ∷ ys) s sure = elim (cases_Bool (nat_le x.number y.number)) [
    | inl t ↦
        let le : x.number ≤ y.number = leb-true _ _ t in
        let all : Each (λ (z : Item). x.number ≤ z.number) (y ∷ ys) = (le, each_weaker (λ (z : Item). y.number ≤ z.number) (λ (z : Item). x.number ≤ z.number) (λ z h. up z le h) ys s.0) in
        let first : placed x (filter p (y ∷ ys)) ≡ x ∷ filter p (y ∷ ys) = placed_first x (filter p (y ∷ ys)) (each_filter (λ (z : Item). x.number ≤ z.number) (y ∷ ys) all) in
        ap (filter p) (here t) ∙ one ∙ sym first
    | inr f ↦ ap (filter p) (there f) ∙ elim (cases_Bool (p y)) [
      | inl py ↦ rw py (ap (λ (l : List Item). y ∷ l) (filter_kept x ys s.1 sure) ∙ sym (below f (filter p ys)))
      | inr py ↦ rw py (filter_kept x ys s.1 sure)
    ]
  ]
    where
      up : (z : Item) → x.number ≤ y.number → y.number ≤ z.number → x.number ≤ z.number
      up z a b = omega arith

      here : nat_le x.number y.number ≡ true → placed x (y ∷ ys) ≡ x ∷ y ∷ ys
      here t = rw t refl

      there : nat_le x.number y.number ≡ false → placed x (y ∷ ys) ≡ y ∷ placed x ys
      there f = rw f refl

      below : nat_le x.number y.number ≡ false → (zs : List Item) → placed x (y ∷ zs) ≡ y ∷ placed x zs
      below f zs = rw f refl

      one : filter p (x ∷ y ∷ ys) ≡ x ∷ filter p (y ∷ ys)
      one = rw sure refl

  pub filter_in_order : (xs : List Item) → filter p (in_order xs) ≡ in_order (filter p xs)
  filter_in_order [] = refl
  filter_in_order (x ∷ xs) = elim (cases_Bool (p x)) [
    | inl t ↦ filter_kept x (in_order xs) (ascending_in_order xs) t ∙ ap (placed x) (filter_in_order xs) ∙ ap in_order (sym (kept t))
    | inr f ↦ filter_gone x (in_order xs) f ∙ filter_in_order xs ∙ ap in_order (sym (gone f))
  ]
    where
      kept : p x ≡ true → filter p (x ∷ xs) ≡ x ∷ filter p xs
      kept t = rw t refl

      gone : p x ≡ false → filter p (x ∷ xs) ≡ filter p xs
      gone f = rw f refl

  queue_filter : (channel : Option ℕ) (xs : List Item) → IsQueueOf channel xs → IsQueueOf channel (filter p xs)
  queue_filter channel [] h = tt
  queue_filter channel (x ∷ xs) h = elim (cases_Bool (p x)) [
    | inl t ↦ rw t (h.0, each_filter (Precedes x) xs h.1, queue_filter channel xs h.2)
    | inr f ↦ rw f (queue_filter channel xs h.2)
  ]

  apart_filter : (xs : List Item) → AreApart xs → AreApart (filter p xs)
  apart_filter [] h = tt
  apart_filter (x ∷ xs) h = elim (cases_Bool (p x)) [
    | inl t ↦ rw t (each_filter (λ (y : Item). x.number ≢ y.number) xs h.0, apart_filter xs h.1)
    | inr f ↦ rw f (apart_filter xs h.1)
  ]

  fewer : (xs : List Item) → length (filter p xs) ≤ length xs
  fewer [] = omega arith
  fewer (x ∷ xs) = (let less : length (filter p xs) ≤ length xs = fewer xs in elim (cases_Bool (p x)) [
    | inl t ↦ rw t (omega arith)
    | inr f ↦ rw f (omega arith)
  ])

-- ---- by age

module _ (limit : ℕ) where
  passes : (x y : Item) → is_fresh limit x ≡ true → x.since ≤ y.since → is_fresh limit y ≡ true
  passes x y t le = (let less : limit < x.since = ltb-true _ _ t in let more : limit < y.since = omega arith in lt-ltb _ _ more)

  all_pass : (x : Item) (xs : List Item) → is_fresh limit x ≡ true → Each (Precedes x) xs → filter (is_fresh limit) xs ≡ xs
  all_pass x [] t h = refl
  all_pass x (y ∷ xs) t h = let sure : is_fresh limit y ≡ true = passes x y t h.0.1 in rw sure (ap (λ (l : List Item). y ∷ l) (all_pass x xs t h.1))

  -- what is fresh of a queue is what is left where the old are taken from its front
  pub fresh_is : (channel : Option ℕ) (xs : List Item) → IsQueueOf channel xs → fresh limit xs ≡ filter (is_fresh limit) xs
  fresh_is channel [] h = refl
  fresh_is channel (x ∷ xs) h = elim (cases_Bool (is_fresh limit x)) [
    | inl t ↦ rw t (ap (λ (l : List Item). x ∷ l) (sym (all_pass x xs t h.1)))
    | inr f ↦ rw f (fresh_is channel xs h.2)
  ]

  pub joined_fresh : (qs : List Queue) → AreQueues qs → joined (map (freshened limit) qs) ≡ filter (is_fresh limit) (joined qs)
  joined_fresh [] h = refl
  joined_fresh (q ∷ qs) h =
      ap (λ (l : List Item). l ++ joined (map (freshened limit) qs)) (fresh_is q.channel q.items h.0)
      ∙ ap (λ (l : List Item). filter (is_fresh limit) q.items ++ l) (joined_fresh qs h.1)
      ∙ sym (filter-append (is_fresh limit) q.items (joined qs))

  queues_fresh : (qs : List Queue) → AreQueues qs → AreQueues (map (freshened limit) qs)
  queues_fresh [] h = tt
  queues_fresh (q ∷ qs) h = (subst (IsQueueOf q.channel) (sym (fresh_is q.channel q.items h.0)) (queue_filter (is_fresh limit) q.channel q.items h.0), queues_fresh qs h.1)

  pub all_young : (xs : List Item) → Each (λ (x : Item). limit + 1 ≤ x.since) (filter (is_fresh limit) xs)
  all_young [] = tt
  all_young (x ∷ xs) = elim (cases_Bool (is_fresh limit x)) [
    | inl t ↦ let less : limit < x.since = ltb-true _ _ t in let le : limit + 1 ≤ x.since = omega arith in rw t (le, all_young xs)
    | inr f ↦ rw f (all_young xs)
  ]

  -- of what is left there is no more
  pub fresh_fewer : (qs new : List Queue) → AreQueues qs → joined new ≡ joined (map (freshened limit) qs) → length (joined new) ≤ length (joined qs)
  fresh_fewer qs new h same =
      let long : length (joined new) ≡ length (filter (is_fresh limit) (joined qs)) = ap length (same ∙ joined_fresh qs h) in
      let less : length (filter (is_fresh limit) (joined qs)) ≤ length (joined qs) = fewer (is_fresh limit) (joined qs) in
      omega (arith, long, less)

  -- the queues without what is old are kept
  pub kept_fresh : (qs new : List Queue) (count oldest : ℕ) → AreKept qs count oldest → joined new ≡ joined (map (freshened limit) qs) → (AreQueues (map (freshened limit) qs) → AreQueues new) → AreKept new count (limit + 1)
  kept_fresh qs new count oldest kept same each = record {
    each = each (queues_fresh qs kept.each);
    apart = subst AreApart (sym is) (apart_filter (is_fresh limit) (joined qs) kept.apart);
    numbered = subst (Each (λ (z : Item). z.number ≤ count)) (sym is) (each_filter (is_fresh limit) (λ (z : Item). z.number ≤ count) (joined qs) kept.numbered);
    young = subst (Each (λ (z : Item). limit + 1 ≤ z.since)) (sym is) (all_young (joined qs));
    few = shorter;
  }
    where
      is : joined new ≡ filter (is_fresh limit) (joined qs)
      is = same ∙ joined_fresh qs kept.each

      shorter : length (joined new) ≤ count
      shorter =
          let long : length (joined new) ≡ length (filter (is_fresh limit) (joined qs)) = ap length is in
          let less : length (filter (is_fresh limit) (joined qs)) ≤ length (joined qs) = fewer (is_fresh limit) (joined qs) in
          let bound : length (joined qs) ≤ count = kept.few in
          omega arith

-- fresh by the limit is kept at the moment
pub fresh_kept : (moment : ℕ) (x : Item) → keeping_time ≤ moment → is_fresh (moment - keeping_time) x ≡ still_waits moment x
fresh_kept moment x le = elim (cases_Bool (is_fresh (moment - keeping_time) x)) [
  | inl t ↦ let less : moment - keeping_time < x.since = ltb-true _ _ t in let more : moment < x.since + keeping_time = omega arith in t ∙ sym (lt-ltb _ _ more)
  | inr f ↦ let old : x.since ≤ moment - keeping_time = ltb-false _ _ f in let past : x.since + keeping_time ≤ moment = omega arith in f ∙ sym (le-ltb _ _ past)
]

pub filter_same : (p q : Item → Bool) → ((x : Item) → p x ≡ q x) → (xs : List Item) → filter p xs ≡ filter q xs
filter_same p q same [] = refl
filter_same p q same (x ∷ xs) = rw (same x, filter_same p q same xs) refl

-- the list without what is dropped
pub dropped_is : (moment : ℕ) (qs new : List Queue) → keeping_time ≤ moment → AreQueues qs → joined new ≡ joined (map (freshened (moment - keeping_time)) qs) → in_order (joined new) ≡ filter (still_waits moment) (in_order (joined qs))
dropped_is moment qs new le h same =
    ap in_order (same ∙ joined_fresh (moment - keeping_time) qs h)
    ∙ sym (filter_in_order (is_fresh (moment - keeping_time)) (joined qs))
    ∙ filter_same (is_fresh (moment - keeping_time)) (still_waits moment) (λ x. fresh_kept moment x le) (in_order (joined qs))

all_kept : (moment : ℕ) (xs : List Item) → Each (λ (x : Item). still_waits moment x ≡ true) xs → xs ≡ filter (still_waits moment) xs
all_kept moment [] h = refl
all_kept moment (x ∷ xs) h = let sure : still_waits moment x ≡ true = h.0 in rw sure (ap (λ (l : List Item). x ∷ l) (all_kept moment xs h.1))

-- where nothing is old, nothing is dropped
pub none_dropped : (moment oldest : ℕ) (xs : List Item) → moment < oldest + keeping_time → Each (λ (x : Item). oldest ≤ x.since) xs → xs ≡ filter (still_waits moment) xs
none_dropped moment oldest xs early h = all_kept moment xs (each_weaker (λ (x : Item). oldest ≤ x.since) (λ (x : Item). still_waits moment x ≡ true) (λ x le. young x le) xs h)
  where
    young : (x : Item) → oldest ≤ x.since → still_waits moment x ≡ true
    young x le = (let more : moment < x.since + keeping_time = omega arith in lt-ltb _ _ more)

-- one queue more is freshened
pub freshened_next : (limit i : ℕ) (qs now new : List Queue) (r q : Queue) → i < length qs → now ≡ map (freshened limit) (take i qs) ++ drop i qs → r ≡ get_or now i r → q.channel ≡ r.channel → q.items ≡ fresh limit r.items → new ≡ set now i q → new ≡ map (freshened limit) (take (i + 1) qs) ++ drop (i + 1) qs
freshened_next limit i qs now new r q lt is at channel items changed =
    changed ∙ ap (λ (l : List Queue). set l i q) split
    ∙ set_at (map (freshened limit) (take i qs)) here (drop (i + 1) qs) q i long
    ∙ ap (λ (x : Queue). map (freshened limit) (take i qs) ++ x ∷ drop (i + 1) qs) same
    ∙ sym (append_assoc (map (freshened limit) (take i qs)) (freshened limit here ∷ []) (drop (i + 1) qs))
    ∙ ap (λ (l : List Queue). l ++ drop (i + 1) qs) (sym (map-append (freshened limit) (take i qs) (here ∷ [])) ∙ ap (map (freshened limit)) (sym (take_more qs i r lt)))
  where
    here : Queue
    here = get_or qs i r

    split : now ≡ map (freshened limit) (take i qs) ++ here ∷ drop (i + 1) qs
    split = is ∙ ap (λ (l : List Queue). map (freshened limit) (take i qs) ++ l) (drop_more qs i r lt)

    long : length (map (freshened limit) (take i qs)) ≡ i
    long = length-map (take i qs) (freshened limit) ∙ length-take-le i qs (omega arith)

    seam : get_or (map (freshened limit) (take i qs) ++ here ∷ drop (i + 1) qs) i r ≡ here
    seam = ap (λ (n : ℕ). get_or (map (freshened limit) (take i qs) ++ here ∷ drop (i + 1) qs) n r) (sym long) ∙ get_or-append_seam (map (freshened limit) (take i qs)) here (drop (i + 1) qs) r

    there : r ≡ here
    there = at ∙ ap (λ (l : List Queue). get_or l i r) split ∙ seam

    same : q ≡ freshened limit here
    same =
        ap (λ (c : Option ℕ). record { channel = c; items = q.items }) (channel ∙ ap (λ (p : Queue). p.channel) there)
        ∙ ap (λ (l : List Item). record { channel = here.channel; items = l }) (items ∙ ap (λ (p : Queue). fresh limit p.items) there)

-- and all at the end
pub freshened_all : (limit i : ℕ) (qs : List Queue) → length qs ≤ i → map (freshened limit) (take i qs) ++ drop i qs ≡ map (freshened limit) qs
freshened_all limit i qs past =
    ap (λ (l : List Queue). map (freshened limit) l ++ drop i qs) (take_all i qs past)
    ∙ ap (λ (l : List Queue). map (freshened limit) qs ++ l) (drop_all i qs past)
    ∙ append-nil (map (freshened limit) qs)

-- ---- the outbox

zeros : (xs : List Item) → Each (λ (x : Item). 0 ≤ x.since) xs
zeros [] = tt
zeros (x ∷ xs) = (omega arith, zeros xs)

-- early on nothing is dropped
pub early_dropped : (o : OutboxData) (moment : ℕ) → moment < keeping_time → o ≡ dropped moment o
early_dropped o moment early = ap (λ (items : List Item). record { items = items; count = o.count; room = o.room }) (none_dropped moment 0 o.items (omega arith) (zeros o.items))
