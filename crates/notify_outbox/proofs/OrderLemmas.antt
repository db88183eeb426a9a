-- Items by number, and the first of a kind.
use Rattle.std.specs.Prelude.{nat_le}
use Rattle.std.proofs.Common.{◌≡◌, ◌≢◌, ℕ, ◌+◌, ◌<◌, ◌≤◌, List, [], ◌∷◌, ◌++◌, length, Bool, true, false, Some, None, inl, inr, refl, sym, ap, ◌∙◌, arith}
use Rattle.std.proofs.lemmas.Bool.{cases_Bool, leb-true, leb-false, le-leb, lt-leb}
use Rattle.std.specs.List.{AllByRecursion, find}
use Rattle.notify_outbox.specs.Outbox.{without_first}
use Rattle.notify_outbox.specs.Queues.{placed, in_order, AreApart}
use Rattle.notify_outbox.specs.declared.item.Item.{Item}

-- ---- what holds of each

module _ {X : Type 0} where
  pub each_append : (P : X → Type 0) (xs ys : List X) → AllByRecursion P xs → AllByRecursion P ys → AllByRecursion P (xs ++ ys)
  each_append P [] ys h k = k
  each_append P (x ∷ xs) ys h k = (h.0, each_append P xs ys h.1 k)

  pub each_parts : (P : X → Type 0) (xs ys : List X) → AllByRecursion P (xs ++ ys) → AllByRecursion P xs × AllByRecursion P ys
  each_parts P [] ys h = (tt, h)
  each_parts P (x ∷ xs) ys h = (let r = each_parts P xs ys h.1 in ((h.0, r.0), r.1))

  pub each_weaker : (P Q : X → Type 0) → ((x : X) → P x → Q x) → (xs : List X) → AllByRecursion P xs → AllByRecursion Q xs
  each_weaker P Q f [] h = tt
  each_weaker P Q f (x ∷ xs) h = (f x h.0, each_weaker P Q f xs h.1)

  pub each_with : (P Q R : X → Type 0) → ((x : X) → P x → Q x → R x) → (xs : List X) → AllByRecursion P xs → AllByRecursion Q xs → AllByRecursion R xs
  each_with P Q R f [] h k = tt
  each_with P Q R f (x ∷ xs) h k = (f x h.0 k.0, each_with P Q R f xs h.1 k.1)

abbrev pub Each : (Item → Type 0) → List Item → Type 0
Each P items = AllByRecursion P items

pub each_placed : (P : Item → Type 0) (x : Item) (ys : List Item) → P x → Each P ys → Each P (placed x ys)
each_placed P x [] p h = (p, tt)
each_placed P x (y ∷ ys) p h = elim (cases_Bool (nat_le x.number y.number)) [
  | inl t ↦ rw t (p, h)
  | inr f ↦ rw f (h.0, each_placed P x ys p h.1)
]

pub each_in_order : (P : Item → Type 0) (xs : List Item) → Each P xs → Each P (in_order xs)
each_in_order P [] h = tt
each_in_order P (x ∷ xs) h = each_placed P x (in_order xs) h.0 (each_in_order P xs h.1)

pub each_unplaced : (P : Item → Type 0) (x : Item) (ys : List Item) → Each P (placed x ys) → P x × Each P ys
each_unplaced P x [] h = (h.0, tt)
each_unplaced P x (y ∷ ys) h = elim (cases_Bool (nat_le x.number y.number)) [
  | inl t ↦ let k : Each P (x ∷ y ∷ ys) = rw t at h in (k.0, k.1)
  | inr f ↦ let k : Each P (y ∷ placed x ys) = rw f at h in let r = each_unplaced P x ys k.1 in (r.0, (k.0, r.1))
]

pub each_unordered : (P : Item → Type 0) (xs : List Item) → Each P (in_order xs) → Each P xs
each_unordered P [] h = tt
each_unordered P (x ∷ xs) h = (let r = each_unplaced P x (in_order xs) h in (r.0, each_unordered P xs r.1))

pub length_placed : (x : Item) (ys : List Item) → length (placed x ys) ≡ length ys + 1
length_placed x [] = omega arith
length_placed x (y ∷ ys) = elim (cases_Bool (nat_le x.number y.number)) [
  | inl t ↦ rw t (omega arith)
  | inr f ↦ rw f (let more = length_placed x ys in omega arith)
]

pub length_in_order : (xs : List Item) → length (in_order xs) ≡ length xs
length_in_order [] = refl
length_in_order (x ∷ xs) = (let one = length_placed x (in_order xs) in let rest = length_in_order xs in omega arith)

-- ---- the last

placed_last : (x y : Item) (zs : List Item) → x.number ≤ y.number → placed x (zs ++ y ∷ []) ≡ placed x zs ++ y ∷ []
placed_last x y [] le = let t : nat_le x.number y.number ≡ true = le-leb _ _ le in rw t refl
placed_last x y (z ∷ zs) le = elim (cases_Bool (nat_le x.number z.number)) [
  | inl t ↦ rw t refl
  | inr f ↦ rw f (ap (λ (l : List Item). z ∷ l) (placed_last x y zs le))
]

placed_most : (x : Item) (zs : List Item) → Each (λ (z : Item). z.number < x.number) zs → placed x zs ≡ zs ++ x ∷ []
placed_most x [] h = refl
placed_most x (z ∷ zs) h = let f : nat_le x.number z.number ≡ false = lt-leb _ _ h.0 in rw f (ap (λ (l : List Item). z ∷ l) (placed_most x zs h.1))

-- an item with a greater number than all others is the last
pub order_last : (before after : List Item) (x : Item) → Each (λ (z : Item). z.number < x.number) (before ++ after) → in_order (before ++ x ∷ after) ≡ in_order (before ++ after) ++ x ∷ []
order_last [] after x h = placed_most x (in_order after) (each_in_order _ after h)
order_last (a ∷ before) after x h =
    let less : a.number < x.number = h.0 in
    let le : a.number ≤ x.number = omega arith in
    ap (placed a) (order_last before after x h.1) ∙ placed_last a x (in_order (before ++ after)) le

-- ---- one is taken out

placed_below : (a x : Item) (zs : List Item) → a.number < x.number → placed a (placed x zs) ≡ placed x (placed a zs)
placed_below a x [] less =
    let le : a.number ≤ x.number = omega arith in
    let ax : nat_le a.number x.number ≡ true = le-leb _ _ le in
    let xa : nat_le x.number a.number ≡ false = lt-leb _ _ less in
    simp (ax, xa) refl
placed_below a x (z ∷ zs) less =
    let le : a.number ≤ x.number = omega arith in
    let ax : nat_le a.number x.number ≡ true = le-leb _ _ le in
    let xa : nat_le x.number a.number ≡ false = lt-leb _ _ less in
    elim (cases_Bool (nat_le x.number z.number)) [
      | inl xz ↦
          let below : x.number ≤ z.number = leb-true _ _ xz in
          let too : a.number ≤ z.number = omega arith in
          let az : nat_le a.number z.number ≡ true = le-leb _ _ too in
          simp (xz, az, ax, xa) refl
      | inr xz ↦ elim (cases_Bool (nat_le a.number z.number)) [
        | inl az ↦ simp (xz, az, xa) refl
        | inr az ↦ simp (xz, az) (ap (λ (l : List Item). z ∷ l) (placed_below a x zs less))
      ]
    ]

placed_twice : (a x : Item) (zs : List Item) → a.number ≢ x.number → placed a (placed x zs) ≡ placed x (placed a zs)
placed_twice a x zs apart = elim (cases_Bool (nat_le a.number x.number)) [
  | inl t ↦ let le : a.number ≤ x.number = leb-true _ _ t in let less : a.number < x.number = omega (arith, apart) in placed_below a x zs less
  | inr f ↦ let more : x.number < a.number = leb-false _ _ f in sym (placed_below x a zs more)
]

take_out : (before after : List Item) (x : Item) → Each (λ (z : Item). z.number ≢ x.number) before → in_order (before ++ x ∷ after) ≡ placed x (in_order (before ++ after))
take_out [] after x h = refl
take_out (a ∷ before) after x h = ap (placed a) (take_out before after x h.1) ∙ placed_twice a x (in_order (before ++ after)) h.0

module _ (p : Item → Bool) where
  -- where an item is such a one, it comes after x
  abbrev pub Later : Item → Item → Type 0
  Later x z = p z ≡ true → x.number < z.number

  clash : (x z : Item) → nat_le x.number z.number ≡ false → Later x z → p z ≡ true → ⊥
  clash x z f later sure = (let less : x.number < z.number = later sure in let more : z.number < x.number = leb-false _ _ f in omega arith)

  find_placed : (x : Item) (zs : List Item) → p x ≡ true → Each (Later x) zs → find p (placed x zs) ≡ Some x
  find_placed x [] sure h = rw sure refl
  find_placed x (z ∷ zs) sure h = elim (cases_Bool (nat_le x.number z.number)) [
    | inl t ↦ rw t (rw sure refl)
    | inr f ↦ elim (cases_Bool (p z)) [
      | inl pz ↦ absurd (clash x z f h.0 pz)
      | inr pz ↦ rw f (rw pz (find_placed x zs sure h.1))
    ]
  ]

  without_placed : (x : Item) (zs : List Item) → p x ≡ true → Each (Later x) zs → without_first p (placed x zs) ≡ zs
  without_placed x [] sure h = rw sure refl
  without_placed x (z ∷ zs) sure h = elim (cases_Bool (nat_le x.number z.number)) [
    | inl t ↦ rw t (rw sure refl)
    | inr f ↦ elim (cases_Bool (p z)) [
      | inl pz ↦ absurd (clash x z f h.0 pz)
      | inr pz ↦ rw f (rw pz (ap (λ (l : List Item). z ∷ l) (without_placed x zs sure h.1)))
    ]
  ]

  -- the least of a kind is its first, and the list without it is that of the others
  pub first_out : (before after : List Item) (x : Item) → Each (λ (z : Item). z.number ≢ x.number) before → p x ≡ true → Each (Later x) (before ++ after) → (find p (in_order (before ++ x ∷ after)) ≡ Some x) × (without_first p (in_order (before ++ x ∷ after)) ≡ in_order (before ++ after))
  first_out before after x apart sure later =
      let out = take_out before after x apart in
      let all = each_in_order (Later x) (before ++ after) later in
      (ap (find p) out ∙ find_placed x (in_order (before ++ after)) sure all, ap (without_first p) out ∙ without_placed x (in_order (before ++ after)) sure all)

  find_none : (zs : List Item) → Each (λ z. p z ≡ false) zs → find p zs ≡ None
  find_none [] h = refl
  find_none (z ∷ zs) h = let never : p z ≡ false = h.0 in rw never (find_none zs h.1)

  without_none : (zs : List Item) → Each (λ z. p z ≡ false) zs → without_first p zs ≡ zs
  without_none [] h = refl
  without_none (z ∷ zs) h = let never : p z ≡ false = h.0 in rw never (ap (λ (l : List Item). z ∷ l) (without_none zs h.1))

  -- where none is of the kind, none is found
  pub none_out : (xs : List Item) → Each (λ z. p z ≡ false) xs → (find p (in_order xs) ≡ None) × (without_first p (in_order xs) ≡ in_order xs)
  none_out xs h = (let all = each_in_order _ xs h in (find_none (in_order xs) all, without_none (in_order xs) all))

-- ---- numbers differ

pub apart_parts : (before after : List Item) (x : Item) → AreApart (before ++ x ∷ after) → Each (λ (z : Item). z.number ≢ x.number) (before ++ after) × AreApart (before ++ after)
apart_parts [] after x h = (each_weaker (λ (z : Item). x.number ≢ z.number) (λ (z : Item). z.number ≢ x.number) (λ z ne e. ne (sym e)) after h.0, h.1)
apart_parts (a ∷ before) after x h =
    let r = apart_parts before after x h.1 in
    let parts = each_parts (λ (z : Item). a.number ≢ z.number) before (x ∷ after) h.0 in
    ((parts.1.0, r.0), (each_append (λ (z : Item). a.number ≢ z.number) before after parts.0 parts.1.1, r.1))

other : (n m : ℕ) → n < m → n ≢ m
other n m less e = omega arith

pub apart_with : (before after : List Item) (x : Item) → AreApart (before ++ after) → Each (λ (z : Item). z.number < x.number) (before ++ after) → AreApart (before ++ x ∷ after)
apart_with [] after x h less = (each_weaker (λ (z : Item). z.number < x.number) (λ (z : Item). x.number ≢ z.number) (λ z lt e. other z.number x.number lt (sym e)) after less, h)
apart_with (a ∷ before) after x h less =
    let parts = each_parts (λ (z : Item). a.number ≢ z.number) before after h.0 in
    (each_append (λ (z : Item). a.number ≢ z.number) before (x ∷ after) parts.0 (other a.number x.number less.0, parts.1), apart_with before after x h.1 less.1)
