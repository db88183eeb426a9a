-- What is left to subscriptions that count.
use Rattle.std.specs.Prelude.{nat_lt, nat_eq, filter, option_map, cond}
use Rattle.std.proofs.Common.{◌≡◌, ℕ, ◌+◌, ◌-◌, ◌<◌, ◌≤◌, ◌==◌, List, [], ◌∷◌, ◌++◌, length, true, false, Option, Some, None, refl, sym, ap, ◌∙◌, subst, inl, inr, arith}
use Rattle.std.proofs.lemmas.Bool.{cases_Bool, eqb-true, ltb-true, ltb-false, lt-ltb, le-ltb, both_ways, eq-eqb}
use Rattle.std.proofs.lemmas.List.Elements.{filter-append}
use Rattle.std.proofs.lemmas.List.{length-append}
use Rattle.std.specs.Cmp.{nat_cmp_is}
use Rattle.std.specs.Option.{option_map_or}
use Rattle.std.specs.Ordering.{is_eq, nat_cmp}
use Rattle.std.specs.declared.cmp.Ordering.TheVariants.{Less, Equal, Greater}
use Rattle.resource_model.specs.Resource.{ResourceData}
use Rattle.subscription_match.specs.Spending.{count_for, has_left, is_for, is_kept, left_at, left_in, left_now, left_taken, spent}
use Rattle.subscription_match.specs.declared.drafts.DraftParts.{DraftParts}

-- ---- counts

count_more : (n : ℕ) (earlier : List DraftParts) (draft : DraftParts) → count_for n (earlier ++ draft ∷ []) ≡ count_for n earlier + count_for n (draft ∷ [])
count_more n earlier draft =
    ap length (filter-append (is_for n) earlier (draft ∷ [])) ∙ length-append (filter (is_for n) earlier) (filter (is_for n) (draft ∷ []))

pub count_other : (n : ℕ) (earlier : List DraftParts) (draft : DraftParts) → is_for n draft ≡ false → count_for n (earlier ++ draft ∷ []) ≡ count_for n earlier
count_other n earlier draft other =
    let none : count_for n (draft ∷ []) ≡ 0 = rw other refl in
    omega (arith, count_more n earlier draft, none)

pub count_own : (n : ℕ) (earlier : List DraftParts) (draft : DraftParts) → is_for n draft ≡ true → count_for n (earlier ++ draft ∷ []) ≡ count_for n earlier + 1
count_own n earlier draft own =
    let one : count_for n (draft ∷ []) ≡ 1 = rw own refl in
    omega (arith, count_more n earlier draft, one)

-- ---- one taken

pub same_number : (m n : ℕ) → is_eq (nat_cmp m n) ≡ nat_eq m n
same_number m n = elim (cases_Bool (nat_eq m n)) [
  | inl t ↦ ap is_eq (sym (nat_cmp_is m n Equal (eqb-true m n t))) ∙ sym t
  | inr f ↦ elim (cases_Bool (nat_lt m n)) [
    | inl l ↦ ap is_eq (sym (nat_cmp_is m n Less (ltb-true m n l))) ∙ sym f
    | inr g ↦ ap is_eq (sym (nat_cmp_is m n Greater (above m n f (ltb-false m n g)))) ∙ sym f
  ]
]
  where
    above : (m n : ℕ) → nat_eq m n ≡ false → n ≤ m → n < m
    above m n f most = elim (cases_Bool (nat_lt n m)) [
      | inl l ↦ ltb-true n m l
      | inr g ↦ (let other : m ≤ n = ltb-false n m g in let e : m ≡ n = omega arith in absurd (both_ways _ f (eq-eqb m n e)))
    ]

-- where one that counts is lowered by one
pub one_taken : (nodes : List ResourceData) (old new : List (ℕ × ℕ)) (taken left : ℕ) → left_now nodes old taken ≡ Some left → ((q : ℕ) → left_in new q ≡ cond (is_eq (nat_cmp taken q)) (Some (left - 1)) (left_in old q)) → (n : ℕ) → left_in new n ≡ left_taken nodes old taken n
one_taken nodes old new taken left is updates n = elim (cases_Bool (nat_eq taken n)) [
  | inl t ↦
      let there : left_now nodes old n ≡ Some left = subst (λ (x : ℕ). left_now nodes old x ≡ Some left) (eqb-true taken n t) is in
      updates n ∙ rw (same_number taken n ∙ t) (sym (rw (t, there) refl))
  | inr f ↦ updates n ∙ rw (same_number taken n ∙ f) (sym (rw f refl))
]

-- where one that doesn't count is told something
pub none_taken : (nodes : List ResourceData) (rows : List (ℕ × ℕ)) (taken : ℕ) → left_now nodes rows taken ≡ None → (n : ℕ) → left_in rows n ≡ left_taken nodes rows taken n
none_taken nodes rows taken is n = elim (cases_Bool (nat_eq taken n)) [
  | inl t ↦
      let there : left_now nodes rows n ≡ None = subst (λ (x : ℕ). left_now nodes rows x ≡ None) (eqb-true taken n t) is in
      sym (rw (t, there) refl)
  | inr f ↦ sym (rw f refl)
]

-- ---- what stands in the rows says what is left

-- the rows say so after what was told before
abbrev pub Says : List ResourceData → List (ℕ × ℕ) → List DraftParts → Type 0
Says nodes rows earlier = (n : ℕ) → left_in rows n ≡ spent nodes earlier n

-- of one that doesn't count
uncounted : (nodes : List ResourceData) (rows : List (ℕ × ℕ)) (earlier : List DraftParts) (n : ℕ) → Says nodes rows earlier → left_at nodes n ≡ None → left_now nodes rows n ≡ None
uncounted nodes rows earlier n says none =
    let nothing : left_in rows n ≡ None = says n ∙ elim (cases_Bool (count_for n earlier == 0)) [ inl t ↦ rw t refl | inr f ↦ rw (f, none) refl ] in
    rw (nothing, none) refl

-- of one that counts
counted : (nodes : List ResourceData) (rows : List (ℕ × ℕ)) (earlier : List DraftParts) (n left : ℕ) → Says nodes rows earlier → left_at nodes n ≡ Some left → left_now nodes rows n ≡ Some (left - count_for n earlier)
counted nodes rows earlier n left says some = elim (cases_Bool (count_for n earlier == 0)) [
  | inl t ↦
      let nothing : left_in rows n ≡ None = says n ∙ rw t refl in
      let e : count_for n earlier ≡ 0 = eqb-true (count_for n earlier) 0 t in
      let same : left ≡ left - count_for n earlier = omega (arith, e) in
      rw nothing (some ∙ ap Some same)
  | inr f ↦
      let there : left_in rows n ≡ Some (left - count_for n earlier) = says n ∙ rw (f, some) refl in
      rw there refl
]

less_left : (c left : ℕ) → nat_lt 0 (left - c) ≡ nat_lt c left
less_left c left = elim (cases_Bool (nat_lt c left)) [
  | inl t ↦ (let less : c < left = ltb-true c left t in lt-ltb 0 (left - c) (omega arith) ∙ sym t)
  | inr f ↦ (let most : left ≤ c = ltb-false c left f in le-ltb 0 (left - c) (omega arith) ∙ sym f)
]

has_left_now : (nodes : List ResourceData) (rows : List (ℕ × ℕ)) (earlier : List DraftParts) (n : ℕ) (o : Option ℕ) → left_at nodes n ≡ o → Says nodes rows earlier → option_map_or (nat_lt 0) (left_now nodes rows n) true ≡ has_left nodes earlier n
has_left_now nodes rows earlier n None is says = rw (uncounted nodes rows earlier n says is, is) refl
has_left_now nodes rows earlier n (Some left) is says =
    rw (counted nodes rows earlier n left says is, is) (less_left (count_for n earlier) left)

-- a draft is kept where something is left by the rows
pub kept_now : (nodes : List ResourceData) (rows : List (ℕ × ℕ)) (earlier : List DraftParts) (draft : DraftParts) → Says nodes rows earlier → option_map_or (λ n. option_map_or (nat_lt 0) (left_now nodes rows n) true) draft.subscription true ≡ is_kept nodes earlier draft
kept_now nodes rows earlier draft says = kept_for draft.subscription
  where
    kept_for : (o : Option ℕ) → option_map_or (λ n. option_map_or (nat_lt 0) (left_now nodes rows n) true) o true ≡ option_map_or (has_left nodes earlier) o true
    kept_for None = refl
    kept_for (Some n) = has_left_now nodes rows earlier n (left_at nodes n) refl says

-- ---- a draft more

spent_same : (nodes : List ResourceData) (earlier : List DraftParts) (draft : DraftParts) (n : ℕ) → is_for n draft ≡ false → spent nodes (earlier ++ draft ∷ []) n ≡ spent nodes earlier n
spent_same nodes earlier draft n other = rw (count_other n earlier draft other) refl

not_zero : (c : ℕ) → (c + 1 == 0) ≡ false
not_zero c = elim (cases_Bool (c + 1 == 0)) [ inl t ↦ absurd (let e : c + 1 ≡ 0 = eqb-true (c + 1) 0 t in omega arith) | inr f ↦ f ]

spent_more : (nodes : List ResourceData) (earlier : List DraftParts) (draft : DraftParts) (n : ℕ) → is_for n draft ≡ true → spent nodes (earlier ++ draft ∷ []) n ≡ option_map (λ left. left - (count_for n earlier + 1)) (left_at nodes n)
spent_more nodes earlier draft n own = rw (count_own n earlier draft own, not_zero (count_for n earlier)) refl

taken_own : (nodes : List ResourceData) (rows : List (ℕ × ℕ)) (earlier : List DraftParts) (n : ℕ) (o : Option ℕ) → left_at nodes n ≡ o → Says nodes rows earlier → left_taken nodes rows n n ≡ option_map (λ left. left - (count_for n earlier + 1)) (left_at nodes n)
taken_own nodes rows earlier n None is says =
    let none = uncounted nodes rows earlier n says is in
    let nothing : left_in rows n ≡ None = says n ∙ elim (cases_Bool (count_for n earlier == 0)) [ inl t ↦ rw t refl | inr f ↦ rw (f, is) refl ] in
    rw (none, eq-eqb n n refl, is) nothing
taken_own nodes rows earlier n (Some left) is says =
    let lower : (left - count_for n earlier) - 1 ≡ left - (count_for n earlier + 1) = omega arith in
    rw (counted nodes rows earlier n left says is, eq-eqb n n refl, is) (ap Some lower)

-- the rows, from which one was taken, say what is left after the draft too
pub says_after : (nodes : List ResourceData) (rows now : List (ℕ × ℕ)) (earlier : List DraftParts) (draft : DraftParts) → Says nodes rows earlier → ((n : ℕ) → left_in now n ≡ option_map_or (λ m. left_taken nodes rows m n) draft.subscription (left_in rows n)) → Says nodes now (earlier ++ draft ∷ [])
says_after nodes rows now earlier draft says taken n = taken n ∙ after draft.subscription refl
  where
    after : (o : Option ℕ) → draft.subscription ≡ o → option_map_or (λ m. left_taken nodes rows m n) o (left_in rows n) ≡ spent nodes (earlier ++ draft ∷ []) n
    after None is = says n ∙ sym (spent_same nodes earlier draft n (rw is refl))
    after (Some m) is = elim (cases_Bool (nat_eq m n)) [
      | inl t ↦
          let e : m ≡ n = eqb-true m n t in
          let own : is_for n draft ≡ true = rw is t in
          subst (λ (x : ℕ). left_taken nodes rows x n ≡ spent nodes (earlier ++ draft ∷ []) n) (sym e)
          (taken_own nodes rows earlier n (left_at nodes n) refl says ∙ sym (spent_more nodes earlier draft n own))
      | inr f ↦ rw f (says n ∙ sym (spent_same nodes earlier draft n (rw is f)))
    ]

-- nothing is told yet
pub says_nothing : (nodes : List ResourceData) → Says nodes [] []
says_nothing nodes n = refl
