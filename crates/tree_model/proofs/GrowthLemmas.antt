-- What a list keeps that grows at its end.
use Rattle.std.specs.Prelude.{◌==◌, nat_lt}
use Rattle.std.proofs.Common.{◌≡◌, ℕ, ◌<◌, List, [], ◌∷◌, ◌++◌, map, Bool, true, false, cond, not, ◌&&◌, ◌||◌, Some, None, Less, inl, inr, refl, sym, ap, ◌∙◌, subst, arith, append_assoc}
use Rattle.std.proofs.lemmas.Bool.{cases_Bool, and_parts, and_from, and_right, or_cases, or_from, or_left, not-true, not_from_false, eqb-true, eq-eqb, ne_eqb, ltb-true, lt-ltb, both_ways, false_from_ne_true}
use Rattle.std.proofs.Math.Bool.{and-true}
use Rattle.std.proofs.lemmas.List.{append-nil, map-append, reverse-append}
use Rattle.std.proofs.lemmas.List.Elements.{filter-append}
use Rattle.std.proofs.lemmas.Option.{same_Some}
use Rattle.std.specs.List.Sorted.{IsStrictlySortedBy}
use Rattle.std.specs.Ordering.{nat_cmp}
use Rattle.std.specs.List.{AllByRecursion, list_any, filter}
use Rattle.m2m_names.specs.declared.types.Ty.TheVariants.{CseBase}
use Rattle.resource_model.specs.Resource.{ResourceData, is_ty, has_number, ae_id, cse_id}
use Rattle.tree_model.specs.Tree.{at, has, line_from, line_of, stays, without, is_spared, are_below, is_root, is_placed, has_child, has_ae_id, has_cse_id, may_stand, is_taken, fits_in, grows, is_tree, is_well_formed, AreAscending}
use Rattle.m2m_names.proofs.ListLemmas.{filter_agree}
use Rattle.tree_model.proofs.TreeLemmas.{at_has, at_none, at-append, has-append, staying-append}
use Rattle.m2m_names.proofs.LookupLemmas.{option_or-None}

-- ---- growing

and_assoc : (a b c : Bool) → ((a && b) && c) ≡ (a && (b && c))
and_assoc true b c = refl
and_assoc false b c = refl

module _ (may : List ResourceData → ResourceData → Bool) where
  -- after an append
  pub grows-append : (before nodes : List ResourceData) (r : ResourceData) → grows may before (nodes ++ r ∷ []) ≡ (grows may before nodes && may (before ++ nodes) r)
  grows-append before [] r = and-true (may before r) ∙ ap (λ (b : List ResourceData). may b r) (sym (append-nil before))
  grows-append before (s ∷ nodes) r =
      ap (λ b. may before s && b) (grows-append (before ++ s ∷ []) nodes r)
      ∙ sym (and_assoc (may before s) (grows may (before ++ s ∷ []) nodes) (may ((before ++ s ∷ []) ++ nodes) r))
      ∙ ap (λ (b : List ResourceData). (may before s && grows may (before ++ s ∷ []) nodes) && may b r) (append_assoc before (s ∷ []) nodes)

  pub grown : (nodes : List ResourceData) (r : ResourceData) → grows may [] nodes ≡ true → may nodes r ≡ true → grows may [] (nodes ++ r ∷ []) ≡ true
  grown nodes r grew next = grows-append [] nodes r ∙ and_from _ _ grew next

  growth_from : (P : List ResourceData → Type 0) → ((before : List ResourceData) (r : ResourceData) → grows may [] before ≡ true → may before r ≡ true → P before → P (before ++ r ∷ [])) → (before nodes : List ResourceData) → grows may [] before ≡ true → P before → grows may before nodes ≡ true → P (before ++ nodes)
  growth_from P step before [] grew holds grows_on = subst P (sym (append-nil before)) holds
  growth_from P step before (r ∷ nodes) grew holds grows_on =
      let parts = and_parts (may before r) _ grows_on in
      subst P (append_assoc before (r ∷ []) nodes) (growth_from P step (before ++ r ∷ []) nodes (grown before r grew parts.0) (step before r grew parts.0 holds) parts.1)

  -- what holds of no resource, and still after each that may come, holds of the list
  pub growth : (P : List ResourceData → Type 0) → P [] → ((before : List ResourceData) (r : ResourceData) → grows may [] before ≡ true → may before r ≡ true → P before → P (before ++ r ∷ [])) → (nodes : List ResourceData) → grows may [] nodes ≡ true → P nodes
  growth P none step nodes grew = growth_from P step [] nodes refl none grew

grows_weaker : (strong weak : List ResourceData → ResourceData → Bool) → ((before : List ResourceData) (r : ResourceData) → strong before r ≡ true → weak before r ≡ true) → (before nodes : List ResourceData) → grows strong before nodes ≡ true → grows weak before nodes ≡ true
grows_weaker strong weak implies before [] grew = refl
grows_weaker strong weak implies before (r ∷ nodes) grew =
    let parts = and_parts (strong before r) _ grew in
    and_from _ _ (implies before r parts.0) (grows_weaker strong weak implies (before ++ r ∷ []) nodes parts.1)

-- it may come next, and its parent takes its type
pub record FitsIn (nodes : List ResourceData) (r : ResourceData) : Type 0 where
  pub stands : may_stand nodes r ≡ true
  pub taken : is_taken nodes r ≡ true

pub fits_parts : (nodes : List ResourceData) (r : ResourceData) → fits_in nodes r ≡ true → FitsIn nodes r
fits_parts nodes r h =
    let parts = and_parts (may_stand nodes r) (is_taken nodes r) h in
    record { stands = parts.0; taken = parts.1 }

-- a well-formed list is a tree
pub tree_from_well_formed : (nodes : List ResourceData) → is_well_formed nodes ≡ true → is_tree nodes ≡ true
tree_from_well_formed nodes well = grows_weaker fits_in may_stand (λ before r h. (fits_parts before r h).stands) [] nodes well

-- ---- what may come next

pub record IsNext (nodes : List ResourceData) (r : ResourceData) : Type 0 where
  pub number : are_below r.number nodes ≡ true
  pub parent : is_placed nodes r ≡ true
  pub name : has_child r.parent r.name nodes ≡ false
  pub ae : has_ae_id (ae_id r) nodes ≡ false
  pub cse : has_cse_id (cse_id r) nodes ≡ false

pub next_fits : (nodes : List ResourceData) (r : ResourceData) → may_stand nodes r ≡ true → IsNext nodes r
next_fits nodes r h =
    let four = and_parts (are_below r.number nodes && is_placed nodes r && not (has_child r.parent r.name nodes) && not (has_ae_id (ae_id r) nodes)) _ h in
    let three = and_parts (are_below r.number nodes && is_placed nodes r && not (has_child r.parent r.name nodes)) _ four.0 in
    let two = and_parts (are_below r.number nodes && is_placed nodes r) _ three.0 in
    let one = and_parts (are_below r.number nodes) _ two.0 in
    record { number = one.0; parent = one.1; name = not-true _ two.1; ae = not-true _ three.1; cse = not-true _ four.1 }

pub fits_next : (nodes : List ResourceData) (r : ResourceData) → IsNext nodes r → may_stand nodes r ≡ true
fits_next nodes r h =
    and_from _ _ (and_from _ _ (and_from _ _ (and_from _ _ h.number h.parent) (not_from_false _ h.name)) (not_from_false _ h.ae)) (not_from_false _ h.cse)

-- ---- numbers

-- the number of the first, and those of the rest, are below this one
pub record AreBelow (n : ℕ) (r : ResourceData) (more : List ResourceData) : Type 0 where
  pub first : r.number < n
  pub rest : are_below n more ≡ true

pub below_parts : (n : ℕ) (r : ResourceData) (more : List ResourceData) → are_below n (r ∷ more) ≡ true → AreBelow n r more
below_parts n r more below =
    let parts = and_parts (nat_lt r.number n) (are_below n more) below in
    record { first = ltb-true r.number n parts.0; rest = parts.1 }

pub below_has : (n m : ℕ) (nodes : List ResourceData) → are_below n nodes ≡ true → has m nodes ≡ true → m < n
below_has n m [] below there = absurd (both_ways _ refl there)
below_has n m (s ∷ nodes) below there =
    let parts = below_parts n s nodes below in
    elim (or_cases (has_number m s) _ there) [
      | inl here ↦ let same : s.number ≡ m = eqb-true s.number m here in let less : s.number < n = parts.first in omega arith
      | inr later ↦ below_has n m nodes parts.rest later
    ]

pub below_lacks : (n : ℕ) (nodes : List ResourceData) → are_below n nodes ≡ true → has n nodes ≡ false
below_lacks n nodes below = false_from_ne_true _ (λ t. let less : n < n = below_has n n nodes below t in omega arith)

-- the first resource, the CSEBase
pub record IsRoot (nodes : List ResourceData) (r : ResourceData) : Type 0 where
  pub kind : is_ty r.ty CseBase ≡ true
  pub parent : r.parent ≡ 0
  pub number : 0 < r.number
  pub first : nodes ≡ []

pub root_parts : (nodes : List ResourceData) (r : ResourceData) → is_root nodes r ≡ true → IsRoot nodes r
root_parts [] r h =
    let two = and_parts (is_ty r.ty CseBase && (r.parent == 0)) _ h in
    let one = and_parts (is_ty r.ty CseBase) _ two.0 in
    record { kind = one.0; parent = eqb-true r.parent 0 one.1; number = ltb-true 0 r.number two.1; first = refl }
root_parts (s ∷ nodes) r h = absurd (both_ways _ refl h)

-- a parent's number is below its child's
pub next_above_parent : (nodes : List ResourceData) (r : ResourceData) → IsNext nodes r → r.parent < r.number
next_above_parent nodes r h = elim (or_cases (has r.parent nodes) _ h.parent) [
  | inl there ↦ below_has r.number r.parent nodes h.number there
  | inr root ↦ let parts = root_parts nodes r root in let none : r.parent ≡ 0 = parts.parent in let some : 0 < r.number = parts.number in omega arith
]

-- no resource has the number 0
pub zero_lacks : (nodes : List ResourceData) → is_tree nodes ≡ true → has 0 nodes ≡ false
zero_lacks = growth may_stand (λ nodes. has 0 nodes ≡ false) refl (λ before r grew next holds.
    let above : r.parent < r.number = next_above_parent before r (next_fits before r next) in
    has-append 0 before (r ∷ []) ∙ or_from _ _ holds (or_from _ _ (ne_eqb r.number 0 (λ e. omega arith)) refl))

-- ---- numbers in order

all_less : (n : ℕ) (nodes : List ResourceData) → are_below n nodes ≡ true → AllByRecursion (λ m. nat_cmp m n ≡ Less) (map (λ (r : ResourceData). r.number) nodes)
all_less n [] below = tt
all_less n (s ∷ nodes) below =
    let parts = below_parts n s nodes below in
    let less : nat_lt s.number n ≡ true = lt-ltb s.number n parts.first in
    (rw less refl, all_less n nodes parts.rest)

all_pushed : (m n : ℕ) (ks : List ℕ) → AllByRecursion (λ k. nat_cmp m k ≡ Less) ks → nat_cmp m n ≡ Less → AllByRecursion (λ k. nat_cmp m k ≡ Less) (ks ++ n ∷ [])
all_pushed m n [] all last = (last, tt)
all_pushed m n (k ∷ ks) all last = (all.0, all_pushed m n ks all.1 last)

sorted_push : (ms : List ℕ) (n : ℕ) → IsStrictlySortedBy nat_cmp ms → AllByRecursion (λ m. nat_cmp m n ≡ Less) ms → IsStrictlySortedBy nat_cmp (ms ++ n ∷ [])
unfolding IsStrictlySortedBy
sorted_push [] n sorted below = (tt, tt)
sorted_push (m ∷ ms) n sorted below = (all_pushed m n ms sorted.0 below.0, sorted_push ms n sorted.1 below.1)

sorted_nil : IsStrictlySortedBy nat_cmp []
unfolding IsStrictlySortedBy
sorted_nil = tt

pub ascending_from_tree : (nodes : List ResourceData) → is_tree nodes ≡ true → AreAscending nodes
ascending_from_tree = growth may_stand AreAscending sorted_nil (λ before r grew next holds.
    subst (IsStrictlySortedBy nat_cmp) (sym (map-append (λ (s : ResourceData). s.number) before (r ∷ []))) (sorted_push _ r.number holds (all_less r.number before (next_fits before r next).number)))

-- ---- the line of a resource

pub line-append : (n : ℕ) (nodes : List ResourceData) (r : ResourceData) → line_of n (nodes ++ r ∷ []) ≡ cond (has_number n r) (r ∷ line_of r.parent nodes) (line_of n nodes)
line-append n nodes r = ap (line_from n) (reverse-append nodes (r ∷ []))

-- what is known of a resource that stands in a tree
pub record StandsIn (nodes : List ResourceData) (n : ℕ) (r : ResourceData) : Type 0 where
  pub line : line_of n nodes ≡ r ∷ line_of r.parent nodes
  pub above : r.parent < n

stands_new : (before : List ResourceData) (s r : ResourceData) (n : ℕ) → IsNext before s → s.number ≡ n → at n (before ++ s ∷ []) ≡ Some r → StandsIn (before ++ s ∷ []) n r
stands_new before s r n next is found =
    let lacks : at n before ≡ None = at_none n before (ap (λ m. has m before) (sym is) ∙ below_lacks s.number before next.number) in
    let hit : has_number n s ≡ true = eq-eqb s.number n is in
    let value : at n (before ++ s ∷ []) ≡ Some s = at-append n before (s ∷ []) ∙ rw (lacks, hit) refl in
    let same : s ≡ r = same_Some s r (sym value ∙ found) in
    let above : s.parent < s.number = next_above_parent before s next in
    let apart : has_number s.parent s ≡ false = ne_eqb s.number s.parent (λ e. omega arith) in
    let own : line_of n (before ++ s ∷ []) ≡ s ∷ line_of s.parent before = line-append n before s ∙ rw hit refl in
    let up : line_of s.parent (before ++ s ∷ []) ≡ line_of s.parent before = line-append s.parent before s ∙ rw apart refl in
    subst (StandsIn (before ++ s ∷ []) n) same (record {
      line = own ∙ ap (λ rest. s ∷ rest) (sym up);
      above = omega arith;
    })

stands_old : (before : List ResourceData) (s r : ResourceData) (n : ℕ) → IsNext before s → has_number n s ≡ false → at n before ≡ Some r → StandsIn before n r → StandsIn (before ++ s ∷ []) n r
stands_old before s r n next apart found stood =
    let below : n < s.number = below_has s.number n before next.number (at_has n before r found) in
    let above : r.parent < n = stood.above in
    let apart_too : has_number r.parent s ≡ false = ne_eqb s.number r.parent (λ e. omega arith) in
    let own : line_of n (before ++ s ∷ []) ≡ line_of n before = line-append n before s ∙ rw apart refl in
    let up : line_of r.parent (before ++ s ∷ []) ≡ line_of r.parent before = line-append r.parent before s ∙ rw apart_too refl in
    record {
      line = own ∙ stood.line ∙ ap (λ rest. r ∷ rest) (sym up);
      above = above;
    }

pub stands : (nodes : List ResourceData) → is_tree nodes ≡ true → (n : ℕ) (r : ResourceData) → at n nodes ≡ Some r → StandsIn nodes n r
stands = growth may_stand (λ nodes. (n : ℕ) (r : ResourceData) → at n nodes ≡ Some r → StandsIn nodes n r) (λ n r found. cc) (λ before s grew next holds n r found.
    elim (cases_Bool (has_number n s)) [
      | inl t ↦ stands_new before s r n (next_fits before s next) (eqb-true s.number n t) found
      | inr f ↦
          let value : at n (before ++ s ∷ []) ≡ at n before = at-append n before (s ∷ []) ∙ rw f (option_or-None (at n before)) in
          let earlier : at n before ≡ Some r = sym value ∙ found in
          stands_old before s r n (next_fits before s next) f earlier (holds n r earlier)
    ])

-- ---- the reader's words for a removal

-- a filter by number
pub has-filter : (keeps : ℕ → Bool) (n : ℕ) (nodes : List ResourceData) → has n (filter (λ s. keeps s.number) nodes) ≡ (has n nodes && keeps n)
has-filter keeps n [] = refl
has-filter keeps n (s ∷ nodes) = elim (cases_Bool (has_number n s)) [
  | inl t ↦ has_here keeps n s nodes (eqb-true s.number n t) (has-filter keeps n nodes)
  | inr f ↦ elim (cases_Bool (keeps s.number)) [
    | inl u ↦ rw (u, f) (has-filter keeps n nodes)
    | inr v ↦ rw (v, f) (has-filter keeps n nodes)
  ]
]
  where
    has_here : (keeps : ℕ → Bool) (n : ℕ) (s : ResourceData) (nodes : List ResourceData) → s.number ≡ n → has n (filter (λ s. keeps s.number) nodes) ≡ (has n nodes && keeps n) → has n (filter (λ s. keeps s.number) (s ∷ nodes)) ≡ (has n (s ∷ nodes) && keeps n)
    has_here keeps n s nodes is later = elim (cases_Bool (keeps s.number)) [
      | inl u ↦ rw (u, eq-eqb s.number n is) (sym (ap keeps (sym is) ∙ u))
      | inr v ↦
          let none : keeps n ≡ false = ap keeps (sym is) ∙ v in
          rw (v, eq-eqb s.number n is) (later ∙ ap (λ b. has n nodes && b) none ∙ and_right (has n nodes) false refl ∙ sym none)
    ]

pub at-filter : (keeps : ℕ → Bool) (n : ℕ) (nodes : List ResourceData) → at n (filter (λ s. keeps s.number) nodes) ≡ cond (keeps n) (at n nodes) None
at-filter keeps n [] = elim (cases_Bool (keeps n)) [
  | inl t ↦ rw t refl
  | inr f ↦ rw f refl
]
at-filter keeps n (s ∷ nodes) = elim (cases_Bool (has_number n s)) [
  | inl t ↦
      let is : s.number ≡ n = eqb-true s.number n t in
      elim (cases_Bool (keeps s.number)) [
        | inl u ↦ rw (u, t, ap keeps (sym is) ∙ u) refl
        | inr v ↦ rw v (at-filter keeps n nodes ∙ rw (ap keeps (sym is) ∙ v) refl)
      ]
  | inr f ↦ elim (cases_Bool (keeps s.number)) [
    | inl u ↦ rw (u, f) (at-filter keeps n nodes)
    | inr v ↦ rw (v, f) (at-filter keeps n nodes)
  ]
]

not_or : (a b : Bool) → not (a || b) ≡ (not a && not b)
not_or true b = refl
not_or false b = refl

-- whether the parent stayed, by its line
parent_stays : (p : ResourceData → Bool) (before : List ResourceData) (r : ResourceData) → is_tree before ≡ true → IsNext before r → without p before ≡ filter (λ s. is_spared p before s.number) before → ((r.parent == 0) || has r.parent (without p before)) ≡ is_spared p before r.parent
parent_stays p before r grew next law = elim (or_cases (has r.parent before) _ next.parent) [
  | inl there ↦
      let some : (r.parent == 0) ≡ false = ne_eqb r.parent 0 (λ e. both_ways _ (zero_lacks before grew) (ap (λ m. has m before) (sym e) ∙ there)) in
      rw some (ap (has r.parent) law ∙ has-filter (is_spared p before) r.parent before ∙ ap (λ b. b && is_spared p before r.parent) there)
  | inr root ↦
      let parts = root_parts before r root in
      or_left _ _ (eq-eqb r.parent 0 parts.parent) ∙ sym (ap (λ (nodes : List ResourceData). is_spared p nodes r.parent) parts.first)
]

pub spared_new : (p : ResourceData → Bool) (before : List ResourceData) (r : ResourceData) → is_spared p (before ++ r ∷ []) r.number ≡ (not (p r) && is_spared p before r.parent)
spared_new p before r =
    let own : line_of r.number (before ++ r ∷ []) ≡ r ∷ line_of r.parent before = line-append r.number before r ∙ rw (eq-eqb r.number r.number refl) refl in
    ap (λ line. not (list_any p line)) own ∙ not_or (p r) (list_any p (line_of r.parent before))

spared_old : (p : ResourceData → Bool) (before : List ResourceData) (r : ResourceData) (n : ℕ) → n < r.number → is_spared p (before ++ r ∷ []) n ≡ is_spared p before n
spared_old p before r n below =
    let apart : has_number n r ≡ false = ne_eqb r.number n (λ e. omega arith) in
    let own : line_of n (before ++ r ∷ []) ≡ line_of n before = line-append n before r ∙ rw apart refl in
    ap (λ line. not (list_any p line)) own

-- what stays is exactly what has no pick in its line
pub without-spared : (p : ResourceData → Bool) (nodes : List ResourceData) → is_tree nodes ≡ true → without p nodes ≡ filter (λ r. is_spared p nodes r.number) nodes
without-spared p = growth may_stand (λ nodes. without p nodes ≡ filter (λ r. is_spared p nodes r.number) nodes) refl (λ before r grew next law.
    let fact = next_fits before r next in
    let same : stays p (without p before) r ≡ is_spared p (before ++ r ∷ []) r.number =
    ap (λ b. not (p r) && b) (parent_stays p before r grew fact law) ∙ sym (spared_new p before r) in
    staying-append p [] before (r ∷ [])
    ∙ rw same refl
    ∙ ap (λ front. front ++ filter (λ s. is_spared p (before ++ r ∷ []) s.number) (r ∷ [])) (law ∙ sym (filter_agree (λ s. nat_lt s.number r.number) (λ s. is_spared p (before ++ r ∷ []) s.number) (λ s. is_spared p before s.number) (λ s below. spared_old p before r s.number (ltb-true s.number r.number below)) before fact.number))
    ∙ sym (filter-append (λ s. is_spared p (before ++ r ∷ []) s.number) before (r ∷ [])))

-- what comes last stays where nothing in its line is picked
pub stays_spared : (p : ResourceData → Bool) (before : List ResourceData) (r : ResourceData) → is_tree before ≡ true → IsNext before r → stays p (without p before) r ≡ is_spared p (before ++ r ∷ []) r.number
stays_spared p before r tree next =
    ap (λ b. not (p r) && b) (parent_stays p before r tree next (without-spared p before tree)) ∙ sym (spared_new p before r)

-- what is at a number after a removal
pub at-without : (p : ResourceData → Bool) (n : ℕ) (nodes : List ResourceData) → is_tree nodes ≡ true → at n (without p nodes) ≡ cond (is_spared p nodes n) (at n nodes) None
at-without p n nodes tree = ap (at n) (without-spared p nodes tree) ∙ at-filter (is_spared p nodes) n nodes

pub has-without : (p : ResourceData → Bool) (n : ℕ) (nodes : List ResourceData) → is_tree nodes ≡ true → has n (without p nodes) ≡ (has n nodes && is_spared p nodes n)
has-without p n nodes tree = ap (has n) (without-spared p nodes tree) ∙ has-filter (is_spared p nodes) n nodes
