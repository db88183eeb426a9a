-- What a number has, and what stands there once a resource was put last, changed or taken out.
use Rattle.std.specs.Prelude.{nat_le, nat_lt, nat_eq, filter_map}
use Rattle.std.proofs.Common.{◌≡◌, ◌⊎◌, ℕ, zero, suc, ◌+◌, ◌-◌, ◌<◌, ◌≤◌, List, [], ◌∷◌, ◌++◌, length, take, drop, get_or, Bool, true, false, cond, not, Option, Some, None, option_map, is_some, inl, inr, refl, sym, ap, ◌∙◌, subst, arith}
use Rattle.std.proofs.lemmas.Bool.{cases_Bool, and_parts, or_left, or_right, eqb-true, eq-eqb, ne_eqb, both_ways, ltb-true, or_cases, leb-true, leb-false, lt-ltb, le-ltb}
use Rattle.std.proofs.lemmas.List.{append-nil, length-append}
use Rattle.std.proofs.lemmas.List.Elements.{filter_map-append}
use Rattle.std.proofs.lemmas.List.Folds.{list_any-append}
use Rattle.std.proofs.lemmas.List.Kept.{IsStrictlySortedBy-filter}
use Rattle.std.proofs.lemmas.Option.{same_Some}
use Rattle.std.specs.List.{AllByRecursion, filter, list_all, list_any, slice_get}
use Rattle.std.specs.List.Sorted.{IsPartitionPoint, IsStrictlySortedBy}
use Rattle.std.specs.Option.{option_map_or}
use Rattle.std.specs.Ordering.{nat_cmp}
use Rattle.std.specs.declared.cmp.Ordering.TheVariants.{Less}
use Rattle.resource_model.specs.Resource.{ResourceData, has_number}
use Rattle.tree_model.specs.Tree.{are_below, at, children_of, has, is_tree, next_after, recounted, recounted_at, replaced, restamped, restamped_at, without, DoAscend}
use Rattle.tree_model.proofs.GrowthLemmas.{IsNext, below_lacks}
use Rattle.tree_model.proofs.KeptLemmas.{is_tree-append, is_tree-without}
use Rattle.tree_model.proofs.TreeLemmas.{at_none, replaced_missing}
use Rattle.tree_model.proofs.NumberLemmas.{less_is}
use Rattle.resource_store.proofs.LeafLemmas.{leaf_without}
use Rattle.resource_store.specs.KinRows.{row_of}
use Rattle.resource_store.specs.declared.kin_row.KinRow.{KinRow}
use Rattle.resource_store.specs.Store.{resources_of, HoldsTree, IsStore, KeepsPresent}

some_none : (r : ResourceData) → None ≡ Some r → ⊥
some_none r e = cc

equal_back : (m n : ℕ) → nat_eq m n ≡ false → nat_eq n m ≡ false
equal_back m n apart = ne_eqb n m (λ e. both_ways _ apart (eq-eqb m n (sym e)))

-- ---- one list of numbers

-- each has the same in both tables
pub filter_map_same : {X : Type 0} (f g : ℕ → Option X) (order : List ℕ) → ((q : ℕ) → list_any (nat_eq q) order ≡ true → f q ≡ g q) → filter_map f order ≡ filter_map g order
filter_map_same f g [] same = refl
filter_map_same f g (q ∷ order) same =
    let here : f q ≡ g q = same q (or_left _ _ (eq-eqb q q refl)) in
    let later = filter_map_same f g order (λ p there. same p (or_right _ _ there)) in
    rw (here, later) refl

pub filter_map_length : {X : Type 0} (f : ℕ → Option X) (xs : List ℕ) → length (filter_map f xs) ≤ length xs
filter_map_length f [] = omega arith
filter_map_length {X = X} f (x ∷ xs) = by (f x) refl (filter_map_length f xs)
  where
    by : (o : Option X) → f x ≡ o → length (filter_map f xs) ≤ length xs → length (filter_map f (x ∷ xs)) ≤ length (x ∷ xs)
    by None is rest = rw is (omega arith)
    by (Some v) is rest = rw is (omega arith)

-- where numbers ascend, the first is none of the rest
first_apart : (q : ℕ) (order : List ℕ) → DoAscend (q ∷ order) → list_any (nat_eq q) order ≡ false
unfolding IsStrictlySortedBy
first_apart q order sorted = by order sorted.0
  where
    by : (rest : List ℕ) → AllByRecursion (λ k. nat_cmp q k ≡ Less) rest → list_any (nat_eq q) rest ≡ false
    by [] all = refl
    by (k ∷ rest) all =
        let apart : nat_eq q k ≡ false = ne_eqb q k (λ e. (let less : q < k = less_is q k all.0 in omega arith)) in
        rw apart (by rest all.1)

-- none but the one is the one
others : (n p : ℕ) (order : List ℕ) → list_any (nat_eq n) order ≡ false → list_any (nat_eq p) order ≡ true → nat_eq n p ≡ false
others n p order free there = ne_eqb n p (λ e. both_ways _ (ap (λ k. list_any (nat_eq k) order) (sym e) ∙ free) there)

rest_ascend : (q : ℕ) (order : List ℕ) → DoAscend (q ∷ order) → DoAscend order
unfolding IsStrictlySortedBy
rest_ascend q order sorted = sorted.1

-- ---- what a number has

module _ (m : ℕ → Option ResourceData) (n : ℕ) (numbered : (q : ℕ) (r : ResourceData) → m q ≡ Some r → r.number ≡ q) where
  none_at : (order : List ℕ) → m n ≡ None → at n (resources_of order m) ≡ None
  none_at [] none = refl
  none_at (q ∷ order) none = by (m q) refl (none_at order none)
    where
      by : (o : Option ResourceData) → m q ≡ o → at n (resources_of order m) ≡ None → at n (resources_of (q ∷ order) m) ≡ None
      by None is rest = rw is rest
      by (Some r) is rest =
          let apart : has_number n r ≡ false = ne_eqb r.number n (λ e. some_none r (sym none ∙ ap m (sym e ∙ numbered q r is) ∙ is)) in
          rw (is, apart) rest

  some_at : (s : ResourceData) (order : List ℕ) → m n ≡ Some s → list_any (nat_eq n) order ≡ true → at n (resources_of order m) ≡ Some s
  some_at s [] some listed = absurd (both_ways _ refl listed)
  some_at s (q ∷ order) some listed = elim (cases_Bool (nat_eq n q)) [
    | inl t ↦
        let found : m q ≡ Some s = ap m (sym (eqb-true n q t)) ∙ some in
        let here : has_number n s ≡ true = eq-eqb s.number n (numbered n s some) in
        rw (found, here) refl
    | inr f ↦ by (m q) refl f (some_at s order some (rw f at listed))
  ]
    where
      by : (o : Option ResourceData) → m q ≡ o → nat_eq n q ≡ false → at n (resources_of order m) ≡ Some s → at n (resources_of (q ∷ order) m) ≡ Some s
      by None is f rest = rw is rest
      by (Some r) is f rest =
          let apart : has_number n r ≡ false = ne_eqb r.number n (λ e. both_ways _ f (eq-eqb n q (sym e ∙ numbered q r is))) in
          rw (is, apart) rest

  -- what a number has stands at it
  pub found_at : (order : List ℕ) → ((q : ℕ) (r : ResourceData) → m q ≡ Some r → list_any (nat_eq q) order ≡ true) → at n (resources_of order m) ≡ m n
  found_at order listed = by (m n) refl
    where
      by : (o : Option ResourceData) → m n ≡ o → at n (resources_of order m) ≡ m n
      by None is = none_at order is ∙ sym is
      by (Some r) is = some_at r order is (listed n r is) ∙ sym is

  -- those behind a number are what the greater numbers have
  pub after_at : (order : List ℕ) → slice_get (resources_of (filter (nat_lt n) order) m) 0 ≡ next_after n (resources_of order m)
  after_at [] = refl
  after_at (q ∷ order) = by (m q) refl (cases_Bool (nat_lt n q)) (after_at order)
    where
      by : (o : Option ResourceData) → m q ≡ o → (nat_lt n q ≡ true) ⊎ (nat_lt n q ≡ false) → slice_get (resources_of (filter (nat_lt n) order) m) 0 ≡ next_after n (resources_of order m) → slice_get (resources_of (filter (nat_lt n) (q ∷ order)) m) 0 ≡ next_after n (resources_of (q ∷ order) m)
      by None is (inl t) rest = rw (t, is) rest
      by None is (inr f) rest = rw (f, is) rest
      by (Some r) is (inl t) rest =
          let later : nat_lt n r.number ≡ true = ap (nat_lt n) (numbered q r is) ∙ t in
          rw (t, is, later) refl
      by (Some r) is (inr f) rest =
          let later : nat_lt n r.number ≡ false = ap (nat_lt n) (numbered q r is) ∙ f in
          rw (f, is, later) rest

-- whether it is there
pub has_found : (n : ℕ) (nodes : List ResourceData) (o : Option ResourceData) → at n nodes ≡ o → is_some o ≡ has n nodes
has_found n [] o is = ap is_some (sym is)
has_found n (s ∷ nodes) o is = elim (cases_Bool (has_number n s)) [
  | inl t ↦ rw t (ap is_some (sym (rw t at is)))
  | inr f ↦ rw f (has_found n nodes o (rw f at is))
]

-- ---- one is taken out

module _ (m left : ℕ → Option ResourceData) (n : ℕ) (numbered : (q : ℕ) (r : ResourceData) → m q ≡ Some r → r.number ≡ q) (updates : (q : ℕ) → left q ≡ cond (nat_eq n q) None (m q)) where
  gone_at : (q : ℕ) → nat_eq n q ≡ true → left q ≡ None
  gone_at q t = updates q ∙ ap (λ b. cond b None (m q)) t

  kept_at : (q : ℕ) → nat_eq n q ≡ false → left q ≡ m q
  kept_at q f = updates q ∙ ap (λ b. cond b None (m q)) f

  pub taken_out : (order : List ℕ) → resources_of order left ≡ filter (λ r. not (has_number n r)) (resources_of order m)
  taken_out [] = refl
  taken_out (q ∷ order) = by (m q) refl (cases_Bool (nat_eq n q)) (taken_out order)
    where
      by : (o : Option ResourceData) → m q ≡ o → (nat_eq n q ≡ true) ⊎ (nat_eq n q ≡ false) → resources_of order left ≡ filter (λ r. not (has_number n r)) (resources_of order m) → resources_of (q ∷ order) left ≡ filter (λ r. not (has_number n r)) (resources_of (q ∷ order) m)
      by None is (inl t) rest = rw (gone_at q t, is) rest
      by None is (inr f) rest = rw (kept_at q f ∙ is, is) rest
      by (Some r) is (inl t) rest =
          let here : has_number n r ≡ true = eq-eqb r.number n (numbered q r is ∙ sym (eqb-true n q t)) in
          rw (gone_at q t, is, here) rest
      by (Some r) is (inr f) rest =
          let apart : has_number n r ≡ false = ne_eqb r.number n (λ e. both_ways _ f (eq-eqb n q (sym e ∙ numbered q r is))) in
          rw (kept_at q f ∙ is, is, apart) (ap (λ rs. r ∷ rs) rest)

  pub numbered_left : (q : ℕ) (r : ResourceData) → left q ≡ Some r → m q ≡ Some r
  numbered_left q r is = elim (cases_Bool (nat_eq n q)) [
    | inl t ↦ absurd (some_none r (sym (gone_at q t) ∙ is))
    | inr f ↦ sym (kept_at q f) ∙ is
  ]

  pub one_less : (s : ResourceData) (order : List ℕ) → DoAscend order → m n ≡ Some s → list_any (nat_eq n) order ≡ true → length (resources_of order m) ≡ suc (length (resources_of order left))
  one_less s [] sorted some listed = absurd (both_ways _ refl listed)
  one_less s (q ∷ order) sorted some listed = elim (cases_Bool (nat_eq n q)) [
    | inl t ↦
        let found : m q ≡ Some s = ap m (sym (eqb-true n q t)) ∙ some in
        let free : list_any (nat_eq n) order ≡ false = ap (λ k. list_any (nat_eq k) order) (eqb-true n q t) ∙ first_apart q order sorted in
        let rest : resources_of order m ≡ resources_of order left = filter_map_same m left order (λ p there. sym (kept_at p (others n p order free there))) in
        rw (found, gone_at q t) (ap (λ rs. suc (length rs)) rest)
    | inr f ↦ by (m q) refl f (one_less s order (rest_ascend q order sorted) some (rw f at listed))
  ]
    where
      by : (o : Option ResourceData) → m q ≡ o → nat_eq n q ≡ false → length (resources_of order m) ≡ suc (length (resources_of order left)) → length (resources_of (q ∷ order) m) ≡ suc (length (resources_of (q ∷ order) left))
      by None is f rest = rw (is, kept_at q f ∙ is) rest
      by (Some r) is f rest = rw (is, kept_at q f ∙ is) (ap suc rest)

pub count_left : (m left : ℕ → Option ResourceData) (order : List ℕ) (count n : ℕ) (r : ResourceData) → IsStore order m count → ((q : ℕ) → left q ≡ cond (nat_eq n q) None (m q)) → m n ≡ Some r → count ≡ suc (length (resources_of order left))
count_left m left order count n r is updates some = is.counted ∙ one_less m left n is.numbered updates r order is.ascends some (is.listed n r some)

pub store_left : (m left : ℕ → Option ResourceData) (order after : List ℕ) (count n now : ℕ) (r : ResourceData) → IsStore order m count → ((q : ℕ) → left q ≡ cond (nat_eq n q) None (m q)) → m n ≡ Some r → now + 1 ≡ count → KeepsPresent left order after → IsStore after left now
store_left m left order after count n now r is updates some less keeps = record {
  ascends = keeps.ascends is.ascends;
  numbered = λ q s there. is.numbered q s (numbered_left m left n is.numbered updates q s there);
  listed = λ q s there. keeps.listed q s there (is.listed q s (numbered_left m left n is.numbered updates q s there));
  counted = (let same : length (resources_of after left) ≡ length (resources_of order left) = ap length keeps.kept in omega (arith, less, same, count_left m left order count n r is updates some));
}

-- ---- one is written over

module _ (m now : ℕ → Option ResourceData) (n : ℕ) (new : ResourceData → ResourceData) (numbered : (q : ℕ) (r : ResourceData) → m q ≡ Some r → r.number ≡ q) (still : (r : ResourceData) → r.number ≡ n → (new r).number ≡ n) (updates : (q : ℕ) → now q ≡ option_map (λ r. cond (nat_eq n q) (new r) r) (m q)) where
  as_before : (q : ℕ) → nat_eq n q ≡ false → now q ≡ m q
  as_before q f = updates q ∙ by (m q)
    where
      by : (o : Option ResourceData) → option_map (λ r. cond (nat_eq n q) (new r) r) o ≡ o
      by None = refl
      by (Some r) = rw f refl

  not_there : (q : ℕ) → m q ≡ None → now q ≡ m q
  not_there q none = updates q ∙ ap (option_map (λ r. cond (nat_eq n q) (new r) r)) none ∙ sym none

  new_at : (q : ℕ) (r : ResourceData) → nat_eq n q ≡ true → m q ≡ Some r → now q ≡ Some (new r)
  new_at q r t some = updates q ∙ ap (option_map (λ s. cond (nat_eq n q) (new s) s)) some ∙ ap (λ b. Some (cond b (new r) r)) t

  written_over : (s : ResourceData) (order : List ℕ) → DoAscend order → m n ≡ Some s → resources_of order now ≡ replaced (new s) (resources_of order m)
  written_over s [] sorted some = refl
  written_over s (q ∷ order) sorted some = elim (cases_Bool (nat_eq n q)) [
    | inl t ↦
        let found : m q ≡ Some s = ap m (sym (eqb-true n q t)) ∙ some in
        let free : list_any (nat_eq n) order ≡ false = ap (λ k. list_any (nat_eq k) order) (eqb-true n q t) ∙ first_apart q order sorted in
        let rest : resources_of order now ≡ resources_of order m = filter_map_same now m order (λ p there. as_before p (others n p order free there)) in
        let here : has_number (new s).number s ≡ true = eq-eqb s.number (new s).number (numbered n s some ∙ sym (still s (numbered n s some))) in
        rw (found, new_at q s t found, here) (ap (λ rs. new s ∷ rs) rest)
    | inr f ↦ by (m q) refl f (written_over s order (rest_ascend q order sorted) some)
  ]
    where
      by : (o : Option ResourceData) → m q ≡ o → nat_eq n q ≡ false → resources_of order now ≡ replaced (new s) (resources_of order m) → resources_of (q ∷ order) now ≡ replaced (new s) (resources_of (q ∷ order) m)
      by None is f rest = rw (is, as_before q f ∙ is) rest
      by (Some r) is f rest =
          let apart : has_number (new s).number r ≡ false = ne_eqb r.number (new s).number (λ e. both_ways _ f (eq-eqb n q (sym (still s (numbered n s some)) ∙ sym e ∙ numbered q r is))) in
          rw (is, as_before q f ∙ is, apart) (ap (λ rs. r ∷ rs) rest)

  unwritten : (order : List ℕ) → m n ≡ None → resources_of order now ≡ resources_of order m
  unwritten order none = filter_map_same now m order (λ q there. elim (cases_Bool (nat_eq n q)) [
    | inl t ↦ not_there q (ap m (sym (eqb-true n q t)) ∙ none)
    | inr f ↦ as_before q f
  ])

  pub written : (order : List ℕ) → DoAscend order → resources_of order now ≡ option_map_or (λ r. replaced (new r) (resources_of order m)) (m n) (resources_of order m)
  written order sorted = by (m n) refl
    where
      by : (o : Option ResourceData) → m n ≡ o → resources_of order now ≡ option_map_or (λ r. replaced (new r) (resources_of order m)) (m n) (resources_of order m)
      by None is = rw is (unwritten order is)
      by (Some s) is = rw is (written_over s order sorted is)

  was_there : (q : ℕ) (r : ResourceData) → now q ≡ Some r → (s : ResourceData) × (m q ≡ Some s) × (r.number ≡ q)
  was_there q r is = by (m q) refl
    where
      by : (o : Option ResourceData) → m q ≡ o → (s : ResourceData) × (m q ≡ Some s) × (r.number ≡ q)
      by None none = absurd (some_none r (sym (not_there q none ∙ none) ∙ is))
      by (Some s) some = elim (cases_Bool (nat_eq n q)) [
        | inl t ↦
            let same : new s ≡ r = same_Some (new s) r (sym (new_at q s t some) ∙ is) in
            (s, some, ap (λ (x : ResourceData). x.number) (sym same) ∙ still s (numbered q s some ∙ sym (eqb-true n q t)) ∙ eqb-true n q t)
        | inr f ↦
            let same : s ≡ r = same_Some s r (sym (as_before q f ∙ some) ∙ is) in
            (s, some, ap (λ (x : ResourceData). x.number) (sym same) ∙ numbered q s some)
      ]

  same_length : (order : List ℕ) → length (resources_of order now) ≡ length (resources_of order m)
  same_length [] = refl
  same_length (q ∷ order) = by (m q) refl (same_length order)
    where
      by : (o : Option ResourceData) → m q ≡ o → length (resources_of order now) ≡ length (resources_of order m) → length (resources_of (q ∷ order) now) ≡ length (resources_of (q ∷ order) m)
      by None none rest = rw (not_there q none ∙ none, none) rest
      by (Some s) some rest = elim (cases_Bool (nat_eq n q)) [
        | inl t ↦ rw (new_at q s t some, some) (ap suc rest)
        | inr f ↦ rw (as_before q f ∙ some, some) (ap suc rest)
      ]

  pub store_written : (order : List ℕ) (count : ℕ) → IsStore order m count → IsStore order now count
  store_written order count is = record {
    ascends = is.ascends;
    numbered = λ q r there. (was_there q r there).2;
    listed = λ q r there. is.listed q (was_there q r there).0 (was_there q r there).1;
    counted = is.counted ∙ sym (same_length order);
  }

-- a resource that takes the place of another, or none
pub put_over : (r : ResourceData) (nodes : List ResourceData) → option_map_or (λ s. replaced r nodes) (at r.number nodes) nodes ≡ replaced r nodes
put_over r nodes = by (at r.number nodes) refl
  where
    by : (o : Option ResourceData) → at r.number nodes ≡ o → option_map_or (λ s. replaced r nodes) o nodes ≡ replaced r nodes
    by None none = sym (replaced_missing r nodes none)
    by (Some s) some = refl

-- ---- one is put last

passes : (P : ResourceData → Bool) (m : ℕ → Option ResourceData) (q : ℕ) (r : ResourceData) (order : List ℕ) → list_all P (resources_of order m) ≡ true → m q ≡ Some r → list_any (nat_eq q) order ≡ true → P r ≡ true
passes P m q r [] all some listed = absurd (both_ways _ refl listed)
passes P m q r (k ∷ order) all some listed = elim (cases_Bool (nat_eq q k)) [
  | inl t ↦
      let found : m k ≡ Some r = ap m (sym (eqb-true q k t)) ∙ some in
      (and_parts (P r) (list_all P (resources_of order m)) (rw found at all)).0
  | inr f ↦ by (m k) refl (λ rest. passes P m q r order rest some (rw f at listed))
]
  where
    by : (o : Option ResourceData) → m k ≡ o → (list_all P (resources_of order m) ≡ true → P r ≡ true) → P r ≡ true
    by None is later = later (rw is at all)
    by (Some s) is later = later (and_parts (P s) (list_all P (resources_of order m)) (rw is at all)).1

module _ (m now : ℕ → Option ResourceData) (r : ResourceData) (numbered : (q : ℕ) (s : ResourceData) → m q ≡ Some s → s.number ≡ q) (updates : (q : ℕ) → now q ≡ cond (nat_eq r.number q) (Some r) (m q)) where
  r_at : now r.number ≡ Some r
  r_at = updates r.number ∙ ap (λ b. cond b (Some r) (m r.number)) (eq-eqb r.number r.number refl)

  other_at : (q : ℕ) → nat_eq r.number q ≡ false → now q ≡ m q
  other_at q f = updates q ∙ ap (λ b. cond b (Some r) (m q)) f

  apart_below : (q : ℕ) → nat_lt q r.number ≡ true → nat_eq r.number q ≡ false
  apart_below q t = ne_eqb r.number q (λ e. (let less : q < r.number = ltb-true q r.number t in omega arith))

  lower_kept : (order : List ℕ) → are_below r.number (resources_of order m) ≡ true → resources_of (filter (λ q. nat_lt q r.number) order) now ≡ resources_of order m
  lower_kept [] below = refl
  lower_kept (q ∷ order) below = by (m q) refl (cases_Bool (nat_lt q r.number)) (lower_kept order)
    where
      by : (o : Option ResourceData) → m q ≡ o → (nat_lt q r.number ≡ true) ⊎ (nat_lt q r.number ≡ false) → (are_below r.number (resources_of order m) ≡ true → resources_of (filter (λ p. nat_lt p r.number) order) now ≡ resources_of order m) → resources_of (filter (λ p. nat_lt p r.number) (q ∷ order)) now ≡ resources_of (q ∷ order) m
      by None is (inl t) rest = rw (t, other_at q (apart_below q t) ∙ is, is) (rest (rw is at below))
      by None is (inr f) rest = rw (f, is) (rest (rw is at below))
      by (Some s) is (inl t) rest =
          let parts = and_parts (nat_lt s.number r.number) (are_below r.number (resources_of order m)) (rw is at below) in
          rw (t, other_at q (apart_below q t) ∙ is, is) (ap (λ rs. s ∷ rs) (rest parts.1))
      by (Some s) is (inr f) rest =
          let parts = and_parts (nat_lt s.number r.number) (are_below r.number (resources_of order m)) (rw is at below) in
          absurd (both_ways _ f (ap (λ k. nat_lt k r.number) (sym (numbered q s is)) ∙ parts.0))

  pub put_behind : (order : List ℕ) → are_below r.number (resources_of order m) ≡ true → resources_of (filter (λ q. nat_lt q r.number) order ++ r.number ∷ []) now ≡ resources_of order m ++ r ∷ []
  put_behind order below =
      let last : resources_of (r.number ∷ []) now ≡ r ∷ [] = rw r_at refl in
      filter_map-append now (filter (λ q. nat_lt q r.number) order) (r.number ∷ [])
      ∙ ap (λ rs. rs ++ resources_of (r.number ∷ []) now) (lower_kept order below)
      ∙ ap (λ rs. resources_of order m ++ rs) last

all_less : (n : ℕ) (order : List ℕ) → AllByRecursion (λ k. nat_cmp k n ≡ Less) (filter (λ q. nat_lt q n) order)
all_less n [] = tt
all_less n (q ∷ order) = elim (cases_Bool (nat_lt q n)) [
  | inl t ↦ rw t (rw t refl, all_less n order)
  | inr f ↦ rw f (all_less n order)
]

all_pushed : (m n : ℕ) (ks : List ℕ) → AllByRecursion (λ k. nat_cmp m k ≡ Less) ks → nat_cmp m n ≡ Less → AllByRecursion (λ k. nat_cmp m k ≡ Less) (ks ++ n ∷ [])
all_pushed m n [] all last = (last, tt)
all_pushed m n (k ∷ ks) all last = (all.0, all_pushed m n ks all.1 last)

ascend_push : (ms : List ℕ) (n : ℕ) → DoAscend ms → AllByRecursion (λ m. nat_cmp m n ≡ Less) ms → DoAscend (ms ++ n ∷ [])
unfolding IsStrictlySortedBy
ascend_push [] n sorted below = (tt, tt)
ascend_push (m ∷ ms) n sorted below = (all_pushed m n ms sorted.0 below.0, ascend_push ms n sorted.1 below.1)

any_filter : (p : ℕ → Bool) (n : ℕ) (order : List ℕ) → p n ≡ true → list_any (nat_eq n) order ≡ true → list_any (nat_eq n) (filter p order) ≡ true
any_filter p n [] passes there = there
any_filter p n (q ∷ order) passes there = elim (cases_Bool (nat_eq n q)) [
  | inl t ↦
      let here : p q ≡ true = ap p (sym (eqb-true n q t)) ∙ passes in
      rw here (or_left _ _ t)
  | inr f ↦ elim (cases_Bool (p q)) [
    | inl t ↦ rw t (or_right _ _ (any_filter p n order passes (rw f at there)))
    | inr g ↦ rw g (any_filter p n order passes (rw f at there))
  ]
]

pub store_put : (m now : ℕ → Option ResourceData) (r : ResourceData) (order : List ℕ) (count : ℕ) → IsStore order m count → ((q : ℕ) → now q ≡ cond (nat_eq r.number q) (Some r) (m q)) → are_below r.number (resources_of order m) ≡ true → IsStore (filter (λ q. nat_lt q r.number) order ++ r.number ∷ []) now (count + 1)
store_put m now r order count is updates below = record {
  ascends = ascend_push (filter (λ q. nat_lt q r.number) order) r.number (IsStrictlySortedBy-filter nat_cmp (λ q. nat_lt q r.number) order is.ascends) (all_less r.number order);
  numbered = λ q s there. elim (cases_Bool (nat_eq r.number q)) [
    | inl t ↦
        let same : r ≡ s = same_Some r s (sym (updates q ∙ ap (λ b. cond b (Some r) (m q)) t) ∙ there) in
        ap (λ (x : ResourceData). x.number) (sym same) ∙ eqb-true r.number q t
    | inr f ↦ is.numbered q s (sym (other_at m now r is.numbered updates q f) ∙ there)
  ];
  listed = λ q s there. list_any-append (nat_eq q) (filter (λ p. nat_lt p r.number) order) (r.number ∷ []) ∙ elim (cases_Bool (nat_eq r.number q)) [
    | inl t ↦ or_right _ _ (or_left _ _ (eq-eqb q r.number (sym (eqb-true r.number q t))))
    | inr f ↦
        let before : m q ≡ Some s = sym (other_at m now r is.numbered updates q f) ∙ there in
        let low : nat_lt q r.number ≡ true = ap (λ k. nat_lt k r.number) (sym (is.numbered q s before)) ∙ passes (λ x. nat_lt x.number r.number) m q s order below before (is.listed q s before) in
        or_left _ _ (any_filter (λ p. nat_lt p r.number) q order low (is.listed q s before))
  ];
  counted = (let more : length (resources_of order m ++ r ∷ []) ≡ length (resources_of order m) + 1 = length-append (resources_of order m) (r ∷ []) in let counted = is.counted in omega (arith, counted, more, ap length (put_behind m now r is.numbered updates order below)));
}

-- ---- gaps go

module _ (m : ℕ → Option ResourceData) where
  pub all_present : (order : List ℕ) → KeepsPresent m order (filter (λ q. is_some (m q)) order)
  all_present order = record {
    kept = by order;
    ascends = IsStrictlySortedBy-filter nat_cmp (λ q. is_some (m q)) order;
    listed = λ n r some there. any_filter (λ q. is_some (m q)) n order (ap is_some some) there;
  }
    where
      by : (ns : List ℕ) → resources_of (filter (λ q. is_some (m q)) ns) m ≡ resources_of ns m
      by [] = refl
      by (q ∷ ns) = at_first (m q) refl (by ns)
        where
          at_first : (o : Option ResourceData) → m q ≡ o → resources_of (filter (λ p. is_some (m p)) ns) m ≡ resources_of ns m → resources_of (filter (λ p. is_some (m p)) (q ∷ ns)) m ≡ resources_of (q ∷ ns) m
          at_first None is rest = rw is rest
          at_first (Some s) is rest = rw (is, is) (ap (λ rs. s ∷ rs) rest)

  pub keeps_all : (order : List ℕ) → KeepsPresent m order order
  keeps_all order = record { kept = refl; ascends = λ sorted. sorted; listed = λ n r some there. there }

  pub keeps_both : (before between after : List ℕ) → KeepsPresent m before between → KeepsPresent m between after → KeepsPresent m before after
  keeps_both before between after first second = record {
    kept = second.kept ∙ first.kept;
    ascends = λ sorted. second.ascends (first.ascends sorted);
    listed = λ n r some there. second.listed n r some (first.listed n r some there);
  }

  front_ascends : (front : List ℕ) (q : ℕ) → DoAscend (front ++ q ∷ []) → DoAscend front
  unfolding IsStrictlySortedBy
  front_ascends [] q sorted = tt
  front_ascends (k ∷ front) q sorted = (front_all front sorted.0, front_ascends front q sorted.1)
    where
      front_all : (ks : List ℕ) → AllByRecursion (λ p. nat_cmp k p ≡ Less) (ks ++ q ∷ []) → AllByRecursion (λ p. nat_cmp k p ≡ Less) ks
      front_all [] all = tt
      front_all (p ∷ ks) all = (all.0, front_all ks all.1)

  -- the last number, whose resource has gone
  pub last_gone : (order front : List ℕ) (q : ℕ) → order ≡ front ++ q ∷ [] → m q ≡ None → KeepsPresent m order front
  last_gone order front q whole none = record {
    kept = (let nothing : resources_of (q ∷ []) m ≡ [] = rw none refl in
        sym (ap (λ ns. resources_of ns m) whole ∙ filter_map-append m front (q ∷ []) ∙ ap (λ rs. resources_of front m ++ rs) nothing ∙ append-nil (resources_of front m)));
    ascends = λ sorted. front_ascends front q (subst DoAscend whole sorted);
    listed = λ n r some there. elim (or_cases (list_any (nat_eq n) front) _ (sym (ap (list_any (nat_eq n)) whole ∙ list_any-append (nat_eq n) front (q ∷ [])) ∙ there)) [
      | inl early ↦ early
      | inr last ↦ elim (or_cases (nat_eq n q) false last) [
        | inl here ↦ absurd (some_none r (sym none ∙ ap m (sym (eqb-true n q here)) ∙ some))
        | inr never ↦ absurd (both_ways _ refl never)
      ]
    ];
  }

-- ---- by halving

behind_from : (n : ℕ) (order : List ℕ) (i : ℕ) → ((k d : ℕ) → k < i → nat_le (get_or order k d) n ≡ true) → ((k d : ℕ) → i ≤ k → k < length order → nat_le (get_or order k d) n ≡ false) → i ≤ length order → drop i order ≡ filter (nat_lt n) order
behind_from n [] zero until behind within = refl
behind_from n [] (suc i) until behind within = absurd (omega arith)
behind_from n (q ∷ order) zero until behind within =
    let later : nat_lt n q ≡ true = lt-ltb n q (leb-false q n (behind 0 q (omega arith) (omega arith))) in
    rw later (ap (λ qs. q ∷ qs) (behind_from n order zero (λ k d low. absurd (omega arith)) (λ k d least inside. behind (suc k) d (omega arith) (omega arith)) (omega arith)))
behind_from n (q ∷ order) (suc i) until behind within =
    let low : q ≤ n = leb-true q n (until 0 q (omega arith)) in
    let earlier : nat_lt n q ≡ false = le-ltb n q low in
    rw earlier (behind_from n order i (λ k d less. until (suc k) d (omega arith)) (λ k d least inside. behind (suc k) d (omega arith) (omega arith)) (omega arith))

pub behind_place : (n : ℕ) (order : List ℕ) (i : ℕ) → i ≤ length order → IsPartitionPoint (λ (m : ℕ). nat_le m n ≡ true) (λ m. nat_le m n ≡ false) order i → drop i order ≡ filter (nat_lt n) order
behind_place n order i within parted = behind_from n order i (λ k d low. parted.0 k d (omega arith) low) (λ k d least inside. parted.1 k d least inside) within

before_from : (n : ℕ) (order : List ℕ) (i : ℕ) → ((k d : ℕ) → k < i → nat_lt (get_or order k d) n ≡ true) → ((k d : ℕ) → i ≤ k → k < length order → nat_lt (get_or order k d) n ≡ false) → i ≤ length order → take i order ≡ filter (λ q. nat_lt q n) order
before_from n [] zero until behind within = refl
before_from n [] (suc i) until behind within = absurd (omega arith)
before_from n (q ∷ order) zero until behind within =
    let late : nat_lt q n ≡ false = behind 0 q (omega arith) (omega arith) in
    rw late (before_from n order zero (λ k d low. absurd (omega arith)) (λ k d least inside. behind (suc k) d (omega arith) (omega arith)) (omega arith))
before_from n (q ∷ order) (suc i) until behind within =
    let low : nat_lt q n ≡ true = until 0 q (omega arith) in
    rw low (ap (λ qs. q ∷ qs) (before_from n order i (λ k d less. until (suc k) d (omega arith)) (λ k d least inside. behind (suc k) d (omega arith) (omega arith)) (omega arith)))

pub before_place : (n : ℕ) (order : List ℕ) (i : ℕ) → i ≤ length order → IsPartitionPoint (λ (m : ℕ). nat_lt m n ≡ true) (λ m. nat_lt m n ≡ false) order i → take i order ≡ filter (λ q. nat_lt q n) order
before_place n order i within parted = before_from n order i (λ k d low. parted.0 k d (omega arith) low) (λ k d least inside. parted.1 k d least inside) within

-- ---- the last one

split_last : (order : List ℕ) (i q : ℕ) → length order ≡ suc i → slice_get order i ≡ Some q → order ≡ take i order ++ q ∷ []
split_last [] i q many read = cc
split_last (p ∷ []) zero q many read = ap (λ k. k ∷ []) (same_Some p q read)
split_last (p ∷ []) (suc i) q many read = absurd (omega arith)
split_last (p ∷ k ∷ order) zero q many read = absurd (omega arith)
split_last (p ∷ k ∷ order) (suc i) q many read = ap (λ ks. p ∷ ks) (split_last (k ∷ order) i q (omega arith) read)

end_of : (xs : List ResourceData) (r : ResourceData) (k : ℕ) → k ≡ length xs → slice_get (xs ++ r ∷ []) k ≡ Some r
end_of [] r zero same = refl
end_of [] r (suc k) same = absurd (omega arith)
end_of (x ∷ xs) r zero same = absurd (omega arith)
end_of (x ∷ xs) r (suc k) same = end_of xs r k (omega arith)

pub last_found : (m : ℕ → Option ResourceData) (order : List ℕ) (q : ℕ) (r : ResourceData) → slice_get order (length order - 1) ≡ Some q → m q ≡ Some r → (k : ℕ) → k + 1 ≡ length (resources_of order m) → slice_get (resources_of order m) k ≡ Some r
last_found m [] q r read some k many = cc
last_found m (p ∷ ks) q r read some k many =
    let whole : p ∷ ks ≡ take (length ks) (p ∷ ks) ++ q ∷ [] = split_last (p ∷ ks) (length ks) q refl (ap (slice_get (p ∷ ks)) (omega arith) ∙ read) in
    let one : resources_of (q ∷ []) m ≡ r ∷ [] = rw some refl in
    let front = resources_of (take (length ks) (p ∷ ks)) m in
    let all : resources_of (p ∷ ks) m ≡ front ++ r ∷ [] = ap (λ ns. resources_of ns m) whole ∙ filter_map-append m (take (length ks) (p ∷ ks)) (q ∷ []) ∙ ap (λ rs. front ++ rs) one in
    let size : length (front ++ r ∷ []) ≡ length front + 1 = length-append front (r ∷ []) in
    let same : length (resources_of (p ∷ ks) m) ≡ length (front ++ r ∷ []) = ap length all in
    ap (λ rs. slice_get rs k) all ∙ end_of front r k (omega arith)

pub read_or : (ks : List ℕ) (i q d : ℕ) → slice_get ks i ≡ Some q → get_or ks i d ≡ q
read_or [] i q d read = cc
read_or (k ∷ ks) zero q d read = same_Some k q read
read_or (k ∷ ks) (suc i) q d read = read_or ks i q d read

pub none_is : {X : Type 0} (o : Option X) → is_some o ≡ false → o ≡ None
none_is None out = refl
none_is (Some x) out = absurd (both_ways _ out refl)

pub some_is : {X : Type 0} (o : Option X) → is_some o ≡ true → (x : X) × (o ≡ Some x)
some_is None there = absurd (both_ways _ refl there)
some_is (Some x) there = (x, refl)

-- ---- changes in place

-- what stands at a number passes what that which is there passes
pub passes_at : (m : ℕ → Option ResourceData) (order : List ℕ) (count n : ℕ) (P : ResourceData → Bool) → IsStore order m count → option_map_or P (at n (resources_of order m)) false ≡ true → (r : ResourceData) → m n ≡ Some r → P r ≡ true
passes_at m order count n P is there r some = ap (λ o. option_map_or P o false) (sym (found_at m n is.numbered order is.listed ∙ some)) ∙ there

pub all_restamped : (m now : ℕ → Option ResourceData) (order : List ℕ) (count n lt st : ℕ) → IsStore order m count → ((q : ℕ) → now q ≡ option_map (λ r. cond (nat_eq n q) (restamped lt st r) r) (m q)) → resources_of order now ≡ restamped_at n lt st (resources_of order m)
all_restamped m now order count n lt st is updates =
    written m now n (restamped lt st) is.numbered (λ r e. e) updates order is.ascends
    ∙ ap (λ o. option_map_or (λ r. replaced (restamped lt st r) (resources_of order m)) o (resources_of order m)) (sym (found_at m n is.numbered order is.listed))

pub all_recounted : (m now : ℕ → Option ResourceData) (order : List ℕ) (count n left : ℕ) → IsStore order m count → ((q : ℕ) → now q ≡ option_map (λ r. cond (nat_eq n q) (recounted left r) r) (m q)) → resources_of order now ≡ recounted_at n left (resources_of order m)
all_recounted m now order count n left is updates =
    written m now n (recounted left) is.numbered (λ r e. e) updates order is.ascends
    ∙ ap (λ o. option_map_or (λ r. replaced (recounted left r) (resources_of order m)) o (resources_of order m)) (sym (found_at m n is.numbered order is.listed))

pub all_replaced : (m now : ℕ → Option ResourceData) (order : List ℕ) (count : ℕ) (r : ResourceData) → IsStore order m count → ((q : ℕ) → now q ≡ option_map (λ s. cond (nat_eq r.number q) r s) (m q)) → resources_of order now ≡ replaced r (resources_of order m)
all_replaced m now order count r is updates =
    written m now r.number (λ s. r) is.numbered (λ s e. refl) updates order is.ascends
    ∙ ap (λ o. option_map_or (λ s. replaced r (resources_of order m)) o (resources_of order m)) (sym (found_at m r.number is.numbered order is.listed))
    ∙ put_over r (resources_of order m)

-- a number above all has nothing
pub nothing_above : (m : ℕ → Option ResourceData) (order : List ℕ) (count n : ℕ) → IsStore order m count → are_below n (resources_of order m) ≡ true → m n ≡ None
nothing_above m order count n is below = sym (found_at m n is.numbered order is.listed) ∙ at_none n (resources_of order m) (below_lacks n (resources_of order m) below)

-- ---- the store as a tree

-- a table in which each number has the same holds the same
pub same_view : (m now : ℕ → Option ResourceData) (order : List ℕ) → ((q : ℕ) → now q ≡ m q) → resources_of order now ≡ resources_of order m
same_view m now order same = filter_map_same now m order (λ q there. same q)

pub unchanged_store : (m now : ℕ → Option ResourceData) (order after : List ℕ) (count : ℕ) → ((q : ℕ) → now q ≡ m q) → after ≡ order → HoldsTree order m count → HoldsTree after now count
unchanged_store m now order after count same kept holds = subst (λ (ns : List ℕ). HoldsTree ns now count) (sym kept) (record {
  store = record {
    ascends = holds.store.ascends;
    numbered = λ n r some. holds.store.numbered n r (sym (same n) ∙ some);
    listed = λ n r some. holds.store.listed n r (sym (same n) ∙ some);
    counted = holds.store.counted ∙ ap length (sym (same_view m now order same));
  };
  tree = ap is_tree (same_view m now order same) ∙ holds.tree;
})

pub empty_store : (m : ℕ → Option ResourceData) (order : List ℕ) → ((q : ℕ) → m q ≡ None) → order ≡ [] → HoldsTree order m 0
unfolding IsStrictlySortedBy
empty_store m order nothing none = subst (λ (ns : List ℕ). HoldsTree ns m 0) (sym none) (record {
  store = record {
    ascends = tt;
    numbered = λ n r there. absurd (some_none r (sym (nothing n) ∙ there));
    listed = λ n r there. absurd (some_none r (sym (nothing n) ∙ there));
    counted = refl;
  };
  tree = refl;
})

module _ (m now : ℕ → Option ResourceData) (r : ResourceData) (number : ℕ) (order after : List ℕ) (count : ℕ) (holds : HoldsTree order m count) (next : IsNext (resources_of order m) r) (same : number ≡ r.number) (updates : (q : ℕ) → now q ≡ cond (nat_eq number q) (Some r) (m q)) (put : after ≡ filter (λ n. nat_lt n number) order ++ number ∷ []) where
  updates_own : (q : ℕ) → now q ≡ cond (nat_eq r.number q) (Some r) (m q)
  updates_own q = updates q ∙ ap (λ n. cond (nat_eq n q) (Some r) (m q)) same

  put_own : after ≡ filter (λ n. nat_lt n r.number) order ++ r.number ∷ []
  put_own = put ∙ ap (λ k. filter (λ n. nat_lt n k) order ++ k ∷ []) same

  pub pushed_view : resources_of after now ≡ resources_of order m ++ r ∷ []
  pushed_view = ap (λ ns. resources_of ns now) put_own ∙ put_behind m now r holds.store.numbered updates_own order next.number

  pub pushed_store : HoldsTree after now (count + 1)
  pushed_store = record {
    store = subst (λ (ns : List ℕ). IsStore ns now (count + 1)) (sym put_own) (store_put m now r order count holds.store updates_own next.number);
    tree = ap is_tree pushed_view ∙ is_tree-append (resources_of order m) r holds.tree next;
  }

-- a leaf is taken out
module _ (m left : ℕ → Option ResourceData) (order after : List ℕ) (count n now : ℕ) (holds : HoldsTree order m count) (updates : (q : ℕ) → left q ≡ cond (nat_eq n q) None (m q)) (alone : children_of n (resources_of order m) ≡ []) where
  pub removed_view : KeepsPresent left order after → resources_of after left ≡ without (has_number n) (resources_of order m)
  removed_view keeps = keeps.kept ∙ taken_out m left n holds.store.numbered updates order ∙ sym (leaf_without n (resources_of order m) holds.tree alone)

  pub removed_store : (r : ResourceData) → m n ≡ Some r → now + 1 ≡ count → KeepsPresent left order after → HoldsTree after left now
  removed_store r some less keeps = record {
    store = store_left m left order after count n now r holds.store updates some less keeps;
    tree = ap is_tree (removed_view keeps) ∙ is_tree-without (has_number n) (resources_of order m) holds.tree;
  }

-- so it is where nothing has the number
pub none_removed : (m left : ℕ → Option ResourceData) (order : List ℕ) (count n : ℕ) → HoldsTree order m count → ((q : ℕ) → left q ≡ cond (nat_eq n q) None (m q)) → children_of n (resources_of order m) ≡ [] → resources_of order left ≡ without (has_number n) (resources_of order m)
none_removed m left order count n holds updates alone = taken_out m left n holds.store.numbered updates order ∙ sym (leaf_without n (resources_of order m) holds.tree alone)

-- it stays as it is then
pub none_left : (m left : ℕ → Option ResourceData) (order : List ℕ) (count n : ℕ) → HoldsTree order m count → ((q : ℕ) → left q ≡ cond (nat_eq n q) None (m q)) → m n ≡ None → HoldsTree order left count
none_left m left order count n holds updates none = unchanged_store m left order order count (λ q. updates q ∙ same q) refl holds
  where
    same : (q : ℕ) → cond (nat_eq n q) None (m q) ≡ m q
    same q = elim (cases_Bool (nat_eq n q)) [
      | inl t ↦ rw t (sym (ap m (sym (eqb-true n q t)) ∙ none))
      | inr f ↦ rw f refl
    ]

-- a row tells that its resource was there
pub row_there : (o : Option ResourceData) (row : KinRow) → Some row ≡ option_map row_of o → (r : ResourceData) × (o ≡ Some r)
row_there None row told = cc
row_there (Some r) row told = (r, refl)

pub row_missing : (o : Option ResourceData) → None ≡ option_map row_of o → o ≡ None
row_missing None told = refl
row_missing (Some r) told = cc
