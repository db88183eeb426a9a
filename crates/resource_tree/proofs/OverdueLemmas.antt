-- What is overdue, by the entries that tell when resources are due.
use Rattle.std.specs.Prelude.{nat_eq, nat_le, ◌⊎◌}
use Rattle.std.proofs.Common.{◌≡◌, ◌≢◌, ℕ, ◌<◌, ◌≤◌, List, [], ◌∷◌, true, false, ◌&&◌, not, Option, Some, None, inl, inr, refl, sym, ap, ◌∙◌, subst, arith}
use Rattle.std.proofs.lemmas.Bool.{and_from, and_parts, both_ways, cases_Bool, eq-eqb, eqb-true, leb-true, or_cases, or_left, or_right}
use Rattle.std.proofs.lemmas.Option.{same_Some}
use Rattle.std.specs.List.{list_any}
use Rattle.std.specs.List.Retain.{DiffersFromLast, IsFiltered}
use Rattle.std.specs.List.Sorted.{IsPermutation, IsSorted, IsStrictlySortedBy}
use Rattle.std.specs.Option.{option_map_or}
use Rattle.std.specs.Ordering.{nat_cmp}
use Rattle.m2m_names.specs.Stamps.{last_moment}
use Rattle.resource_model.specs.Resource.{ResourceData, has_number}
use Rattle.tree_model.specs.Tree.{at, due, has, has_come, is_due, is_tree, line_of, live, overdue_numbers, Gathers}
use Rattle.tree_model.proofs.AmongLemmas.{both_hold, found_left, is_not_kept, left_ascends, left_found, same_numbers}
use Rattle.tree_model.proofs.BelowLemmas.{by_line, in_line, no_line, up_line}
use Rattle.tree_model.proofs.GrowthLemmas.{ascending_from_tree}
use Rattle.tree_model.proofs.ManyLemmas.{ascending_filter}
use Rattle.tree_model.proofs.OverdueLemmas.{gone_above, gone_here, gone_nowhere}
use Rattle.tree_model.proofs.TreeLemmas.{at_has, at_number, has_from_at}
use Rattle.resource_store.specs.Overdue.{is_first, is_first_at, is_overdue}
use Rattle.resource_dues.specs.Dues.{is_listed, tells, AreTold}
use Rattle.resource_dues.proofs.DuesLemmas.{entry_cmp, listed_before, none_by}
use Rattle.resource_tree.specs.Gathering.{GathersFirst, GathersTold}

-- ---- in a tree

module _ (nodes : List ResourceData) (moment : ℕ) (tree : is_tree nodes ≡ true) where
  there : (n : ℕ) → has n nodes ≡ true → (r : ResourceData) × (at n nodes ≡ Some r)
  there n t = by (at n nodes) refl
    where
      by : (o : Option ResourceData) → at n nodes ≡ o → (r : ResourceData) × (at n nodes ≡ Some r)
      by None is = absurd (both_ways (has n nodes) (has_from_at n nodes is) t)
      by (Some r) is = (r, is)

  -- the numbers of what is overdue are those
  pub listed : (m : ℕ) → list_any (nat_eq m) (overdue_numbers moment nodes) ≡ is_overdue moment nodes m
  listed m = is_not_kept (live moment nodes) nodes m

  pub some_overdue : (n : ℕ) → is_overdue moment nodes n ≡ true → overdue_numbers moment nodes ≢ []
  some_overdue n over none = both_ways false refl (sym (ap (λ (ns : List ℕ). list_any (nat_eq n) ns) none) ∙ listed n ∙ over)

  over : (s : ResourceData) → at s.number nodes ≡ Some s → true ≡ not (has s.number (live moment nodes)) → is_overdue moment nodes s.number ≡ true
  over s found gone = and_from _ _ (at_has s.number nodes s found) (sym gone)

  -- what stands under something that is overdue is so too
  over_under : (s : ResourceData) → at s.number nodes ≡ Some s → is_overdue moment nodes s.parent ≡ true → is_overdue moment nodes s.number ≡ true
  over_under s found up = elim (cases_Bool (is_due nodes moment s)) [
    | inl t ↦ over s found (gone_here nodes moment tree s found t)
    | inr f ↦
        let parts = and_parts (has s.parent nodes) (not (has s.parent (live moment nodes))) up in
        let parent = there s.parent parts.0 in
        over s found (gone_above nodes moment tree s parent.0 true found f parent.1 (sym parts.1 ∙ ap (λ (k : ℕ). not (has k (live moment nodes))) (sym (at_number s.parent nodes parent.0 parent.1))))
  ]

  -- what is overdue is due, where what it stands under isn't overdue
  due_from : (s : ResourceData) → at s.number nodes ≡ Some s → is_overdue moment nodes s.number ≡ true → is_overdue moment nodes s.parent ≡ false → is_due nodes moment s ≡ true
  due_from s found late free = elim (cases_Bool (is_due nodes moment s)) [
    | inl t ↦ t
    | inr f ↦ absurd (both_ways _ (sym (by f (at s.parent nodes) refl)) (and_parts (has s.number nodes) (not (has s.number (live moment nodes))) late).1)
  ]
    where
      by : is_due nodes moment s ≡ false → (o : Option ResourceData) → at s.parent nodes ≡ o → false ≡ not (has s.number (live moment nodes))
      by f None is = gone_nowhere nodes moment tree s found f is
      by f (Some p) is =
          let left : not (has s.parent (live moment nodes)) ≡ false = sym (ap (λ b. b && not (has s.parent (live moment nodes))) (at_has s.parent nodes p is)) ∙ free in
          gone_above nodes moment tree s p false found f is (sym left ∙ ap (λ (k : ℕ). not (has k (live moment nodes))) (sym (at_number s.parent nodes p is)))

  -- ---- what stands below what is due

  module _ (n : ℕ) (r : ResourceData) (found : at n nodes ≡ Some r) (late : is_due nodes moment r ≡ true) where
    below_step : (m : ℕ) (s : ResourceData) → at m nodes ≡ Some s → (in_line nodes n s.parent ≡ true → is_overdue moment nodes s.parent ≡ true) → in_line nodes n m ≡ true → is_overdue moment nodes m ≡ true
    below_step m s is above t =
        let number : s.number ≡ m = at_number m nodes s is in
        let own : at s.number nodes ≡ Some s = ap (λ (j : ℕ). at j nodes) number ∙ is in
        subst (λ (j : ℕ). is_overdue moment nodes j ≡ true) number (elim (or_cases (has_number n s) (in_line nodes n s.parent) (sym (up_line nodes tree n m s is) ∙ t)) [
          | inl here ↦
              let same : s ≡ r = same_Some s r (sym own ∙ ap (λ (j : ℕ). at j nodes) (eqb-true s.number n here) ∙ found) in
              over s own (gone_here nodes moment tree s own (ap (is_due nodes moment) same ∙ late))
          | inr up ↦ over_under s own (above up)
        ])

    below_due : (m : ℕ) → in_line nodes n m ≡ true → is_overdue moment nodes m ≡ true
    below_due = by_line nodes tree (λ m. in_line nodes n m ≡ true → is_overdue moment nodes m ≡ true) (λ m none t. absurd (both_ways _ (no_line nodes tree n m none) t)) below_step

  pub record IsFirstHere (n : ℕ) : Type 0 where
    pub resource : ResourceData
    pub found : at n nodes ≡ Some resource
    pub late : is_due nodes moment resource ≡ true

  first_here : (n : ℕ) → is_first_at moment nodes n ≡ true → IsFirstHere n
  first_here n first = by (at n nodes) refl
    where
      by : (o : Option ResourceData) → at n nodes ≡ o → IsFirstHere n
      by None is = absurd (both_ways false refl (sym (ap (λ (o : Option ResourceData). option_map_or (is_first moment nodes) o false) is) ∙ first))
      by (Some r) is =
          let both : is_first moment nodes r ≡ true = sym (ap (λ (o : Option ResourceData). option_map_or (is_first moment nodes) o false) is) ∙ first in
          record { resource = r; found = is; late = (and_parts (is_due nodes moment r) (not (is_overdue moment nodes r.parent)) both).0 }

  pub below_first : (n m : ℕ) → is_first_at moment nodes n ≡ true → in_line nodes n m ≡ true → is_overdue moment nodes m ≡ true
  below_first n m first t =
      let here = first_here n first in
      below_due n here.resource here.found here.late m t

  pub first_there : (n : ℕ) → is_first_at moment nodes n ≡ true → has n nodes ≡ true
  first_there n first = let here = first_here n first in at_has n nodes here.resource here.found

  pub first_overdue : (n : ℕ) → is_first_at moment nodes n ≡ true → is_overdue moment nodes n ≡ true
  first_overdue n first =
      let here = first_here n first in
      let number : here.resource.number ≡ n = at_number n nodes here.resource here.found in
      let own : at here.resource.number nodes ≡ Some here.resource = ap (λ (j : ℕ). at j nodes) number ∙ here.found in
      subst (λ (j : ℕ). is_overdue moment nodes j ≡ true) number (over here.resource own (gone_here nodes moment tree here.resource own here.late))

  -- ---- the first in a line that is overdue

  pub record IsTop (m : ℕ) : Type 0 where
    pub top : ResourceData
    pub found : at top.number nodes ≡ Some top
    pub late : is_due nodes moment top ≡ true
    pub first : is_first_at moment nodes top.number ≡ true
    pub line : in_line nodes top.number m ≡ true

  top_step : (m : ℕ) (s : ResourceData) → at m nodes ≡ Some s → (is_overdue moment nodes s.parent ≡ true → IsTop s.parent) → is_overdue moment nodes m ≡ true → IsTop m
  top_step m s is above t =
      let number : s.number ≡ m = at_number m nodes s is in
      let own : at s.number nodes ≡ Some s = ap (λ (j : ℕ). at j nodes) number ∙ is in
      elim (cases_Bool (is_overdue moment nodes s.parent)) [
        | inl up ↦
            let high = above up in
            record { top = high.top; found = high.found; late = high.late; first = high.first; line = up_line nodes tree high.top.number m s is ∙ or_right _ _ high.line }
        | inr free ↦
            let late : is_due nodes moment s ≡ true = due_from s own (ap (is_overdue moment nodes) number ∙ t) free in
            record {
              top = s;
              found = own;
              late = late;
              first = ap (λ (o : Option ResourceData). option_map_or (is_first moment nodes) o false) own ∙ and_from _ _ late (ap not free);
              line = up_line nodes tree s.number m s is ∙ or_left _ _ (eq-eqb s.number s.number refl);
            }
      ]

  pub top_of : (m : ℕ) → is_overdue moment nodes m ≡ true → IsTop m
  top_of = by_line nodes tree (λ m. is_overdue moment nodes m ≡ true → IsTop m) (λ m none t. absurd (both_ways _ (has_from_at m nodes none) (and_parts (has m nodes) (not (has m (live moment nodes))) t).0)) top_step

  -- ---- of one entry

  pub one_gathered : (n : ℕ) (old new : List ℕ) → is_first_at moment nodes n ≡ true → Gathers n nodes old new → GathersFirst moment n nodes old new
  one_gathered n old new first all = record {
    keeps = all.keeps;
    finds = λ is m t. all.finds m t;
    only = λ m t. elim (all.only m t) [
      | inl front ↦ inl front
      | inr line ↦ inr (below_first n m first line)
    ];
  }

  pub none_gathered : (n : ℕ) (old : List ℕ) → is_first_at moment nodes n ≡ false → GathersFirst moment n nodes old old
  none_gathered n old not_first = record {
    keeps = λ m t. t;
    finds = λ is m t. absurd (both_ways _ not_first is);
    only = λ m t. inl t;
  }

-- ---- from entry to entry

-- what the entries before these tell was gathered
pub record GathersUntil (moment : ℕ) (all left : List (ℕ × ℕ)) (nodes : List ResourceData) (numbers : List ℕ) : Type 0 where
  pub ordered : IsStrictlySortedBy entry_cmp left
  pub finds : (early n : ℕ) → early ≤ moment → is_listed early n all ≡ true → is_first_at moment nodes n ≡ true → (is_listed early n left ≡ true) ⊎ ((m : ℕ) → list_any (has_number n) (line_of m nodes) ≡ true → list_any (nat_eq m) numbers ≡ true)
  pub only : (m : ℕ) → list_any (nat_eq m) numbers ≡ true → is_overdue moment nodes m ≡ true

module _ (moment : ℕ) (all : List (ℕ × ℕ)) (nodes : List ResourceData) where
  pub until_start : (left : List (ℕ × ℕ)) (numbers : List ℕ) → left ≡ all → numbers ≡ [] → IsStrictlySortedBy entry_cmp all → GathersUntil moment all left nodes numbers
  until_start left numbers same none order = record {
    ordered = subst (IsStrictlySortedBy entry_cmp) (sym same) order;
    finds = λ early n low told first. inl (ap (is_listed early n) same ∙ told);
    only = λ m t. absurd (both_ways false refl (sym (ap (λ (ns : List ℕ). list_any (nat_eq m) ns) none) ∙ t));
  }

  pub until_step : (entry : ℕ × ℕ) (left rest : List (ℕ × ℕ)) (old new : List ℕ) → left ≡ entry ∷ rest → GathersUntil moment all left nodes old → GathersFirst moment entry.1 nodes old new → GathersUntil moment all rest nodes new
  unfolding IsStrictlySortedBy
  until_step entry left rest old new split before more = record {
    ordered = (subst (IsStrictlySortedBy entry_cmp) split before.ordered).1;
    finds = λ early n low told first. elim (before.finds early n low told first) [
      | inl listed ↦ elim (or_cases (tells early n entry) (is_listed early n rest) (sym (ap (is_listed early n) split) ∙ listed)) [
        | inl here ↦
            let own : entry.1 ≡ n = eqb-true entry.1 n (and_parts (nat_le entry.0 early) (nat_eq entry.1 n) here).1 in
            inr (λ m t. more.finds (ap (is_first_at moment nodes) own ∙ first) m (subst (λ (j : ℕ). list_any (has_number j) (line_of m nodes) ≡ true) (sym own) t))
        | inr later ↦ inl later
      ]
      | inr found ↦ inr (λ m t. more.keeps m (found m t))
    ];
    only = λ m t. elim (more.only m t) [
      | inl front ↦ before.only m front
      | inr late ↦ late
    ];
  }

  pub until_late : (entry : ℕ × ℕ) (left rest : List (ℕ × ℕ)) (numbers : List ℕ) → left ≡ entry ∷ rest → moment < entry.0 → GathersUntil moment all left nodes numbers → GathersTold moment all nodes numbers
  unfolding IsStrictlySortedBy
  until_late entry left rest numbers split late before = record {
    finds = λ early n low told first. elim (before.finds early n low told first) [
      | inl listed ↦ absurd (elim (or_cases (tells early n entry) (is_listed early n rest) (sym (ap (is_listed early n) split) ∙ listed)) [
        | inl here ↦ (let below : entry.0 ≤ early = leb-true entry.0 early (and_parts (nat_le entry.0 early) (nat_eq entry.1 n) here).0 in omega (arith, low, late, below))
        | inr later ↦ none_by entry rest moment late (subst (IsStrictlySortedBy entry_cmp) split before.ordered).0 early n low later
      ])
      | inr found ↦ found
    ];
    only = before.only;
  }

  pub until_end : (left : List (ℕ × ℕ)) (numbers : List ℕ) → left ≡ [] → GathersUntil moment all left nodes numbers → GathersTold moment all nodes numbers
  until_end left numbers none before = record {
    finds = λ early n low told first. elim (before.finds early n low told first) [
      | inl listed ↦ absurd (both_ways false refl (sym (ap (is_listed early n) none) ∙ listed))
      | inr found ↦ found
    ];
    only = before.only;
  }

-- ---- those that were gathered, in order

module _ (nodes : List ResourceData) (moment : ℕ) (tree : is_tree nodes ≡ true) (entries : List (ℕ × ℕ)) (told : AreTold nodes entries) (before : moment < last_moment) (found sorted left : List ℕ) (gathers : GathersTold moment entries nodes found) where
  all_found : (m : ℕ) → is_overdue moment nodes m ≡ true → list_any (nat_eq m) found ≡ true
  all_found m late = by (due nodes high.top) refl
    where
      high : IsTop nodes moment tree m
      high = top_of nodes moment tree m late

      by : (o : Option ℕ) → due nodes high.top ≡ o → list_any (nat_eq m) found ≡ true
      by None is = absurd (both_ways false refl (sym (ap (λ (o : Option ℕ). option_map_or (has_come moment) o false) is) ∙ high.late))
      by (Some d) is =
          let low : d ≤ moment = leb-true d moment (sym (ap (λ (o : Option ℕ). option_map_or (has_come moment) o false) is) ∙ high.late) in
          gathers.finds d high.top.number low (listed_before d high.top.number entries (omega (arith, low, before)) (told high.top d high.found is)) high.first m high.line

  pub told_are : IsPermutation found sorted → IsSorted nat_cmp sorted → IsFiltered (DiffersFromLast nat_eq) [] sorted left → left ≡ overdue_numbers moment nodes
  told_are perm order filtered =
      same_numbers left (overdue_numbers moment nodes)
      (left_ascends found sorted left perm filtered order)
      (ascending_filter (λ r. not (has r.number (live moment nodes))) nodes (ascending_from_tree nodes tree))
      (λ m. both_hold _ _
      (λ t. listed nodes moment tree m ∙ gathers.only m (left_found found sorted left perm filtered m t))
      (λ t. found_left found sorted left perm filtered m (all_found m (sym (listed nodes moment tree m) ∙ t))))
