-- When resources are due, by the entries of a table.
use Rattle.std.specs.Prelude.{◌==◌, nat_eq, nat_le, slice_index_or}
use Rattle.std.proofs.Common.{◌≡◌, ◌⊎◌, ℕ, suc, ◌<◌, ◌≤◌, List, [], ◌∷◌, ◌++◌, length, pos, Bool, true, false, cond, not, ◌&&◌, ◌||◌, Option, Some, None, option_map, inl, inr, refl, sym, ap, ◌∙◌, subst, arith}
use Rattle.std.proofs.lemmas.Bool.{cases_Bool, cases_eq, cases_lt, and_parts, and_from, or_cases, or_left, or_right, or_parts, false_from_ne_true, both_ways, eqb-true, eq-eqb, leb-true, le-leb}
use Rattle.std.proofs.lemmas.Bool.Decides.{nat_tests}
use Rattle.std.proofs.lemmas.Option.{same_Some}
use Rattle.std.specs.BTreeMap.{is_at}
use Rattle.std.specs.BTreeSet.{BTreeSet, insert_key, IsFromIterResult}
use Rattle.std.specs.Set.{is_member}
use Rattle.std.specs.List.{AllByRecursion, cons_option, filter, filter_map, list_any, slice_get}
use Rattle.std.specs.List.Sorted.{IsStrictlySortedBy}
use Rattle.std.specs.Option.{option_and_then, option_map_or, option_or}
use Rattle.std.specs.Ordering.{eq_by_cmp, is_eq, is_gt, nat_cmp, ordering_then}
use Rattle.std.specs.declared.cmp.Ordering.{Ordering}
use Rattle.std.specs.declared.cmp.Ordering.TheVariants.{Less, Equal, Greater}
use Rattle.std.proofs.lemmas.List.Folds.{list_any-append}
use Rattle.std.proofs.Math.Bool.{or-false}
use Rattle.m2m_names.specs.declared.attributes.Attr.{Attr}
use Rattle.m2m_names.specs.declared.attributes.Attr.TheVariants.{Exc, Mia, St}
use Rattle.m2m_value.specs.Data.{Data, number as whole_number}
use Rattle.m2m_value.specs.Shapes.{as_count}
use Rattle.resource_model.specs.Resource.{ResourceData, has_number}
use Rattle.tree_model.specs.Tree.{age_of, at, has, has_come, due, due_under, end_by, are_quiet, is_quiet, is_due, is_tree, live, may_stand, is_spared, lowered_age, numbers_of, overdue_numbers, recounted, recounted_at, replaced, restamped, restamped_at, standing, without}
use Rattle.tree_model.proofs.GrowthLemmas.{IsNext, growth, next_above_parent, next_fits, below_has, below_lacks, at-without, has-filter, stands}
use Rattle.tree_model.proofs.KeptLemmas.{is_tree-without, without-snoc}
use Rattle.tree_model.proofs.LiveLemmas.{due-without}
use Rattle.tree_model.proofs.MarkLemmas.{marked, IsAside, exc_aside, st_aside, other_kept, stood_marked}
use Rattle.tree_model.proofs.NumberLemmas.{equal_is}
use Rattle.tree_model.proofs.OrderLemmas.{above_lacks, are_above, ascend, tree_ascends}
use Rattle.tree_model.proofs.QuietLemmas.{all_by_number, due-append, due-replaced_other, due_case, due_never, due_by_age, due_by_expiry, due_plain}
use Rattle.tree_model.proofs.TreeLemmas.{at-append, at-replaced, at-replaced_other, at_has, at_none, at_number, filter_among, staying_wider}
use Rattle.resource_store.proofs.LeafLemmas.{leaf_without, others}
use Rattle.m2m_names.specs.Stamps.{last_moment}
use Rattle.resource_dues.specs.Dues.{due_at, is_listed, is_told, tells, AreTold, AreToldBut, HasDues, IsDueLeaf, TellsAll}
use Rattle.resource_dues.specs.declared.dues.Dues.{Dues}

-- ---- one entry more, or less

then_equal : (o p : Ordering) → ordering_then o p ≡ Equal → (o ≡ Equal) × (p ≡ Equal)
then_equal Less p e = cc
then_equal Equal p e = (refl, e)
then_equal Greater p e = cc

-- moments first, then numbers
abbrev pub entry_cmp : ℕ × ℕ → ℕ × ℕ → Ordering
entry_cmp a b = ordering_then (nat_cmp a.0 b.0) (nat_cmp a.1 b.1)

pub same_entry : (a b : ℕ × ℕ) → entry_cmp a b ≡ Equal → a ≡ b
same_entry a b e =
    let parts = then_equal (nat_cmp a.0 b.0) (nat_cmp a.1 b.1) e in
    ap (λ (m : ℕ). (m, a.1)) (equal_is a.0 b.0 parts.0) ∙ ap (λ (n : ℕ). (b.0, n)) (equal_is a.1 b.1 parts.1)

equal_by : (o : Ordering) → is_eq o ≡ true → o ≡ Equal
equal_by Less e = cc
equal_by Equal e = refl
equal_by Greater e = cc

nat_itself : (n : ℕ) → nat_cmp n n ≡ Equal
nat_itself n = grind (arith, nat_tests)

-- an entry is equal to itself
itself : (e : ℕ × ℕ) → entry_cmp e e ≡ Equal
itself e = ap (λ o. ordering_then o (nat_cmp e.1 e.1)) (nat_itself e.0) ∙ nat_itself e.1

module _ (k : ℕ × ℕ) (p : ℕ × ℕ → Bool) where
  pub kept_in : (ks : List (ℕ × ℕ)) → list_any p ks ≡ true → list_any p (insert_key entry_cmp ks k) ≡ true
  kept_in [] some = absurd (both_ways _ refl some)
  kept_in (x ∷ ks) some = by (entry_cmp k x) refl (kept_in ks)
    where
      by : (o : Ordering) → entry_cmp k x ≡ o → (list_any p ks ≡ true → list_any p (insert_key entry_cmp ks k) ≡ true) → list_any p (insert_key entry_cmp (x ∷ ks) k) ≡ true
      by Less e rest = rw e (or_right (p k) _ some)
      by Equal e rest = rw e some
      by Greater e rest = rw e (elim (or_cases (p x) _ some) [
        | inl here ↦ or_left _ _ here
        | inr later ↦ or_right (p x) _ (rest later)
      ])

  pub put_in : (ks : List (ℕ × ℕ)) → p k ≡ true → list_any p (insert_key entry_cmp ks k) ≡ true
  put_in [] passes = or_left _ _ passes
  put_in (x ∷ ks) passes = by (entry_cmp k x) refl (put_in ks passes)
    where
      by : (o : Ordering) → entry_cmp k x ≡ o → list_any p (insert_key entry_cmp ks k) ≡ true → list_any p (insert_key entry_cmp (x ∷ ks) k) ≡ true
      by Less e rest = rw e (or_left _ _ passes)
      by Equal e rest = rw e (or_left _ _ (ap p (sym (same_entry k x e)) ∙ passes))
      by Greater e rest = rw e (or_right (p x) _ rest)

-- an entry tells of its own moment and number
pub told_here : (moment n : ℕ) → tells moment n (moment, n) ≡ true
told_here moment n = and_from _ _ (le-leb moment moment (omega arith)) (eq-eqb n n refl)

-- an entry that isn't later than an earlier moment isn't later than this one
listed_later : (early late n : ℕ) (entries : List (ℕ × ℕ)) → early ≤ late → is_listed early n entries ≡ true → is_listed late n entries ≡ true
listed_later early late n [] less told = told
listed_later early late n (e ∷ entries) less told = elim (or_cases (tells early n e) _ told) [
  | inl here ↦
      let parts = and_parts (nat_le e.0 early) (nat_eq e.1 n) here in
      or_left _ _ (and_from _ _ (le-leb e.0 late (let l : e.0 ≤ early = leb-true e.0 early parts.0 in omega arith)) parts.1)
  | inr later ↦ or_right _ _ (listed_later early late n entries less later)
]

pub told_later : (early late n : ℕ) (entries : List (ℕ × ℕ)) → early ≤ late → is_told early n entries ≡ true → is_told late n entries ≡ true
told_later early late n entries less told = elim (or_cases (nat_le last_moment early) (is_listed early n entries) told) [
  | inl last ↦ or_left _ _ (le-leb last_moment late (let l : last_moment ≤ early = leb-true last_moment early last in omega (arith, less, l)))
  | inr listed ↦ or_right (nat_le last_moment late) _ (listed_later early late n entries less listed)
]

-- more entries tell what was told, where they have what told it
pub told_by : (moment n : ℕ) (before after : List (ℕ × ℕ)) → (is_listed moment n before ≡ true → is_listed moment n after ≡ true) → is_told moment n before ≡ true → is_told moment n after ≡ true
told_by moment n before after keeps told = elim (or_cases (nat_le last_moment moment) (is_listed moment n before) told) [
  | inl last ↦ or_left _ _ last
  | inr listed ↦ or_right (nat_le last_moment moment) _ (keeps listed)
]

-- before the last moment an entry has to tell
pub listed_before : (early n : ℕ) (entries : List (ℕ × ℕ)) → early < last_moment → is_told early n entries ≡ true → is_listed early n entries ≡ true
listed_before early n entries before told = elim (or_cases (nat_le last_moment early) (is_listed early n entries) told) [
  | inl last ↦ absurd (let l : last_moment ≤ early = leb-true last_moment early last in omega (arith, before, l))
  | inr listed ↦ listed
]

-- the first one gone, the others tell of other numbers still
listed_rest : (moment n : ℕ) (first k : ℕ × ℕ) (before after : List (ℕ × ℕ)) → before ≡ k ∷ after → slice_get before 0 ≡ Some first → nat_eq first.1 n ≡ false → is_listed moment n before ≡ true → is_listed moment n after ≡ true
listed_rest moment n first k before after whole read apart told =
    let same : k ≡ first = same_Some k first (sym (ap (λ es. slice_get es 0) whole) ∙ read) in
    let other : nat_eq k.1 n ≡ false = ap (λ (e : ℕ × ℕ). nat_eq e.1 n) same ∙ apart in
    elim (or_cases (tells moment n k) _ (sym (ap (is_listed moment n) whole) ∙ told)) [
      | inl here ↦ absurd (both_ways _ other (and_parts (nat_le k.0 moment) (nat_eq k.1 n) here).1)
      | inr later ↦ later
    ]

pub told_rest : (moment n : ℕ) (first k : ℕ × ℕ) (before after : List (ℕ × ℕ)) → before ≡ k ∷ after → slice_get before 0 ≡ Some first → nat_eq first.1 n ≡ false → is_told moment n before ≡ true → is_told moment n after ≡ true
told_rest moment n first k before after whole read apart told = told_by moment n before after (listed_rest moment n first k before after whole read apart) told

-- what stays of them tells what they told, where it has each that told it
pub any_kept : (p q : ℕ × ℕ → Bool) (ks : List (ℕ × ℕ)) → ((e : ℕ × ℕ) → p e ≡ true → q e ≡ true) → list_any p ks ≡ true → list_any p (filter q ks) ≡ true
any_kept p q [] within some = some
any_kept p q (k ∷ ks) within some = elim (cases_Bool (q k)) [
  | inl t ↦ rw t (elim (or_cases (p k) _ some) [
    | inl here ↦ or_left _ _ here
    | inr later ↦ or_right _ _ (any_kept p q ks within later)
  ])
  | inr f ↦ rw f (elim (or_cases (p k) _ some) [
    | inl here ↦ absurd (both_ways _ f (within k here))
    | inr later ↦ any_kept p q ks within later
  ])
]

pub told_left : (nodes : List ResourceData) (entries : List (ℕ × ℕ)) → AreTold nodes entries → AreTold nodes (filter (λ e. has e.1 nodes) entries)
told_left nodes entries told r moment found when =
    told_by moment r.number entries (filter (λ e. has e.1 nodes) entries)
    (any_kept (tells moment r.number) (λ e. has e.1 nodes) entries (λ e passes.
    let parts = and_parts (nat_le e.0 moment) (nat_eq e.1 r.number) passes in
    ap (λ n. has n nodes) (eqb-true e.1 r.number parts.1) ∙ at_has r.number nodes r found))
    (told r moment found when)

-- ---- the first moment

least_first : (a b : ℕ × ℕ) → is_gt (entry_cmp a b) ≡ false → a.0 ≤ b.0
least_first a b not_above = elim (cases_lt b.0 a.0) [
  | inl less ↦ absurd (let above : nat_cmp a.0 b.0 ≡ Greater = grind (arith, nat_tests) in both_ways _ not_above (ap (λ o. is_gt (ordering_then o (nat_cmp a.1 b.1))) above))
  | inr not ↦ (omega arith)
]

-- where none is before the first, each that tells of a number is that late
pub first_least : (f : ℕ × ℕ) (entries : List (ℕ × ℕ)) (moment n : ℕ) → ((k : ℕ) (d : ℕ × ℕ) → k < length entries → is_gt (entry_cmp f (slice_index_or entries k d)) ≡ false) → is_listed moment n entries ≡ true → f.0 ≤ moment
first_least f [] moment n all told = absurd (both_ways _ refl told)
first_least f (e ∷ entries) moment n all told = elim (or_cases (tells moment n e) _ told) [
  | inl here ↦
      let parts = and_parts (nat_le e.0 moment) (nat_eq e.1 n) here in
      let low : f.0 ≤ e.0 = least_first f e (all 0 e (omega arith)) in
      (let high : e.0 ≤ moment = leb-true e.0 moment parts.0 in omega arith)
  | inr later ↦ first_least f entries moment n (λ k d within. all (suc k) d (omega arith)) later
]

pub quiet_until : (nodes : List ResourceData) (entries : List (ℕ × ℕ)) (until : ℕ) → is_tree nodes ≡ true → AreTold nodes entries → ((moment n : ℕ) → is_told moment n entries ≡ true → until ≤ moment) → are_quiet until nodes ≡ true
quiet_until nodes entries until tree told late = all_by_number (is_quiet nodes until) nodes tree (λ r found. by r found (due nodes r) refl)
  where
    by : (r : ResourceData) → at r.number nodes ≡ Some r → (o : Option ℕ) → due nodes r ≡ o → is_quiet nodes until r ≡ true
    by r found None is = rw is refl
    by r found (Some d) is = ap (λ o. option_map_or (λ at. nat_le until at) o true) is ∙ le-leb until d (late d r.number (told r d found is))

-- ---- once the list has changed

some_none : {X : Type 0} (x : X) → None ≡ Some x → ⊥
some_none x e = cc

new_or_old : (nodes : List ResourceData) (r s : ResourceData) → at s.number (nodes ++ r ∷ []) ≡ Some s → (at s.number nodes ≡ Some s) ⊎ (r ≡ s)
new_or_old nodes r s there = by (at s.number nodes) refl
  where
    by : (o : Option ResourceData) → at s.number nodes ≡ o → (at s.number nodes ≡ Some s) ⊎ (r ≡ s)
    by (Some x) is = inl (is ∙ sym (at-append s.number nodes (r ∷ []) ∙ ap (λ o. option_or o (at s.number (r ∷ []))) is) ∙ there)
    by None is =
        let last : cond (has_number s.number r) (Some r) None ≡ Some s = sym (at-append s.number nodes (r ∷ []) ∙ ap (λ o. option_or o (at s.number (r ∷ []))) is) ∙ there in
        inr (elim (cases_Bool (has_number s.number r)) [
          | inl t ↦ same_Some r s (rw t at last)
          | inr f ↦ absurd (some_none s (rw f at last))
        ])

pub told_grown : (nodes : List ResourceData) (r : ResourceData) (before after : List (ℕ × ℕ)) → is_tree nodes ≡ true → IsNext nodes r → AreTold nodes before → TellsAll before after → ((moment : ℕ) → due nodes r ≡ Some moment → is_told moment r.number after ≡ true) → AreTold (nodes ++ r ∷ []) after
told_grown nodes r before after tree next told keeps noted s moment found when = elim (new_or_old nodes r s found) [
  | inl old ↦
      let above : s.parent < s.number = (stands nodes tree s.number s old).above in
      let below : s.number < r.number = below_has r.number s.number nodes next.number (at_has s.number nodes s old) in
      keeps moment s.number (told s moment old (sym (due-append nodes r s (omega arith)) ∙ when))
  | inr same ↦
      let own : due nodes r ≡ Some moment = sym (due-append nodes r r (next_above_parent nodes r next)) ∙ ap (due (nodes ++ r ∷ [])) same ∙ when in
      ap (λ (x : ResourceData). is_told moment x.number after) (sym same) ∙ noted moment own
]

found_spared : (spared : Bool) (o : Option ResourceData) (s : ResourceData) → cond spared o None ≡ Some s → (spared ≡ true) × (o ≡ Some s)
found_spared true o s found = (refl, found)
found_spared false o s found = cc

-- a removal leaves them told
pub told-without : (p : ResourceData → Bool) (nodes : List ResourceData) (entries : List (ℕ × ℕ)) → is_tree nodes ≡ true → AreTold nodes entries → AreTold (without p nodes) entries
told-without p nodes entries tree told s moment found when =
    let left = found_spared (is_spared p nodes s.number) (at s.number nodes) s (sym (at-without p s.number nodes tree) ∙ found) in
    told s moment left.1 (sym (due-without p nodes s tree left.1 left.0) ∙ when)

-- where the age that is allowed isn't lower, an instance is due no earlier
end_sooner : (old age : Option ℕ) (x : ResourceData) → lowered_age old age ≡ None → end_by old x ≤ end_by age x
end_sooner None None x young = omega arith
end_sooner None (Some a) x young = absurd (some_none a (sym young))
end_sooner (Some o) None x young = omega arith
end_sooner (Some o) (Some a) x young = elim (cases_Bool (nat_le o a)) [
  | inl t ↦ (let less : o ≤ a = leb-true o a t in omega arith)
  | inr f ↦ absurd (some_none a (sym (rw f at young)))
]

never_lowered : (o : Option ℕ) → lowered_age o o ≡ None
never_lowered None = refl
never_lowered (Some o) = rw (le-leb o o (omega arith)) refl

-- a resource in the place of another whose instances may get no less old
pub told-replaced : (nodes : List ResourceData) (r : ResourceData) (before after : List (ℕ × ℕ)) → is_tree nodes ≡ true → option_map standing (at r.number nodes) ≡ Some (standing r) → lowered_age (age_of (at r.number nodes)) (age_of (Some r)) ≡ None → AreTold nodes before → TellsAll before after → ((moment : ℕ) → due nodes r ≡ Some moment → is_told moment r.number after ≡ true) → AreTold (replaced r nodes) after
told-replaced nodes r before after tree stood young told keeps noted s moment found when = elim (cases_eq s.number r.number) [
  | inl same ↦
      let there = stood_there (at r.number nodes) refl in
      let is : r ≡ s = same_Some r s (sym (at-replaced r nodes there.0) ∙ ap (λ (n : ℕ). at n (replaced r nodes)) (sym same) ∙ found) in
      let up : due (replaced r nodes) r ≡ due nodes r = ap (λ (o : Option ResourceData). due_under o r) (at-replaced_other r.parent r nodes (λ e. (let less : r.parent < r.number = there.1 in omega arith))) in
      let own : due nodes r ≡ Some moment = sym up ∙ ap (due (replaced r nodes)) is ∙ when in
      ap (λ (x : ResourceData). is_told moment x.number after) (sym is) ∙ noted moment own
  | inr apart ↦
      let old : at s.number nodes ≡ Some s = sym (at-replaced_other s.number r nodes apart) ∙ found in
      keeps moment s.number (elim (cases_eq s.parent r.number) [
        | inl under ↦
            let up : at s.parent (replaced r nodes) ≡ Some r = ap (λ (n : ℕ). at n (replaced r nodes)) under ∙ at-replaced r nodes (stood_there (at r.number nodes) refl).0 in
            let now : due_under (Some r) s ≡ Some moment = sym (ap (λ (o : Option ResourceData). due_under o s) up) ∙ when in
            let later : lowered_age (age_of (at s.parent nodes)) (age_of (Some r)) ≡ None = ap (λ (n : ℕ). lowered_age (age_of (at n nodes)) (age_of (Some r))) under ∙ young in
            told_below s old now later
        | inr other ↦ told s moment old (sym (due-replaced_other nodes r s other) ∙ when)
      ])
]
  where
    stood_there : (o : Option ResourceData) → at r.number nodes ≡ o → (has r.number nodes ≡ true) × (r.parent < r.number)
    stood_there None is = absurd (some_none (standing r) (sym (ap (option_map standing) is) ∙ stood))
    stood_there (Some x) is =
        let above : x.parent < r.number = (stands nodes tree r.number x is).above in
        let same : x.parent ≡ r.parent = ap (λ y. y.2) (same_Some (standing x) (standing r) (sym (ap (option_map standing) is) ∙ stood)) in
        (at_has r.number nodes x is, (omega arith))

    told_below : (x : ResourceData) → at x.number nodes ≡ Some x → due_under (Some r) x ≡ Some moment → lowered_age (age_of (at x.parent nodes)) (age_of (Some r)) ≡ None → is_told moment x.number before ≡ true
    told_below x there now later = elim (due_case x.ty) [
      | due_never t ↦ absurd (some_none moment (rw t at now))
      | due_by_age f u ↦
          let first = end_by (age_of (at x.parent nodes)) x in
          let at_first : due nodes x ≡ Some first = rw (f, u) refl in
          let is : end_by (age_of (Some r)) x ≡ moment = same_Some (end_by (age_of (Some r)) x) moment (rw (f, u) at now) in
          told_later first moment x.number before (let low : first ≤ end_by (age_of (Some r)) x = end_sooner (age_of (at x.parent nodes)) (age_of (Some r)) x later in omega arith) (told x first there at_first)
      | due_by_expiry f v ↦ told x moment there (due_plain (at x.parent nodes) (Some r) x v ∙ now)
    ]

-- ---- what is due goes

-- two tests that agree on all that stands in a tree leave the same
pub without_among : (p q : ResourceData → Bool) (nodes : List ResourceData) → is_tree nodes ≡ true → ((s : ResourceData) → at s.number nodes ≡ Some s → p s ≡ q s) → without p nodes ≡ without q nodes
without_among p q = growth may_stand (λ nodes. ((s : ResourceData) → at s.number nodes ≡ Some s → p s ≡ q s) → without p nodes ≡ without q nodes) (λ same. refl) (λ before r grew next holds same.
    let fact = next_fits before r next in
    let old : (s : ResourceData) → at s.number before ≡ Some s → p s ≡ q s = λ s found. same s (at-append s.number before (r ∷ []) ∙ ap (λ (o : Option ResourceData). option_or o (at s.number (r ∷ []))) found) in
    let free : at r.number before ≡ None = at_none r.number before (below_lacks r.number before fact.number) in
    let here : at r.number (r ∷ []) ≡ Some r = rw (eq-eqb r.number r.number refl) refl in
    let new : p r ≡ q r = same r (at-append r.number before (r ∷ []) ∙ ap (λ (o : Option ResourceData). option_or o (at r.number (r ∷ []))) free ∙ here) in
    let rest : without p before ≡ without q before = holds old in
    without-snoc p before r
    ∙ ap (λ (ns : List ResourceData). ns ++ cond (not (p r) && ((r.parent == 0) || has r.parent ns)) (r ∷ []) []) rest
    ∙ ap (λ b. without q before ++ cond (not b && ((r.parent == 0) || has r.parent (without q before))) (r ∷ []) []) new
    ∙ sym (without-snoc q before r))

-- where something that is due goes, what is live stays what it was
pub live_less : (nodes : List ResourceData) (n moment : ℕ) (r : ResourceData) → is_tree nodes ≡ true → at n nodes ≡ Some r → is_due nodes moment r ≡ true → live moment (without (has_number n) nodes) ≡ live moment nodes
live_less nodes n moment r tree found due_now =
    let left = without (has_number n) nodes in
    let both : ResourceData → Bool = λ s. has_number n s && is_due nodes moment s in
    let that : left ≡ without both nodes = without_among (has_number n) both nodes tree (λ s there. elim (cases_Bool (has_number n s)) [
      | inl t ↦
          let same : s ≡ r = same_Some s r (sym there ∙ ap (λ k. at k nodes) (eqb-true s.number n t) ∙ found) in
          t ∙ sym (and_from _ _ t (ap (is_due nodes moment) same ∙ due_now))
      | inr f ↦ f ∙ sym (ap (λ b. b && is_due nodes moment s) f)
    ]) in
    let as_before : without (is_due left moment) left ≡ without (is_due nodes moment) left = without_among (is_due left moment) (is_due nodes moment) left (is_tree-without (has_number n) nodes tree) (λ s there.
    let stayed = found_spared (is_spared (has_number n) nodes s.number) (at s.number nodes) s (sym (at-without (has_number n) s.number nodes tree) ∙ there) in
    ap (λ (o : Option ℕ). option_map_or (has_come moment) o false) (due-without (has_number n) nodes s tree stayed.1 stayed.0)) in
    as_before ∙ ap (without (is_due nodes moment)) that
    ∙ staying_wider both (is_due nodes moment) (λ s t. (and_parts (has_number n s) (is_due nodes moment s) t).1) [] [] nodes (λ k there. there)

pub dues_left : (p : ResourceData → Bool) (nodes left : List ResourceData) (dues : Dues) → is_tree nodes ≡ true → left ≡ without p nodes → HasDues nodes dues → HasDues left dues
dues_left p nodes left dues tree is told whole = subst (λ (ns : List ResourceData). AreTold ns dues.moments.keys) (sym is) (told-without p nodes dues.moments.keys tree (told whole))

-- with a resource that comes last
pub dues_grown : (nodes : List ResourceData) (r : ResourceData) (before after : Dues) → is_tree nodes ≡ true → IsNext nodes r → HasDues nodes before → after.whole ≡ before.whole → TellsAll before.moments.keys after.moments.keys → ((moment : ℕ) → due nodes r ≡ Some moment → is_told moment r.number after.moments.keys ≡ true) → HasDues (nodes ++ r ∷ []) after
dues_grown nodes r before after tree next told same keeps noted whole = told_grown nodes r before.moments.keys after.moments.keys tree next (told (sym same ∙ whole)) keeps noted

-- with more entries
pub dues_more : (nodes : List ResourceData) (before after : Dues) → (after.whole ≡ true → before.whole ≡ true) → TellsAll before.moments.keys after.moments.keys → HasDues nodes before → HasDues nodes after
dues_more nodes before after same keeps told whole r moment found when = keeps moment r.number (told (same whole) r moment found when)

-- what an attribute that decides no moment leaves alone
told-marked : (a : Attr) (aside : IsAside a) (d : Data) (lt : ℕ) (nodes : List ResourceData) (n : ℕ) (r : ResourceData) → is_tree nodes ≡ true → at n nodes ≡ Some r → (entries : List (ℕ × ℕ)) → AreTold nodes entries → AreTold (replaced (marked a d lt r) nodes) entries
told-marked a aside d lt nodes n r tree found entries told =
    let own : at r.number nodes ≡ Some r = ap (λ k. at k nodes) (at_number n nodes r found) ∙ found in
    let age : age_of (at r.number nodes) ≡ age_of (Some (marked a d lt r)) = ap age_of own ∙ sym (ap (λ (o : Option Data). option_and_then as_count o) (other_kept Mia a d r aside.mia refl)) in
    let young = ap (lowered_age (age_of (at r.number nodes))) (sym age) ∙ never_lowered (age_of (at r.number nodes)) in
    told-replaced nodes (marked a d lt r) entries entries tree (stood_marked a aside d lt nodes n r found) young told (λ moment k h. h) (λ moment when. told r moment own when)

pub dues-restamped : (nodes : List ResourceData) (n lt st : ℕ) (dues : Dues) → is_tree nodes ≡ true → HasDues nodes dues → HasDues (restamped_at n lt st nodes) dues
dues-restamped nodes n lt st dues tree told whole = by (at n nodes) refl
  where
    by : (o : Option ResourceData) → at n nodes ≡ o → AreTold (option_map_or (λ r. replaced (restamped lt st r) nodes) o nodes) dues.moments.keys
    by None found = told whole
    by (Some r) found = told-marked St st_aside (whole_number (pos st)) lt nodes n r tree found dues.moments.keys (told whole)

pub dues-recounted : (nodes : List ResourceData) (n left : ℕ) (dues : Dues) → is_tree nodes ≡ true → HasDues nodes dues → HasDues (recounted_at n left nodes) dues
dues-recounted nodes n left dues tree told whole = by (at n nodes) refl
  where
    by : (o : Option ResourceData) → at n nodes ≡ o → AreTold (option_map_or (λ r. replaced (recounted left r) nodes) o nodes) dues.moments.keys
    by None found = told whole
    by (Some r) found = told-marked Exc exc_aside (whole_number (pos left)) r.lt nodes n r tree found dues.moments.keys (told whole)

-- the first entry gone, and its resource told anew
pub told_anew : (nodes : List ResourceData) (before between after : Dues) (first : ℕ × ℕ) (when : Option ℕ) → slice_get before.moments.keys 0 ≡ Some first → when ≡ due_at first.1 nodes → between.whole ≡ before.whole → ((moment n : ℕ) (f : ℕ × ℕ) → slice_get before.moments.keys 0 ≡ Some f → nat_eq f.1 n ≡ false → is_told moment n before.moments.keys ≡ true → is_told moment n between.moments.keys ≡ true) → (after.whole ≡ true → between.whole ≡ true) → TellsAll between.moments.keys after.moments.keys → ((moment : ℕ) → after.whole ≡ true → when ≡ Some moment → is_told moment first.1 after.moments.keys ≡ true) → HasDues nodes before → HasDues nodes after
told_anew nodes before between after first when read is same rest whole_before keeps noted told whole r moment found due_then = elim (cases_Bool (nat_eq first.1 r.number)) [
  | inl t ↦
      let number : first.1 ≡ r.number = eqb-true first.1 r.number t in
      let own : when ≡ Some moment = is ∙ ap (λ n. due_at n nodes) number ∙ ap (option_and_then (λ (s : ResourceData). due nodes s)) found ∙ due_then in
      ap (λ n. is_told moment n after.moments.keys) (sym number) ∙ noted moment whole own
  | inr f ↦ keeps moment r.number (rest moment r.number first read f (told (sym same ∙ whole_before whole) r moment found due_then))
]

-- what is due goes
pub due_goes : (nodes : List ResourceData) (n moment : ℕ) → is_tree nodes ≡ true → option_map_or (has_come moment) (due_at n nodes) false ≡ true → live moment (without (has_number n) nodes) ≡ live moment nodes
due_goes nodes n moment tree come = by (at n nodes) refl
  where
    by : (o : Option ResourceData) → at n nodes ≡ o → live moment (without (has_number n) nodes) ≡ live moment nodes
    by None none = absurd (both_ways _ refl (sym (ap (λ o. option_map_or (has_come moment) (option_and_then (λ (r : ResourceData). due nodes r) o) false) none) ∙ come))
    by (Some r) some = live_less nodes n moment r tree some (sym (ap (λ o. option_map_or (has_come moment) (option_and_then (λ (s : ResourceData). due nodes s) o) false) some) ∙ come)

-- it stands there
pub due_there : (nodes : List ResourceData) (n moment : ℕ) → option_map_or (has_come moment) (due_at n nodes) false ≡ true → has n nodes ≡ true
due_there nodes n moment come = by (at n nodes) refl
  where
    by : (o : Option ResourceData) → at n nodes ≡ o → has n nodes ≡ true
    by None none = absurd (both_ways _ refl (sym (ap (λ o. option_map_or (has_come moment) (option_and_then (λ (r : ResourceData). due nodes r) o) false) none) ∙ come))
    by (Some r) some = at_has n nodes r some

-- ---- a list gone over

-- the number of a resource that the numbers stand for is among them
named : (nodes : List ResourceData) (n : ℕ) (ns : List ℕ) → has n (filter_map (λ k. at k nodes) ns) ≡ true → list_any (nat_eq n) ns ≡ true
named nodes n [] some = absurd (both_ways _ refl some)
named nodes n (k ∷ ns) some = by (at k nodes) refl (named nodes n ns)
  where
    by : (o : Option ResourceData) → at k nodes ≡ o → (has n (filter_map (λ j. at j nodes) ns) ≡ true → list_any (nat_eq n) ns ≡ true) → list_any (nat_eq n) (k ∷ ns) ≡ true
    by None is rest = or_right (nat_eq n k) _ (rest (sym (ap (λ o. has n (cons_option o (filter_map (λ j. at j nodes) ns))) is) ∙ some))
    by (Some x) is rest = elim (or_cases (has_number n x) _ (sym (ap (λ o. has n (cons_option o (filter_map (λ j. at j nodes) ns))) is) ∙ some)) [
      | inl here ↦ or_left _ _ (eq-eqb n k (sym (eqb-true x.number n here) ∙ at_number k nodes x is))
      | inr later ↦ or_right (nat_eq n k) _ (rest later)
    ]

-- all are still to come
pub told_start : (nodes : List ResourceData) (ns : List ℕ) (entries : List (ℕ × ℕ)) → filter_map (λ k. at k nodes) ns ≡ nodes → AreToldBut ns nodes entries
told_start nodes ns entries all r moment found when = or_right (is_told moment r.number entries) _ (named nodes r.number ns (ap (has r.number) all ∙ at_has r.number nodes r found))

-- one number more
pub told_turn : (nodes : List ResourceData) (n : ℕ) (ns rest : List ℕ) (before after : List (ℕ × ℕ)) (when : Option ℕ) → ns ≡ n ∷ rest → when ≡ due_at n nodes → TellsAll before after → ((moment : ℕ) → when ≡ Some moment → is_told moment n after ≡ true) → AreToldBut ns nodes before → AreToldBut rest nodes after
told_turn nodes n ns rest before after when split is keeps noted told r moment found due_then = elim (or_cases (is_told moment r.number before) _ (told r moment found due_then)) [
  | inl old ↦ or_left _ _ (keeps moment r.number old)
  | inr left ↦ elim (or_cases (nat_eq r.number n) _ (sym (ap (list_any (nat_eq r.number)) split) ∙ left)) [
    | inl here ↦
        let number : r.number ≡ n = eqb-true r.number n here in
        let own : when ≡ Some moment = is ∙ ap (λ k. due_at k nodes) (sym number) ∙ ap (option_and_then (λ (s : ResourceData). due nodes s)) found ∙ due_then in
        or_left _ _ (ap (λ k. is_told moment k after) number ∙ noted moment own)
    | inr later ↦ or_right (is_told moment r.number after) _ later
  ]
]

-- none is
pub told_end : (nodes : List ResourceData) (ns : List ℕ) (entries after : List (ℕ × ℕ)) → ns ≡ [] → AreToldBut ns nodes entries → TellsAll entries after → AreTold nodes after
told_end nodes ns entries after none told keeps r moment found when = elim (or_cases (is_told moment r.number entries) _ (told r moment found when)) [
  | inl old ↦ keeps moment r.number old
  | inr left ↦ absurd (both_ways _ refl (sym (ap (list_any (nat_eq r.number)) none) ∙ left))
]

-- one that an entry is told by tells what the entry tells
any_same : (p : ℕ × ℕ → Bool) (x : ℕ × ℕ) (ks : List (ℕ × ℕ)) → p x ≡ true → list_any (is_at (entry_cmp x)) ks ≡ true → list_any p ks ≡ true
any_same p x [] passes some = absurd (both_ways _ refl some)
any_same p x (k ∷ ks) passes some = elim (or_cases (is_at (entry_cmp x) k) _ some) [
  | inl here ↦ or_left _ _ (ap p (sym (same_entry x k (equal_by (entry_cmp x k) here))) ∙ passes)
  | inr later ↦ or_right (p k) _ (any_same p x ks passes later)
]

any_through : (p : ℕ × ℕ → Bool) (xs ks : List (ℕ × ℕ)) → ((e : ℕ × ℕ) → is_member (eq_by_cmp entry_cmp) xs e ≡ true → list_any (is_at (entry_cmp e)) ks ≡ true) → list_any p xs ≡ true → list_any p ks ≡ true
any_through p [] ks has_each some = absurd (both_ways _ refl some)
any_through p (x ∷ xs) ks has_each some = elim (or_cases (p x) _ some) [
  | inl here ↦ any_same p x ks here (has_each x (or_left _ _ (ap is_eq (itself x))))
  | inr later ↦ any_through p xs ks (λ e within. has_each e (or_right (eq_by_cmp entry_cmp e x) _ within)) later
]

-- the set that is made of some entries tells what they tell
pub told_set : (entries : List (ℕ × ℕ)) (set : BTreeSet (ℕ × ℕ)) → IsFromIterResult entry_cmp entries set → TellsAll entries set.keys
told_set entries set made moment n = told_by moment n entries set.keys (any_through (tells moment n) entries set.keys (λ e within. made.0 e ∙ within))

-- so does a vector with one more
pub told_pushed : (entries : List (ℕ × ℕ)) (entry : ℕ × ℕ) → TellsAll entries (entries ++ entry ∷ [])
told_pushed entries entry moment n = told_by moment n entries (entries ++ entry ∷ []) (λ listed. list_any-append (tells moment n) entries (entry ∷ []) ∙ or_left _ _ listed)

-- what one entry tells they tell, where it is among them
pub told_last : (entries : List (ℕ × ℕ)) (entry : ℕ × ℕ) → TellsAll (entry ∷ []) (entries ++ entry ∷ [])
told_last entries entry moment n = told_by moment n (entry ∷ []) (entries ++ entry ∷ []) (λ listed. list_any-append (tells moment n) entries (entry ∷ []) ∙ or_right (is_listed moment n entries) _ listed)

pub told_inserted : (entries : List (ℕ × ℕ)) (entry : ℕ × ℕ) → TellsAll (entry ∷ []) (insert_key entry_cmp entries entry)
told_inserted entries entry moment n = told_by moment n (entry ∷ []) (insert_key entry_cmp entries entry) (λ listed. put_in entry (tells moment n) entries (sym (or-false (tells moment n entry)) ∙ listed))

-- what none has to tell any tell
pub told_by_none : (entries : List (ℕ × ℕ)) → TellsAll [] entries
told_by_none entries moment n = told_by moment n [] entries (λ listed. absurd (both_ways _ refl listed))

pub nothing_listed : (moment n : ℕ) (entries : List (ℕ × ℕ)) → (0 < length entries → ⊥) → is_listed moment n entries ≡ true → ⊥
nothing_listed moment n [] none told = both_ways _ refl told
nothing_listed moment n (e ∷ entries) none told = none (omega arith)

pub dues-replaced : (nodes : List ResourceData) (r : ResourceData) (before after : Dues) (number : ℕ) (when : Option ℕ) → is_tree nodes ≡ true → option_map standing (at r.number nodes) ≡ Some (standing r) → lowered_age (age_of (at r.number nodes)) (age_of (Some r)) ≡ None → HasDues nodes before → (after.whole ≡ true → before.whole ≡ true) → TellsAll before.moments.keys after.moments.keys → number ≡ r.number → when ≡ due nodes r → ((moment : ℕ) → after.whole ≡ true → when ≡ Some moment → is_told moment number after.moments.keys ≡ true) → HasDues (replaced r nodes) after
dues-replaced nodes r before after number when tree stood age told same keeps is_number is_when noted whole = told-replaced nodes r before.moments.keys after.moments.keys tree stood age (told (same whole)) keeps (λ moment due_then. subst (λ n. is_told moment n after.moments.keys ≡ true) is_number (noted moment whole (is_when ∙ due_then)))

-- ---- one that is due alone

less_first : (a b : ℕ × ℕ) → entry_cmp a b ≡ Less → a.0 ≤ b.0
less_first a b less = least_first a b (ap is_gt less)

pub none_by : (second : ℕ × ℕ) (rest : List (ℕ × ℕ)) (moment : ℕ) → moment < second.0 → AllByRecursion (λ e. entry_cmp second e ≡ Less) rest → (early n : ℕ) → early ≤ moment → is_listed early n rest ≡ true → ⊥
none_by second [] moment late all early n low told = both_ways _ refl told
none_by second (e ∷ rest) moment late all early n low told = elim (or_cases (tells early n e) _ told) [
  | inl here ↦
      let parts = and_parts (nat_le e.0 early) (nat_eq e.1 n) here in
      let above : second.0 ≤ e.0 = less_first second e all.0 in
      (let below : e.0 ≤ early = leb-true e.0 early parts.0 in omega arith)
  | inr later ↦ none_by second rest moment late all.1 early n low later
]

pub first_same : (a b : ℕ × ℕ) (es fs : List (ℕ × ℕ)) → a ∷ es ≡ b ∷ fs → a ≡ b
first_same a b es fs same = same_Some a b (ap (λ xs. slice_get xs 0) same)

pub nothing_first : (a : ℕ × ℕ) (es : List (ℕ × ℕ)) → [] ≡ a ∷ es → ⊥
nothing_first a es same = cc

-- where the second entry is later, the first alone tells of moments until then
pub sole_first : (entries rest : List (ℕ × ℕ)) (first : ℕ × ℕ) (moment : ℕ) → IsStrictlySortedBy entry_cmp entries → entries ≡ first ∷ rest → ((second : ℕ × ℕ) (more : List (ℕ × ℕ)) → rest ≡ second ∷ more → moment < second.0) → (early n : ℕ) → early ≤ moment → is_listed early n entries ≡ true → first.1 ≡ n
unfolding IsStrictlySortedBy
sole_first entries rest first moment sorted whole late early n low told = elim (or_cases (tells early n first) _ (sym (ap (is_listed early n) whole) ∙ told)) [
  | inl here ↦ eqb-true first.1 n (and_parts (nat_le first.0 early) (nat_eq first.1 n) here).1
  | inr later ↦ absurd (by rest refl (subst (IsStrictlySortedBy entry_cmp) whole sorted) later)
]
  where
    by : (es : List (ℕ × ℕ)) → rest ≡ es → IsStrictlySortedBy entry_cmp (first ∷ rest) → is_listed early n rest ≡ true → ⊥
    by [] is order some = both_ways _ refl (ap (is_listed early n) (sym is) ∙ some)
    by (second ∷ more) is order some =
        let after : moment < second.0 = late second more is in
        elim (or_cases (tells early n second) _ (ap (is_listed early n) (sym is) ∙ some)) [
          | inl here ↦
              let parts = and_parts (nat_le second.0 early) (nat_eq second.1 n) here in
              (let below : second.0 ≤ early = leb-true second.0 early parts.0 in omega arith)
          | inr later ↦ none_by second more moment after (subst (IsStrictlySortedBy entry_cmp) is order.1).0 early n low later
        ]

none_found : (n : ℕ) (nodes : List ResourceData) → has n nodes ≡ false → filter (has_number n) nodes ≡ []
none_found n [] none = refl
none_found n (s ∷ nodes) none =
    let parts = or_parts (has_number n s) (has n nodes) none in
    rw parts.0 (none_found n nodes parts.1)

found_alone : (n : ℕ) (nodes : List ResourceData) (r : ResourceData) → ascend nodes ≡ true → at n nodes ≡ Some r → filter (has_number n) nodes ≡ r ∷ []
found_alone n [] r order found = cc
found_alone n (s ∷ nodes) r order found =
    let parts = and_parts (are_above s.number nodes) (ascend nodes) order in
    elim (cases_Bool (has_number n s)) [
      | inl t ↦
          let free : has n nodes ≡ false = ap (λ k. has k nodes) (sym (eqb-true s.number n t)) ∙ above_lacks s.number nodes parts.0 in
          rw t (ap (λ (x : ResourceData). x ∷ filter (has_number n) nodes) (same_Some s r (rw t at found)) ∙ ap (λ xs. r ∷ xs) (none_found n nodes free))
      | inr f ↦ rw f (found_alone n nodes r parts.1 (rw f at found))
    ]

pub one_overdue : (nodes : List ResourceData) (n moment : ℕ) → is_tree nodes ≡ true → IsDueLeaf n moment nodes → ((r : ResourceData) (d : ℕ) → at r.number nodes ≡ Some r → due nodes r ≡ Some d → d ≤ moment → n ≡ r.number) → overdue_numbers moment nodes ≡ n ∷ []
one_overdue nodes n moment tree is alone = by (at n nodes) refl
  where
    come_by : (s : ResourceData) (o : Option ℕ) → due nodes s ≡ o → option_map_or (has_come moment) o false ≡ true → at s.number nodes ≡ Some s → has_number n s ≡ true
    come_by s None when come found = absurd (both_ways _ refl come)
    come_by s (Some d) when come found = eq-eqb s.number n (sym (alone s d found when (leb-true d moment come)))

    by : (o : Option ResourceData) → at n nodes ≡ o → overdue_numbers moment nodes ≡ n ∷ []
    by None none = absurd (both_ways _ refl (sym (ap (λ o. option_map_or (has_come moment) (option_and_then (λ (r : ResourceData). due nodes r) o) false) none) ∙ is.due))
    by (Some r) some =
        let due_now : is_due nodes moment r ≡ true = sym (ap (λ o. option_map_or (has_come moment) (option_and_then (λ (s : ResourceData). due nodes s) o) false) some) ∙ is.due in
        let agree : (s : ResourceData) → at s.number nodes ≡ Some s → is_due nodes moment s ≡ has_number n s = λ s found. elim (cases_Bool (has_number n s)) [
          | inl t ↦
              let same : s ≡ r = same_Some s r (sym found ∙ ap (λ k. at k nodes) (eqb-true s.number n t) ∙ some) in
              ap (is_due nodes moment) same ∙ due_now ∙ sym t
          | inr f ↦ false_from_ne_true _ (λ come. both_ways _ f (come_by s (due nodes s) refl come found)) ∙ sym f
        ] in
        let left : live moment nodes ≡ others n nodes = without_among (is_due nodes moment) (has_number n) nodes tree agree ∙ leaf_without n nodes tree is.alone in
        let gone : (s : ResourceData) → has s.number nodes ≡ true → not (has s.number (live moment nodes)) ≡ has_number n s = λ s there.
        ap (λ ns. not (has s.number ns)) left
        ∙ ap not (has-filter (λ k. not (k == n)) s.number nodes ∙ ap (λ b. b && not (s.number == n)) there)
        ∙ not_twice (s.number == n) in
        ap numbers_of (filter_among (λ s. not (has s.number (live moment nodes))) (has_number n) nodes gone ∙ found_alone n nodes r (tree_ascends nodes tree) some)
        ∙ ap (λ k. k ∷ []) (at_number n nodes r some)
      where
        not_twice : (b : Bool) → not (true && not b) ≡ b
        not_twice true = refl
        not_twice false = refl
