-- Subscriptions that are lowered one after another are those of which the ones to which some are
-- left are counted anew, and then the others that go are removed in one pass.
use Rattle.std.specs.Prelude.{◌==◌, nat_eq}
use Rattle.std.proofs.Common.{◌≡◌, ℕ, List, [], ◌∷◌, map, filter, Bool, true, false, cond, ◌&&◌, Option, Some, None, option_map, inl, inr, ◌⊎◌, refl, sym, ap, ◌∙◌}
use Rattle.std.proofs.lemmas.Bool.{cases_Bool, both_ways, eqb-true}
use Rattle.std.proofs.lemmas.List.Kept.{IsStrictlySortedBy-filter}
use Rattle.std.specs.List.{list_any, AllByRecursion}
use Rattle.std.specs.List.Sorted.{IsStrictlySortedBy}
use Rattle.std.specs.Map.{keys_of}
use Rattle.std.specs.Option.{option_and_then}
use Rattle.std.specs.Ordering.{nat_cmp}
use Rattle.resource_model.specs.Resource.{ResourceData}
use Rattle.subscription_match.specs.Spending.{left_at, left_in, left_to}
use Rattle.tree_model.specs.Tree.{at, is_numbered_in, is_tree, without, without_all, DoAscend}
use Rattle.tree_model.proofs.LiveLemmas.{without_none}
use Rattle.tree_model.proofs.OrderLemmas.{tree_ascends}
use Rattle.tree_model.proofs.TreeLemmas.{at-map, staying-map, staying_unpicked}
use Rattle.entity_model.specs.Lowering.{has_none, some_left, spent_numbers}
use Rattle.entity_model.specs.Telling.{all_lowered_to, has_more, numbers_gone}
use Rattle.entity_model.proofs.LoweringLemmas.{all_lowered_by, by_more, each_of, each_unpicked, left_by, map_agree, once_sorted, others_after, own_first, spent_as, stays_agree, turned_as, AreOnce}

-- ---- numbers that ascend

keys_kept : (P : ℕ → Type 0) (p : ℕ × ℕ → Bool) (rows : List (ℕ × ℕ)) → AllByRecursion P (keys_of rows) → AllByRecursion P (keys_of (filter p rows))
keys_kept P p [] all = tt
keys_kept P p (row ∷ rows) all = elim (cases_Bool (p row)) [
  | inl t ↦ rw t (all.0, keys_kept P p rows all.1)
  | inr f ↦ rw f (keys_kept P p rows all.1)
]

keys_ascend : (p : ℕ × ℕ → Bool) (rows : List (ℕ × ℕ)) → IsStrictlySortedBy nat_cmp (keys_of rows) → DoAscend (keys_of (filter p rows))
unfolding IsStrictlySortedBy
keys_ascend p [] order = tt
keys_ascend p (row ∷ rows) order = elim (cases_Bool (p row)) [
  | inl t ↦ rw t (keys_kept _ p rows order.0, keys_ascend p rows order.1)
  | inr f ↦ rw f (keys_ascend p rows order.1)
]

-- the numbers of the spent ones do
pub spent_ascend : (rows : List (ℕ × ℕ)) → IsStrictlySortedBy nat_cmp (keys_of rows) → DoAscend (spent_numbers rows)
spent_ascend rows order = keys_ascend has_none rows order

pub none_ascend : DoAscend []
unfolding IsStrictlySortedBy
none_ascend = tt

-- and so do those that go
pub gone_ascend : (ns : List ℕ) (nodes : List ResourceData) → DoAscend ns → DoAscend (numbers_gone ns nodes)
gone_ascend ns nodes order = IsStrictlySortedBy-filter nat_cmp (λ n. has_more 0 (left_at nodes n)) ns order

any_filter : (n : ℕ) (test : ℕ → Bool) (ns : List ℕ) → list_any (nat_eq n) (filter test ns) ≡ (test n && list_any (nat_eq n) ns)
any_filter n test [] = elim (cases_Bool (test n)) [ inl t ↦ rw t refl | inr f ↦ rw f refl ]
any_filter n test (m ∷ ns) = elim (cases_Bool (nat_eq n m)) [
  | inl same ↦
      let is : n ≡ m = eqb-true n m same in
      elim (cases_Bool (test m)) [
        | inl t ↦ rw (t, same, ap test is ∙ t) refl
        | inr f ↦ rw (f, same, ap test is ∙ f) (any_filter n test ns ∙ rw (ap test is ∙ f) refl)
      ]
  | inr other ↦ elim (cases_Bool (test m)) [
    | inl t ↦ rw (t, other) (any_filter n test ns)
    | inr f ↦ rw (f, other) (any_filter n test ns)
  ]
]

-- ---- what the rows say at a number

some_none : (rows : List (ℕ × ℕ)) (n : ℕ) → left_in rows n ≡ None → left_in (some_left rows) n ≡ None
some_none [] n none = refl
some_none (row ∷ rows) n none = elim (cases_Bool (nat_eq n row.0)) [
  | inl same ↦ (let is : Some row.1 ≡ None = sym (own row rows n same) ∙ none in cc)
  | inr other ↦
      let rest : left_in rows n ≡ None = sym (others_after row rows n other) ∙ none in
      elim (cases_Bool (row.1 == 0)) [
        | inl z ↦ rw z (some_none rows n rest)
        | inr s ↦ rw s (others_after row (some_left rows) n other ∙ some_none rows n rest)
      ]
]
  where
    own : (row : ℕ × ℕ) (rows : List (ℕ × ℕ)) (n : ℕ) → nat_eq n row.0 ≡ true → left_in (row ∷ rows) n ≡ Some row.1
    own row rows n same = ap (left_in (row ∷ rows)) (eqb-true n row.0 same) ∙ own_first row rows

spent_none : (rows : List (ℕ × ℕ)) (n : ℕ) → left_in rows n ≡ None → list_any (nat_eq n) (spent_numbers rows) ≡ false
spent_none [] n none = refl
spent_none (row ∷ rows) n none = elim (cases_Bool (nat_eq n row.0)) [
  | inl same ↦ (let is : Some row.1 ≡ None = sym (ap (left_in (row ∷ rows)) (eqb-true n row.0 same) ∙ own_first row rows) ∙ none in cc)
  | inr other ↦
      let rest : left_in rows n ≡ None = sym (others_after row rows n other) ∙ none in
      elim (cases_Bool (row.1 == 0)) [
        | inl z ↦ rw (z, other) (spent_none rows n rest)
        | inr s ↦ rw s (spent_none rows n rest)
      ]
]

once_some : (rows : List (ℕ × ℕ)) → AreOnce rows → AreOnce (some_left rows)
once_some [] once = tt
once_some (row ∷ rows) once = elim (cases_Bool (row.1 == 0)) [
  | inl z ↦ rw z (once_some rows once.1)
  | inr s ↦ rw s (some_none rows row.0 once.0, once_some rows once.1)
]

-- none is left to it
record IsSpentAt (rows : List (ℕ × ℕ)) (n : ℕ) : Type 0 where
  left : left_in rows n ≡ Some 0
  within : list_any (nat_eq n) (spent_numbers rows) ≡ true
  apart : left_in (some_left rows) n ≡ None

-- some are left to it, or nothing is said of it
record IsUnspentAt (rows : List (ℕ × ℕ)) (n : ℕ) : Type 0 where
  left : spent_as (left_in rows n) ≡ false
  beyond : list_any (nat_eq n) (spent_numbers rows) ≡ false
  same : left_in (some_left rows) n ≡ left_in rows n

rows_say : (rows : List (ℕ × ℕ)) (n : ℕ) → AreOnce rows → IsSpentAt rows n ⊎ IsUnspentAt rows n
rows_say [] n once = inr (record { left = refl; beyond = refl; same = refl })
rows_say (row ∷ rows) n once = elim (cases_Bool (nat_eq n row.0)) [
  | inl same ↦ own same
  | inr other ↦ elim (rows_say rows n once.1) [
    | inl spent ↦ elim (cases_Bool (row.1 == 0)) [
      | inl z ↦ inl (record {
        left = others_after row rows n other ∙ spent.left;
        within = rw (z, other) spent.within;
        apart = rw z spent.apart;
      })
      | inr s ↦ inl (record {
        left = others_after row rows n other ∙ spent.left;
        within = rw s spent.within;
        apart = rw s (others_after row (some_left rows) n other ∙ spent.apart);
      })
    ]
    | inr unspent ↦ elim (cases_Bool (row.1 == 0)) [
      | inl z ↦ inr (record {
        left = ap spent_as (others_after row rows n other) ∙ unspent.left;
        beyond = rw (z, other) unspent.beyond;
        same = rw z (unspent.same ∙ sym (others_after row rows n other));
      })
      | inr s ↦ inr (record {
        left = ap spent_as (others_after row rows n other) ∙ unspent.left;
        beyond = rw s unspent.beyond;
        same = rw s (others_after row (some_left rows) n other ∙ unspent.same ∙ sym (others_after row rows n other));
      })
    ]
  ]
]
  where
    own : nat_eq n row.0 ≡ true → IsSpentAt (row ∷ rows) n ⊎ IsUnspentAt (row ∷ rows) n
    own same =
        let is : n ≡ row.0 = eqb-true n row.0 same in
        let found : left_in (row ∷ rows) n ≡ Some row.1 = ap (left_in (row ∷ rows)) is ∙ own_first row rows in
        let rest : left_in rows n ≡ None = ap (left_in rows) is ∙ once.0 in
        elim (cases_Bool (row.1 == 0)) [
          | inl z ↦ inl (record {
            left = found ∙ ap (λ (k : ℕ). Some k) (eqb-true row.1 0 z);
            within = rw (z, same) refl;
            apart = rw z (some_none rows n rest);
          })
          | inr s ↦ inr (record {
            left = ap spent_as found ∙ s;
            beyond = rw s (spent_none rows n rest);
            same = rw s (ap (left_in (row ∷ some_left rows)) is ∙ own_first row (some_left rows) ∙ sym found);
          })
        ]

unspent_by : (o old : Option ℕ) → spent_as o ≡ false → spent_as (by_more o old) ≡ false
unspent_by None old some = refl
unspent_by (Some left) old some = elim (cases_Bool (has_more left old)) [ inl t ↦ rw t some | inr f ↦ rw f refl ]

some_unspent : (rows : List (ℕ × ℕ)) (n : ℕ) → AreOnce rows → spent_as (left_in (some_left rows) n) ≡ false
some_unspent rows n once = elim (rows_say rows n once) [
  | inl spent ↦ ap spent_as spent.apart
  | inr unspent ↦ ap spent_as unspent.same ∙ unspent.left
]

none_any : (p : ResourceData → Bool) (nodes : List ResourceData) → ((r : ResourceData) → p r ≡ false) → list_any p nodes ≡ false
none_any p [] none = refl
none_any p (r ∷ nodes) none = rw (none r) (none_any p nodes none)

-- ---- and so the list

module _ (rows : List (ℕ × ℕ)) (nodes : List ResourceData) (tree : is_tree nodes ≡ true) (once : AreOnce rows) where
  -- the resource counted anew, where some are left to it
  abbrev anew : ResourceData → ResourceData
  anew r = turned_as (left_by (left_in (some_left rows)) r) r

  turned_number : (o : Option ℕ) (r : ResourceData) → (turned_as o r).number ≡ r.number
  turned_number None r = refl
  turned_number (Some left) r = refl

  turned_parent : (o : Option ℕ) (r : ResourceData) → (turned_as o r).parent ≡ r.parent
  turned_parent None r = refl
  turned_parent (Some left) r = refl

  anew_number : (r : ResourceData) → (anew r).number ≡ r.number
  anew_number r = turned_number (left_by (left_in (some_left rows)) r) r

  anew_parent : (r : ResourceData) → (anew r).parent ≡ r.parent
  anew_parent r = turned_parent (left_by (left_in (some_left rows)) r) r

  -- the first pass counts anew
  counted_anew : all_lowered_to (some_left rows) nodes ≡ map anew nodes
  counted_anew =
      all_lowered_by (some_left rows) nodes tree (once_some rows once)
      ∙ ap (map anew) (without_none (λ r. spent_as (left_by (left_in (some_left rows)) r)) nodes tree
      (none_any (λ r. spent_as (left_by (left_in (some_left rows)) r)) nodes
      (λ r. unspent_by (left_in (some_left rows) r.number) (left_to r) (some_unspent rows r.number once))))

  -- what the second pass takes
  abbrev goes : ResourceData → Bool
  goes r = is_numbered_in (numbers_gone (spent_numbers rows) (map anew nodes)) (anew r)

  abbrev is_out : ResourceData → Bool
  is_out r = spent_as (left_by (left_in rows) r)

  left_anew : (r : ResourceData) → at r.number nodes ≡ Some r → left_at (map anew nodes) r.number ≡ left_to (anew r)
  left_anew r found = ap (option_and_then left_to) (at-map anew anew_number r.number nodes ∙ ap (option_map anew) found)

  goes_is : (r : ResourceData) → at r.number nodes ≡ Some r → goes r ≡ (has_more 0 (left_to (anew r)) && list_any (nat_eq r.number) (spent_numbers rows))
  goes_is r found =
      any_filter (anew r).number (λ n. has_more 0 (left_at (map anew nodes) n)) (spent_numbers rows)
      ∙ ap (λ (n : ℕ). has_more 0 (left_at (map anew nodes) n) && list_any (nat_eq n) (spent_numbers rows)) (anew_number r)
      ∙ ap (λ (o : Option ℕ). has_more 0 o && list_any (nat_eq r.number) (spent_numbers rows)) (left_anew r found)

  by_none : (b : Bool) → spent_as (cond b (Some 0) None) ≡ (b && true)
  by_none true = refl
  by_none false = refl

  and_false : (b : Bool) → false ≡ (b && false)
  and_false true = refl
  and_false false = refl

  out_goes : (r : ResourceData) → at r.number nodes ≡ Some r → is_out r ≡ goes r
  out_goes r found = elim (rows_say rows r.number once) [
    | inl spent ↦
        let same : anew r ≡ r = ap (λ (o : Option ℕ). turned_as (by_more o (left_to r)) r) spent.apart in
        ap (λ (o : Option ℕ). spent_as (by_more o (left_to r))) spent.left
        ∙ by_none (has_more 0 (left_to r))
        ∙ ap (λ (b : Bool). has_more 0 (left_to r) && b) (sym spent.within)
        ∙ ap (λ (s : ResourceData). has_more 0 (left_to s) && list_any (nat_eq r.number) (spent_numbers rows)) (sym same)
        ∙ sym (goes_is r found)
    | inr unspent ↦
        unspent_by (left_in rows r.number) (left_to r) unspent.left
        ∙ and_false (has_more 0 (left_to (anew r)))
        ∙ ap (λ (b : Bool). has_more 0 (left_to (anew r)) && b) (sym unspent.beyond)
        ∙ sym (goes_is r found)
  ]

  -- what isn't out is as the first pass leaves it
  as_anew : (r : ResourceData) → is_out r ≡ false → turned_as (left_by (left_in rows) r) r ≡ anew r
  as_anew r stays = elim (rows_say rows r.number once) [
    | inl spent ↦
        by_test (has_more 0 (left_to r)) (ap (λ (o : Option ℕ). spent_as (by_more o (left_to r))) (sym spent.left) ∙ stays)
        (ap (λ (o : Option ℕ). turned_as (by_more o (left_to r)) r) spent.left)
        ∙ sym (ap (λ (o : Option ℕ). turned_as (by_more o (left_to r)) r) spent.apart)
    | inr unspent ↦ ap (λ (o : Option ℕ). turned_as (by_more o (left_to r)) r) (sym unspent.same)
  ]
    where
      by_test : (b : Bool) → spent_as (cond b (Some 0) None) ≡ false → turned_as (left_by (left_in rows) r) r ≡ turned_as (cond b (Some 0) None) r → turned_as (left_by (left_in rows) r) r ≡ r
      by_test true kept is = absurd (both_ways _ kept refl)
      by_test false kept is = is

  in_one_pass : all_lowered_to rows nodes ≡ without_all (numbers_gone (spent_numbers rows) (map anew nodes)) (map anew nodes)
  in_one_pass =
      all_lowered_by rows nodes tree once
      ∙ map_agree (λ r. turned_as (left_by (left_in rows) r) r) anew (without is_out nodes)
      (each_unpicked (λ r. turned_as (left_by (left_in rows) r) r ≡ anew r) is_out (without is_out nodes) (staying_unpicked is_out [] nodes) as_anew)
      ∙ ap (map anew) (stays_agree is_out goes [] nodes (each_of (λ r. is_out r ≡ goes r) nodes (tree_ascends nodes tree) out_goes))
      ∙ sym (staying-map anew goes (is_numbered_in (numbers_gone (spent_numbers rows) (map anew nodes))) anew_number anew_parent (λ r. refl) [] nodes)

-- so the order of the two matters not
pub lowered_in_one_pass : (rows : List (ℕ × ℕ)) (nodes : List ResourceData) → is_tree nodes ≡ true → IsStrictlySortedBy nat_cmp (keys_of rows) → without_all (numbers_gone (spent_numbers rows) (all_lowered_to (some_left rows) nodes)) (all_lowered_to (some_left rows) nodes) ≡ all_lowered_to rows nodes
lowered_in_one_pass rows nodes tree order =
    let once = once_sorted rows order in
    ap (λ (rs : List ResourceData). without_all (numbers_gone (spent_numbers rows) rs) rs) (counted_anew rows nodes tree once)
    ∙ sym (in_one_pass rows nodes tree once)

-- what stands after the two passes is what stands where they are lowered one after another
pub lowered_by_passes : (rows : List (ℕ × ℕ)) (spent : List ℕ) (old mid new : List ResourceData) → is_tree old ≡ true → IsStrictlySortedBy nat_cmp (keys_of rows) → spent ≡ spent_numbers rows → mid ≡ all_lowered_to (some_left rows) old → new ≡ without_all (numbers_gone spent mid) mid → new ≡ all_lowered_to rows old
lowered_by_passes rows spent old mid new tree order numbers first second =
    second
    ∙ ap (λ (ns : List ℕ). without_all (numbers_gone ns mid) mid) numbers
    ∙ ap (λ (rs : List ResourceData). without_all (numbers_gone (spent_numbers rows) rs) rs) first
    ∙ lowered_in_one_pass rows old tree order
