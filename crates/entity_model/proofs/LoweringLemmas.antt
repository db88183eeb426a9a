-- Subscriptions that are lowered one after another are those that what was told lowers.
use Rattle.std.specs.Prelude.{◌==◌, nat_eq}
use Rattle.std.proofs.Common.{◌≡◌, ℕ, ◌-◌, ◌<◌, ◌≤◌, List, [], ◌∷◌, ◌++◌, map, Bool, true, false, cond, not, ◌&&◌, ◌||◌, Option, Some, None, option_map, is_some, inl, inr, refl, sym, ap, ◌∙◌, subst, arith}
use Rattle.std.proofs.lemmas.Bool.{cases_Bool, cond_both, both_ways, eq-eqb, eqb-true, lt-ltb, ne_eqb, or_parts}
use Rattle.std.specs.List.{list_any, AllByRecursion}
use Rattle.std.specs.List.Sorted.{IsStrictlySortedBy}
use Rattle.std.specs.Map.{keys_of}
use Rattle.std.specs.declared.cmp.Ordering.TheVariants.{Less}
use Rattle.std.specs.Option.{option_map_or, option_and_then}
use Rattle.std.specs.Ordering.{nat_cmp}
use Rattle.m2m_names.specs.declared.attributes.Attr.TheVariants.{Exc}
use Rattle.m2m_value.specs.Data.{Data}
use Rattle.m2m_value.specs.Shapes.{as_count}
use Rattle.resource_model.specs.Attributes.{value_of}
use Rattle.resource_model.specs.Resource.{ResourceData, has_number}
use Rattle.subscription_match.proofs.SpendingLemmas.{same_number}
use Rattle.subscription_match.specs.Spending.{count_for, left_at, left_in, left_of, left_to, nodes_spent, spent}
use Rattle.subscription_match.specs.declared.drafts.DraftParts.{DraftParts}
use Rattle.tree_model.specs.Tree.{at, has, has_counter, is_tree, recounted, recounted_at, replaced, stays, staying, without}
use Rattle.tree_model.proofs.KeptLemmas.{is_tree-without}
use Rattle.tree_model.proofs.LiveLemmas.{without_none}
use Rattle.tree_model.proofs.OrderLemmas.{above_has, ascend, ascend_parts, are_above, above_parts, tree_ascends}
use Rattle.tree_model.proofs.RecountLemmas.{tree_recounted}
use Rattle.tree_model.proofs.TreeLemmas.{at_has, at_number, staying-map, staying_unpicked}
use Rattle.notify_outbox.proofs.OrderLemmas.{each_weaker}
use Rattle.entity_model.proofs.RemovalLemmas.{without_twice}
use Rattle.entity_model.proofs.SpentLemmas.{not_none}
use Rattle.entity_model.specs.Telling.{all_lowered_to, has_more, lowered_to, LeavesWhoIsTold}

-- ---- a subscription that has more left

counts : (o : Option ResourceData) (left : ℕ) → has_more left (option_and_then left_to o) ≡ true → option_map_or (λ r. is_some (value_of Exc r.attrs)) o false ≡ true
counts None left more = absurd (both_ways _ refl more)
counts (Some r) left more = by (value_of Exc r.attrs) refl more
  where
    by : (o : Option Data) → value_of Exc r.attrs ≡ o → has_more left (option_and_then as_count o) ≡ true → is_some o ≡ true
    by None is some = absurd (both_ways _ refl some)
    by (Some d) is some = refl

-- it counts, and stands
pub more_counts : (n left : ℕ) (nodes : List ResourceData) → has_more left (left_at nodes n) ≡ true → has_counter n nodes ≡ true
more_counts n left nodes more = counts (at n nodes) left more

stands_at : (n : ℕ) (nodes : List ResourceData) (o : Option ResourceData) (left : ℕ) → at n nodes ≡ o → has_more left (option_and_then left_to o) ≡ true → has n nodes ≡ true
stands_at n nodes None left is more = absurd (both_ways _ refl more)
stands_at n nodes (Some r) left is more = at_has n nodes r is

pub more_stands : (n left : ℕ) (nodes : List ResourceData) → has_more left (left_at nodes n) ≡ true → has n nodes ≡ true
more_stands n left nodes more = stands_at n nodes (at n nodes) left refl more

-- ---- each of a list

-- what holds of whatever stands at a number holds of each
pub each_of : (P : ResourceData → Type 0) (nodes : List ResourceData) → ascend nodes ≡ true → ((r : ResourceData) → at r.number nodes ≡ Some r → P r) → AllByRecursion P nodes
each_of P [] order by = tt
each_of P (s ∷ nodes) order by =
    let parts = ascend_parts s nodes order in (
      by s (rw (eq-eqb s.number s.number refl) refl),
      each_of P nodes parts.rest (λ r found.
          let less : s.number < r.number = above_has s.number r.number nodes parts.above (at_has r.number nodes r found) in
          let other : has_number r.number s ≡ false = ne_eqb s.number r.number (λ e. omega arith) in
          by r (rw other found)),
    )

each_stays : (P : ResourceData → Type 0) (picks : ResourceData → Bool) (stayed nodes : List ResourceData) → AllByRecursion P nodes → AllByRecursion P (staying picks stayed nodes)
each_stays P picks stayed [] each = tt
each_stays P picks stayed (r ∷ nodes) each = elim (cases_Bool (stays picks stayed r)) [
  | inl t ↦ rw t (each.0, each_stays P picks (stayed ++ r ∷ []) nodes each.1)
  | inr f ↦ rw f (each_stays P picks stayed nodes each.1)
]

-- passes that agree on each
pub stays_agree : (p q : ResourceData → Bool) (stayed nodes : List ResourceData) → AllByRecursion (λ r. p r ≡ q r) nodes → staying p stayed nodes ≡ staying q stayed nodes
stays_agree p q stayed [] each = refl
stays_agree p q stayed (r ∷ nodes) each =
    let same : stays p stayed r ≡ stays q stayed r = ap (λ b. not b && ((r.parent == 0) || has r.parent stayed)) each.0 in
    elim (cases_Bool (stays q stayed r)) [
      | inl t ↦ rw (same ∙ t, t) (ap (λ (rs : List ResourceData). r ∷ rs) (stays_agree p q (stayed ++ r ∷ []) nodes each.1))
      | inr f ↦ rw (same ∙ f, f) (stays_agree p q stayed nodes each.1)
    ]

pub map_agree : (g h : ResourceData → ResourceData) (nodes : List ResourceData) → AllByRecursion (λ r. g r ≡ h r) nodes → map g nodes ≡ map h nodes
map_agree g h [] each = refl
map_agree g h (r ∷ nodes) each = ap (λ (s : ResourceData). s ∷ map g nodes) each.0 ∙ ap (λ (rs : List ResourceData). h r ∷ rs) (map_agree g h nodes each.1)

-- ---- one that is counted anew, as a map

abbrev only : ℕ → ℕ → ResourceData → ResourceData
only n left r = cond (has_number n r) (recounted left r) r

above_alone : (n left : ℕ) (nodes : List ResourceData) → are_above n nodes ≡ true → map (only n left) nodes ≡ nodes
above_alone n left [] above = refl
above_alone n left (r ∷ nodes) above =
    let parts = above_parts n r nodes above in
    let more : n < r.number = parts.first in
    let other : has_number n r ≡ false = ne_eqb r.number n (λ e. omega arith) in
    rw other (ap (λ (rs : List ResourceData). r ∷ rs) (above_alone n left nodes parts.rest))

pub recounted_map : (n left : ℕ) (nodes : List ResourceData) → ascend nodes ≡ true → recounted_at n left nodes ≡ map (only n left) nodes
recounted_map n left [] order = refl
recounted_map n left (r ∷ nodes) order =
    let parts = ascend_parts r nodes order in
    elim (cases_Bool (has_number n r)) [
      | inl t ↦
          let is : r.number ≡ n = eqb-true r.number n t in
          let same : has_number r.number r ≡ true = eq-eqb r.number r.number refl in
          rw (t, same) (ap (λ (rs : List ResourceData). recounted left r ∷ rs) (sym (above_alone n left nodes (subst (λ (m : ℕ). are_above m nodes ≡ true) is parts.above))))
      | inr f ↦ rw f (behind (at n nodes) refl f ∙ ap (λ (rs : List ResourceData). r ∷ rs) (recounted_map n left nodes parts.rest))
    ]
  where
    behind : (o : Option ResourceData) → at n nodes ≡ o → has_number n r ≡ false → option_map_or (λ s. replaced (recounted left s) (r ∷ nodes)) o (r ∷ nodes) ≡ r ∷ option_map_or (λ s. replaced (recounted left s) nodes) o nodes
    behind None is other = refl
    behind (Some s) is other =
        let number : s.number ≡ n = at_number n nodes s is in
        let apart : has_number s.number r ≡ false = ap (λ (m : ℕ). has_number m r) number ∙ other in
        rw apart refl

-- ---- the list by what is left at each number

abbrev pub by_more : Option ℕ → Option ℕ → Option ℕ
by_more None old = None
by_more (Some left) old = cond (has_more left old) (Some left) None

abbrev pub left_by : (ℕ → Option ℕ) → ResourceData → Option ℕ
left_by h r = by_more (h r.number) (left_to r)

abbrev pub spent_as : Option ℕ → Bool
spent_as o = option_map_or (λ left. left == 0) o false

abbrev pub turned_as : Option ℕ → ResourceData → ResourceData
turned_as o r = option_map_or (λ left. recounted left r) o r

abbrev pub nodes_by : (ResourceData → Option ℕ) → List ResourceData → List ResourceData
nodes_by left nodes = map (λ r. turned_as (left r) r) (without (λ r. spent_as (left r)) nodes)

-- where the same is left to each
nodes_agree : (left other : ResourceData → Option ℕ) (nodes : List ResourceData) → AllByRecursion (λ r. left r ≡ other r) nodes → nodes_by left nodes ≡ nodes_by other nodes
nodes_agree left other nodes each =
    ap (map (λ r. turned_as (left r) r)) (stays_agree (λ r. spent_as (left r)) (λ r. spent_as (other r)) [] nodes (each_weaker (λ r. left r ≡ other r) (λ r. spent_as (left r) ≡ spent_as (other r)) (λ r e. ap spent_as e) nodes each))
    ∙ map_agree (λ r. turned_as (left r) r) (λ r. turned_as (other r) r) (without (λ r. spent_as (other r)) nodes)
    (each_weaker (λ r. left r ≡ other r) (λ r. turned_as (left r) r ≡ turned_as (other r) r) (λ r e. ap (λ (o : Option ℕ). turned_as o r) e) (without (λ r. spent_as (other r)) nodes)
    (each_stays (λ r. left r ≡ other r) (λ r. spent_as (other r)) [] nodes each))

pub each_unpicked : (P : ResourceData → Type 0) (p : ResourceData → Bool) (nodes : List ResourceData) → list_any p nodes ≡ false → ((r : ResourceData) → p r ≡ false → P r) → AllByRecursion P nodes
each_unpicked P p [] none by = tt
each_unpicked P p (r ∷ nodes) none by = let parts = or_parts (p r) (list_any p nodes) none in (by r parts.0, each_unpicked P p nodes parts.1 by)

map-map : (f g : ResourceData → ResourceData) (nodes : List ResourceData) → map f (map g nodes) ≡ map (λ r. f (g r)) nodes
map-map f g [] = refl
map-map f g (r ∷ nodes) = ap (λ (rs : List ResourceData). f (g r) ∷ rs) (map-map f g nodes)

only_number : (n left : ℕ) (r : ResourceData) → (only n left r).number ≡ r.number
only_number n left r = elim (cases_Bool (has_number n r)) [ inl t ↦ rw t refl | inr f ↦ rw f refl ]

only_parent : (n left : ℕ) (r : ResourceData) → (only n left r).parent ≡ r.parent
only_parent n left r = elim (cases_Bool (has_number n r)) [ inl t ↦ rw t refl | inr f ↦ rw f refl ]

-- a step: the one at a number that counts more than is left to it goes, where none is left, or has
-- so many left; and every other stays as it is
by_lowering : (P : List ResourceData → Type 0) (n left : ℕ) (nodes : List ResourceData) → (has_more left (left_at nodes n) ≡ true → (left == 0) ≡ true → P (without (has_number n) nodes)) → (has_more left (left_at nodes n) ≡ true → (left == 0) ≡ false → P (recounted_at n left nodes)) → (has_more left (left_at nodes n) ≡ false → P nodes) → P (lowered_to n left nodes)
by_lowering P n left nodes gone lowered none =
    cond_both (has_more left (left_at nodes n)) _ nodes P
    (λ t. cond_both (left == 0) (without (has_number n) nodes) (recounted_at n left nodes) P (gone t) (lowered t))
    none

-- one number more
module _ (n left : ℕ) (h later : ℕ → Option ℕ) (own : h n ≡ Some left) (gone : later n ≡ None) (others : (m : ℕ) → nat_eq m n ≡ false → h m ≡ later m) (nodes : List ResourceData) (order : ascend nodes ≡ true) where
  is_own : (r : ResourceData) → has_number n r ≡ true → left_by h r ≡ by_more (Some left) (left_to r)
  is_own r t = ap (λ (o : Option ℕ). by_more o (left_to r)) (ap h (eqb-true r.number n t) ∙ own)

  is_later : (r : ResourceData) → has_number n r ≡ true → left_by later r ≡ None
  is_later r t = ap (λ (o : Option ℕ). by_more o (left_to r)) (ap later (eqb-true r.number n t) ∙ gone)

  is_other : (r : ResourceData) → has_number n r ≡ false → left_by h r ≡ left_by later r
  is_other r f = ap (λ (o : Option ℕ). by_more o (left_to r)) (others r.number f)

  -- what is left at the number is left to the one that stands there
  left_there : (r : ResourceData) → has_number n r ≡ true → at r.number nodes ≡ Some r → left_at nodes n ≡ left_to r
  left_there r t found = ap (option_and_then left_to) (ap (λ (m : ℕ). at m nodes) (sym (eqb-true r.number n t)) ∙ found)

  more_there : (b : Bool) → has_more left (left_at nodes n) ≡ b → (r : ResourceData) → has_number n r ≡ true → at r.number nodes ≡ Some r → has_more left (left_to r) ≡ b
  more_there b is r t found = ap (has_more left) (sym (left_there r t found)) ∙ is

  -- it has no more left
  as_before : has_more left (left_at nodes n) ≡ false → nodes_by (left_by h) nodes ≡ nodes_by (left_by later) nodes
  as_before less = nodes_agree (left_by h) (left_by later) nodes (each_of (λ r. left_by h r ≡ left_by later r) nodes order (λ r found.
      elim (cases_Bool (has_number n r)) [
        | inl t ↦ is_own r t ∙ rw (more_there false less r t found) (sym (is_later r t))
        | inr f ↦ is_other r f
      ]))

  -- it goes
  as_gone : has_more left (left_at nodes n) ≡ true → (left == 0) ≡ true → nodes_by (left_by h) nodes ≡ nodes_by (left_by later) (without (has_number n) nodes)
  as_gone more none =
      ap (map (λ r. turned_as (left_by h r) r)) (stays_agree (λ r. spent_as (left_by h r)) (λ r. has_number n r || spent_as (left_by later r)) [] nodes (each_of _ nodes order (λ r found.
      elim (cases_Bool (has_number n r)) [
        | inl t ↦ ap spent_as (is_own r t) ∙ rw (more_there true more r t found, none, t) refl
        | inr f ↦ ap spent_as (is_other r f) ∙ rw f refl
      ])))
      ∙ map_agree (λ r. turned_as (left_by h r) r) (λ r. turned_as (left_by later r) r) (without (λ r. has_number n r || spent_as (left_by later r)) nodes)
      (each_unpicked (λ r. turned_as (left_by h r) r ≡ turned_as (left_by later r) r) (λ r. has_number n r || spent_as (left_by later r)) (without (λ r. has_number n r || spent_as (left_by later r)) nodes) (staying_unpicked (λ r. has_number n r || spent_as (left_by later r)) [] nodes) (λ r unpicked.
      ap (λ (o : Option ℕ). turned_as o r) (is_other r (or_parts (has_number n r) _ unpicked).0)))
      ∙ ap (map (λ r. turned_as (left_by later r) r)) (sym (without_twice (has_number n) (λ r. spent_as (left_by later r)) nodes))

  -- it has so many left
  as_lowered : has_more left (left_at nodes n) ≡ true → (left == 0) ≡ false → nodes_by (left_by h) nodes ≡ nodes_by (left_by later) (recounted_at n left nodes)
  as_lowered more some =
      let g : ResourceData → ResourceData = λ r. only n left r in
      ap (map (λ r. turned_as (left_by h r) r)) (stays_agree (λ r. spent_as (left_by h r)) (λ r. spent_as (left_by later (only n left r))) [] nodes (each_of _ nodes order spent_same))
      ∙ map_agree (λ r. turned_as (left_by h r) r) (λ r. turned_as (left_by later (only n left r)) (only n left r)) (without (λ r. spent_as (left_by later (only n left r))) nodes)
      (each_stays (λ r. turned_as (left_by h r) r ≡ turned_as (left_by later (only n left r)) (only n left r)) (λ r. spent_as (left_by later (only n left r))) [] nodes (each_of _ nodes order turned_same))
      ∙ sym (map-map (λ r. turned_as (left_by later r) r) g (without (λ r. spent_as (left_by later (only n left r))) nodes))
      ∙ ap (map (λ r. turned_as (left_by later r) r)) (sym (staying-map g (λ r. spent_as (left_by later (only n left r))) (λ r. spent_as (left_by later r)) (only_number n left) (only_parent n left) (λ r. refl) [] nodes))
      ∙ ap (λ (rs : List ResourceData). nodes_by (left_by later) rs) (sym (recounted_map n left nodes order))
    where
      spent_same : (r : ResourceData) → at r.number nodes ≡ Some r → spent_as (left_by h r) ≡ spent_as (left_by later (only n left r))
      spent_same r found = elim (cases_Bool (has_number n r)) [
        | inl t ↦ ap spent_as (is_own r t) ∙ rw (more_there true more r t found, some, t) (sym (ap spent_as (is_later (recounted left r) t)))
        | inr f ↦ rw f (ap spent_as (is_other r f))
      ]

      turned_same : (r : ResourceData) → at r.number nodes ≡ Some r → turned_as (left_by h r) r ≡ turned_as (left_by later (only n left r)) (only n left r)
      turned_same r found = elim (cases_Bool (has_number n r)) [
        | inl t ↦ ap (λ (o : Option ℕ). turned_as o r) (is_own r t) ∙ rw (more_there true more r t found, t) (sym (ap (λ (o : Option ℕ). turned_as o (recounted left r)) (is_later (recounted left r) t)))
        | inr f ↦ rw f (ap (λ (o : Option ℕ). turned_as o r) (is_other r f))
      ]

  one_lowered : nodes_by (left_by h) nodes ≡ nodes_by (left_by later) (lowered_to n left nodes)
  one_lowered = by_lowering (λ (rs : List ResourceData). nodes_by (left_by h) nodes ≡ nodes_by (left_by later) rs) n left nodes as_gone as_lowered as_before

-- ---- all of them

-- no number stands twice
abbrev pub AreOnce : List (ℕ × ℕ) → Type 0
AreOnce [] = Unit {0}
AreOnce (row ∷ rows) = (left_in rows row.0 ≡ None) × AreOnce rows

-- numbers in order stand once
lookup_above : (n : ℕ) (rows : List (ℕ × ℕ)) → AllByRecursion (λ m. nat_cmp n m ≡ Less) (keys_of rows) → left_in rows n ≡ None
lookup_above n [] above = refl
lookup_above n (row ∷ rows) above = rw above.0 (lookup_above n rows above.1)

pub once_sorted : (rows : List (ℕ × ℕ)) → IsStrictlySortedBy nat_cmp (keys_of rows) → AreOnce rows
unfolding IsStrictlySortedBy
once_sorted [] sorted = tt
once_sorted (row ∷ rows) sorted = (lookup_above row.0 rows sorted.0, once_sorted rows sorted.1)

-- a step leaves a tree
tree_lowered : (n left : ℕ) (nodes : List ResourceData) → is_tree nodes ≡ true → is_tree (lowered_to n left nodes) ≡ true
tree_lowered n left nodes tree =
    by_lowering (λ (rs : List ResourceData). is_tree rs ≡ true) n left nodes
    (λ t z. is_tree-without (has_number n) nodes tree)
    (λ t s. tree_recounted nodes n left tree (more_counts n left nodes t))
    (λ f. tree)

-- and so do steps one after another
pub tree_all_lowered : (rows : List (ℕ × ℕ)) (nodes : List ResourceData) → is_tree nodes ≡ true → is_tree (all_lowered_to rows nodes) ≡ true
tree_all_lowered [] nodes tree = tree
tree_all_lowered (row ∷ rows) nodes tree = tree_all_lowered rows (lowered_to row.0 row.1 nodes) (tree_lowered row.0 row.1 nodes tree)

pub others_after : (row : ℕ × ℕ) (rows : List (ℕ × ℕ)) (m : ℕ) → nat_eq m row.0 ≡ false → left_in (row ∷ rows) m ≡ left_in rows m
others_after row rows m other = rw (same_number m row.0 ∙ other) refl

pub own_first : (row : ℕ × ℕ) (rows : List (ℕ × ℕ)) → left_in (row ∷ rows) row.0 ≡ Some row.1
own_first row rows = rw (same_number row.0 row.0 ∙ eq-eqb row.0 row.0 refl) refl

nothing_by : (nodes : List ResourceData) → is_tree nodes ≡ true → nodes ≡ nodes_by (left_by (left_in [])) nodes
nothing_by nodes tree = sym (ap (map (λ r. turned_as (left_by (left_in []) r) r)) (without_none (λ r. spent_as (left_by (left_in []) r)) nodes tree (none_as nodes)) ∙ all_as nodes)
  where
    none_as : (rs : List ResourceData) → list_any (λ r. spent_as (left_by (left_in []) r)) rs ≡ false
    none_as [] = refl
    none_as (r ∷ rs) = none_as rs

    all_as : (rs : List ResourceData) → map (λ r. turned_as (left_by (left_in []) r) r) rs ≡ rs
    all_as [] = refl
    all_as (r ∷ rs) = ap (λ (ss : List ResourceData). r ∷ ss) (all_as rs)

pub all_lowered_by : (rows : List (ℕ × ℕ)) (nodes : List ResourceData) → is_tree nodes ≡ true → AreOnce rows → all_lowered_to rows nodes ≡ nodes_by (left_by (left_in rows)) nodes
all_lowered_by [] nodes tree once = nothing_by nodes tree
all_lowered_by (row ∷ rows) nodes tree once =
    all_lowered_by rows (lowered_to row.0 row.1 nodes) (tree_lowered row.0 row.1 nodes tree) once.1
    ∙ sym (one_lowered row.0 row.1 (left_in (row ∷ rows)) (left_in rows) (own_first row rows) once.0 (others_after row rows) nodes (tree_ascends nodes tree))

-- ---- and so they are those that what was told lowers

module _ (before : List ResourceData) (drafts : List DraftParts) (after : List ResourceData) (tree : is_tree after ≡ true) (kinds : (r : ResourceData) (old : ℕ) → at r.number after ≡ Some r → left_to r ≡ Some old → 1 ≤ old) (leaves : LeavesWhoIsTold before drafts after) where
  left_same : (r : ResourceData) → at r.number after ≡ Some r → left_by (spent before drafts) r ≡ left_of drafts r
  left_same r found = elim (cases_Bool (count_for r.number drafts == 0)) [
    | inl z ↦ rw z refl
    | inr s ↦ rw (s, sym (leaves r found s)) (by (left_to r) refl s)
  ]
    where
      by : (o : Option ℕ) → left_to r ≡ o → (count_for r.number drafts == 0) ≡ false → by_more (option_map (λ left. left - count_for r.number drafts) o) o ≡ option_map (λ left. left - count_for r.number drafts) o
      by None is some = refl
      by (Some old) is some =
          let low : 1 ≤ old = kinds r old found is in
          let told : 1 ≤ count_for r.number drafts = not_none (count_for r.number drafts) some in
          let less : old - count_for r.number drafts < old = omega arith in
          rw (lt-ltb (old - count_for r.number drafts) old less) refl

  -- rows that say what is left lower what was told
  pub lowered_is : (rows : List (ℕ × ℕ)) → AreOnce rows → ((n : ℕ) → left_in rows n ≡ spent before drafts n) → all_lowered_to rows after ≡ nodes_spent drafts after
  lowered_is rows once says =
      all_lowered_by rows after tree once
      ∙ nodes_agree (left_by (left_in rows)) (left_of drafts) after (each_of (λ r. left_by (left_in rows) r ≡ left_of drafts r) after (tree_ascends after tree) (λ r found.
      ap (λ (o : Option ℕ). by_more o (left_to r)) (says r.number) ∙ left_same r found))
