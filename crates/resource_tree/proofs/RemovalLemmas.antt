-- Removals that take one resource after another.
use Rattle.std.specs.Prelude.{nat_eq, nat_le}
use Rattle.std.proofs.Common.{◌≡◌, ◌==◌, ℕ, zero, suc, ◌-◌, ◌<◌, ◌≤◌, List, [], ◌∷◌, ◌++◌, length, Bool, true, false, cond, not, ◌&&◌, ◌||◌, Option, Some, None, inl, inr, refl, sym, ap, ◌∙◌, subst, arith}
use Rattle.std.proofs.lemmas.Bool.{cases_Bool, and_parts, both_ways, eq-eqb, eqb-true, false_from_ne_true, le-leb, ne_eqb, or_parts}
use Rattle.std.proofs.lemmas.Option.{same_Some}
use Rattle.std.specs.List.{filter, list_all, list_any, slice_get}
use Rattle.std.specs.Option.{option_and_then, option_map_or}
use Rattle.resource_model.specs.Resource.{ResourceData, has_number}
use Rattle.tree_model.specs.Tree.{at, children_of, due, has, has_come, is_due, is_numbered_in, is_quiet, is_spared, is_tree, last_number, line_of, live, next_after, resource_number, staying, stays, without, without_all}
use Rattle.tree_model.proofs.ChangeLemmas.{line_none}
use Rattle.tree_model.proofs.GrowthLemmas.{at-without, has-filter, has-without, stands, without-spared}
use Rattle.tree_model.proofs.KeptLemmas.{is_tree-without}
use Rattle.tree_model.proofs.LiveLemmas.{due-without, spared_parent, without_none}
use Rattle.tree_model.proofs.OrderLemmas.{child_under, number_some, placed_stands}
use Rattle.tree_model.proofs.QuietLemmas.{all_by_number}
use Rattle.tree_model.proofs.TreeLemmas.{at_has, has_at, staying_wider}
use Rattle.resource_dues.specs.Dues.{due_at}
use Rattle.resource_dues.proofs.DuesLemmas.{without_among}
use Rattle.resource_store.proofs.LeafLemmas.{leaf_without, others}
use Rattle.resource_store.proofs.NextLemmas.{next_above, next_stands, until_end, until_next, until_zero}

-- ---- what doesn't stay may go first

skipped : (p : ResourceData → Bool) (d : ℕ) (stayed nodes : List ResourceData) → has d (staying p stayed nodes) ≡ false → staying p stayed (others d nodes) ≡ staying p stayed nodes
skipped p d stayed [] gone = refl
skipped p d stayed (r ∷ nodes) gone = elim (cases_Bool (has_number d r)) [
  | inl t ↦ elim (cases_Bool (stays p stayed r)) [
    | inl u ↦ absurd (let parts = or_parts (has_number d r) (has d (staying p (stayed ++ r ∷ []) nodes)) (rw u at gone) in both_ways _ parts.0 t)
    | inr v ↦ rw (t, v) (skipped p d stayed nodes (rw v at gone))
  ]
  | inr f ↦ elim (cases_Bool (stays p stayed r)) [
    | inl u ↦
        let parts = or_parts (has_number d r) (has d (staying p (stayed ++ r ∷ []) nodes)) (rw u at gone) in
        rw (f, u) (ap (λ (rs : List ResourceData). r ∷ rs) (skipped p d (stayed ++ r ∷ []) nodes parts.1))
    | inr v ↦ rw (f, v) (skipped p d stayed nodes (rw v at gone))
  ]
]

-- a leaf that a removal takes may go before it
pub leaf_first : (p : ResourceData → Bool) (nodes : List ResourceData) (d : ℕ) → is_tree nodes ≡ true → children_of d nodes ≡ [] → has d (without p nodes) ≡ false → without p (without (has_number d) nodes) ≡ without p nodes
leaf_first p nodes d tree alone gone = ap (without p) (leaf_without d nodes tree alone) ∙ skipped p d [] nodes gone

-- ---- what goes with what

-- a child goes with its parent
pub goes_down : (p : ResourceData → Bool) (nodes : List ResourceData) (c : ResourceData) → is_tree nodes ≡ true → at c.number nodes ≡ Some c → has c.parent nodes ≡ true → has c.parent (without p nodes) ≡ false → has c.number (without p nodes) ≡ false
goes_down p nodes c tree found there gone = false_from_ne_true _ (λ stayed.
    let parts = and_parts (has c.number nodes) (is_spared p nodes c.number) (sym (has-without p c.number nodes tree) ∙ stayed) in
    let up : is_spared p nodes c.parent ≡ true = spared_parent p nodes c tree found parts.1 in
    both_ways _ gone (has-without p c.parent nodes tree ∙ ap (λ b. b && is_spared p nodes c.parent) there ∙ up))

-- where a resource that isn't picked goes, its parent does
pub goes_up : (p : ResourceData → Bool) (nodes : List ResourceData) (c : ResourceData) → is_tree nodes ≡ true → at c.number nodes ≡ Some c → p c ≡ false → has c.number (without p nodes) ≡ false → (has c.parent nodes ≡ true) × (has c.parent (without p nodes) ≡ false)
goes_up p nodes c tree found unpicked gone =
    let spared : is_spared p nodes c.number ≡ is_spared p nodes c.parent = ap (λ (rs : List ResourceData). not (list_any p rs)) (stands nodes tree c.number c found).line ∙ ap (λ b. not (b || list_any p (line_of c.parent nodes))) unpicked in
    let out : is_spared p nodes c.number ≡ false = sym (ap (λ b. b && is_spared p nodes c.number) (at_has c.number nodes c found)) ∙ sym (has-without p c.number nodes tree) ∙ gone in
    let up : is_spared p nodes c.parent ≡ false = sym spared ∙ out in
    let there : has c.parent nodes ≡ true = elim (cases_Bool (has c.parent nodes)) [
      | inl t ↦ t
      | inr f ↦ absurd (let nothing : line_of c.parent nodes ≡ [] = line_none c.parent nodes tree f in both_ways _ up (ap (λ (rs : List ResourceData). not (list_any p rs)) nothing))
    ] in
    (there, has-without p c.parent nodes tree ∙ ap (λ b. b && is_spared p nodes c.parent) there ∙ up)

-- what is picked goes
pub number_goes : (n : ℕ) (nodes : List ResourceData) → is_tree nodes ≡ true → has n (without (has_number n) nodes) ≡ false
number_goes n nodes tree = false_from_ne_true _ (λ stayed.
    let parts = and_parts (has n nodes) (is_spared (has_number n) nodes n) (sym (has-without (has_number n) n nodes tree) ∙ stayed) in
    let own = has_at n nodes parts.0 in
    let here : has_number n own.0 ≡ true = eq-eqb own.0.number n own.2 in
    both_ways _ (ap (λ (rs : List ResourceData). not (list_any (has_number n) rs)) (stands nodes tree n own.0 own.1).line ∙ ap (λ b. not (b || list_any (has_number n) (line_of own.0.parent nodes))) here) parts.1)

fewer_left : (keep : ResourceData → Bool) (n : ℕ) (nodes : List ResourceData) (r : ResourceData) → at n nodes ≡ Some r → keep r ≡ false → length (filter keep nodes) < length nodes
fewer_left keep n [] r found out = cc
fewer_left keep n (s ∷ nodes) r found out = elim (cases_Bool (has_number n s)) [
  | inl t ↦
      let gone : keep s ≡ false = ap keep (same_Some s r (rw t at found)) ∙ out in
      let few = at_most nodes in
      rw gone (omega arith)
  | inr f ↦
      let less = fewer_left keep n nodes r (rw f at found) out in
      elim (cases_Bool (keep s)) [
        | inl t ↦ rw t (omega arith)
        | inr g ↦ rw g (omega arith)
      ]
]
  where
    at_most : (rs : List ResourceData) → length (filter keep rs) ≤ length rs
    at_most [] = omega arith
    at_most (x ∷ rs) =
        let rest = at_most rs in
        elim (cases_Bool (keep x)) [
          | inl t ↦ rw t (omega arith)
          | inr g ↦ rw g (omega arith)
        ]

-- then fewer are left
pub fewer : (n : ℕ) (nodes : List ResourceData) → is_tree nodes ≡ true → has n nodes ≡ true → length (without (has_number n) nodes) < length nodes
fewer n nodes tree there =
    let own = has_at n nodes there in
    let here : has_number n own.0 ≡ true = eq-eqb own.0.number n own.2 in
    let out : is_spared (has_number n) nodes own.0.number ≡ false = ap (is_spared (has_number n) nodes) own.2 ∙ ap (λ (rs : List ResourceData). not (list_any (has_number n) rs)) (stands nodes tree n own.0 own.1).line ∙ ap (λ b. not (b || list_any (has_number n) (line_of own.0.parent nodes))) here in
    subst (λ (rs : List ResourceData). length rs < length nodes) (sym (without-spared (has_number n) nodes tree)) (fewer_left (λ r. is_spared (has_number n) nodes r.number) n nodes own.0 own.1 out)

-- ---- the newest child

pub child_step : (p : ℕ) (nodes : List ResourceData) (child : ℕ) → is_tree nodes ≡ true → Some child ≡ last_number (children_of p nodes) → (c : ResourceData) × (at child nodes ≡ Some c) × (c.number ≡ child) × (c.parent ≡ p)
child_step p nodes child tree is =
    let there = number_some (slice_get (children_of p nodes) (length (children_of p nodes) - 1)) child is in
    let stood : at there.0.number nodes ≡ Some there.0 = placed_stands _ nodes _ there.0 tree there.1 in
    (there.0, ap (λ k. at k nodes) (sym there.2) ∙ stood, there.2, child_under p nodes _ there.0 there.1)

some_last : (r : ResourceData) (rs : List ResourceData) (i : ℕ) → i ≡ length rs → slice_get (r ∷ rs) i ≡ None → ⊥
some_last r [] zero same none = cc
some_last r [] (suc i) same none = omega arith
some_last r (s ∷ rs) zero same none = omega arith
some_last r (s ∷ rs) (suc i) same none = some_last s rs i (omega arith) none

no_number : (o : Option ResourceData) → None ≡ resource_number o → o ≡ None
no_number None none = refl
no_number (Some r) none = cc

pub none_last : (rs : List ResourceData) → None ≡ last_number rs → rs ≡ []
none_last [] none = refl
none_last (r ∷ rs) none = absurd (some_last r rs (length (r ∷ rs) - 1) (omega arith) (no_number (slice_get (r ∷ rs) (length (r ∷ rs) - 1)) none))

-- a step down: the child stands there, later, and goes where its parent goes
pub step_down : (p : ℕ) (nodes : List ResourceData) (child : ℕ) → is_tree nodes ≡ true → has p nodes ≡ true → Some child ≡ last_number (children_of p nodes) → (has child nodes ≡ true) × (p < child) × ((picks : ResourceData → Bool) → has p (without picks nodes) ≡ false → has child (without picks nodes) ≡ false)
step_down p nodes child tree there is =
    let own = child_step p nodes child tree is in
    let above = (stands nodes tree child own.0 own.1).above in
    let under : own.0.parent ≡ p = own.3 in (
      at_has child nodes own.0 own.1,
      omega (arith, above, under),
      λ picks gone. ap (λ k. has k (without picks nodes)) (sym own.2) ∙ goes_down picks nodes own.0 tree (ap (λ k. at k nodes) own.2 ∙ own.1) (ap (λ k. has k nodes) under ∙ there) (ap (λ k. has k (without picks nodes)) under ∙ gone),
    )

-- ---- a resource goes from its newest descendant up

-- what is left to be removed is what it was, and a leaf of it is at hand
pub record IsGoing (n leaf : ℕ) (before nodes : List ResourceData) : Type 0 where
  pub whole : without (has_number n) nodes ≡ without (has_number n) before
  pub alone : children_of leaf nodes ≡ []
  pub there : has leaf nodes ≡ true
  pub goes : has leaf (without (has_number n) nodes) ≡ false

-- its parent, once the leaf has gone
pub going_up : (n leaf parent : ℕ) (before nodes left : List ResourceData) → is_tree nodes ≡ true → IsGoing n leaf before nodes → nat_eq leaf n ≡ false → parent ≡ option_map_or (λ (r : ResourceData). r.parent) (at leaf nodes) 0 → left ≡ without (has_number leaf) nodes → (without (has_number n) left ≡ without (has_number n) before) × (has parent left ≡ true) × (has parent (without (has_number n) left) ≡ false)
going_up n leaf parent before nodes left tree is apart up gone =
    let own = has_at leaf nodes is.there in
    let found : at own.0.number nodes ≡ Some own.0 = ap (λ k. at k nodes) own.2 ∙ own.1 in
    let unpicked : has_number n own.0 ≡ false = ap (λ k. nat_eq k n) own.2 ∙ apart in
    let above = goes_up (has_number n) nodes own.0 tree found unpicked (ap (λ k. has k (without (has_number n) nodes)) own.2 ∙ is.goes) in
    let parent_is : parent ≡ own.0.parent = up ∙ ap (λ (o : Option ResourceData). option_map_or (λ (r : ResourceData). r.parent) o 0) own.1 in
    let lower : own.0.parent < leaf = (stands nodes tree leaf own.0 own.1).above in
    let same : without (has_number n) left ≡ without (has_number n) nodes = ap (without (has_number n)) gone ∙ leaf_first (has_number n) nodes leaf tree is.alone is.goes in
    let other : not (parent == leaf) ≡ true = ap not (ne_eqb parent leaf (λ e. (let a = parent_is in omega arith))) in (
      same ∙ is.whole,
      ap (has parent) (gone ∙ leaf_without leaf nodes tree is.alone) ∙ has-filter (λ k. not (k == leaf)) parent nodes ∙ ap (λ b. b && not (parent == leaf)) (ap (λ k. has k nodes) parent_is ∙ above.0) ∙ other,
      ap (has parent) same ∙ ap (λ k. has k (without (has_number n) nodes)) parent_is ∙ above.1,
    )

-- ---- several go one after another

pub one_then_others : (n : ℕ) (ns : List ℕ) (nodes : List ResourceData) → is_tree nodes ≡ true → without_all ns (without (has_number n) nodes) ≡ without_all (n ∷ ns) nodes
one_then_others n ns nodes tree =
    let left = without (has_number n) nodes in
    without_among (is_numbered_in ns) (is_numbered_in (n ∷ ns)) left (is_tree-without (has_number n) nodes tree) (λ s found.
    elim (cases_Bool (nat_eq s.number n)) [
      | inl t ↦ absurd (both_ways _ (number_goes n nodes tree) (ap (λ k. has k left) (sym (eqb-true s.number n t)) ∙ at_has s.number left s found))
      | inr f ↦ sym (ap (λ b. b || list_any (nat_eq s.number) ns) f)
    ])
    ∙ staying_wider (has_number n) (is_numbered_in (n ∷ ns)) (λ r t. ap (λ b. b || list_any (nat_eq r.number) ns) t) [] [] nodes (λ k there. there)

-- or from the last to the first
last_too : (m n : ℕ) (ns : List ℕ) → (nat_eq m n || list_any (nat_eq m) ns) ≡ list_any (nat_eq m) (ns ++ n ∷ [])
last_too m n [] = refl
last_too m n (k ∷ ns) = elim (cases_Bool (nat_eq m k)) [
  | inl t ↦ elim (cases_Bool (nat_eq m n)) [
    | inl u ↦ rw (t, u) refl
    | inr v ↦ rw (t, v) refl
  ]
  | inr f ↦ rw f (last_too m n ns)
]

pub others_then_one : (n : ℕ) (ns : List ℕ) (nodes : List ResourceData) → is_tree nodes ≡ true → without_all ns (without (has_number n) nodes) ≡ without_all (ns ++ n ∷ []) nodes
others_then_one n ns nodes tree =
    one_then_others n ns nodes tree
    ∙ without_among (is_numbered_in (n ∷ ns)) (is_numbered_in (ns ++ n ∷ [])) nodes tree (λ s found. last_too s.number n ns)

-- ---- what is due goes one after another

-- what stands until a number isn't due
abbrev pub ArePast : ℕ → ℕ → List ResourceData → Type 0
ArePast last moment nodes = (r : ResourceData) → at r.number nodes ≡ Some r → r.number ≤ last → is_due nodes moment r ≡ false

pub past_start : (moment : ℕ) (nodes : List ResourceData) → is_tree nodes ≡ true → ArePast 0 moment nodes
past_start moment nodes tree r found low = absurd (let above : 0 < r.number = until_zero nodes r tree found in omega arith)

next_number : (last n : ℕ) (nodes : List ResourceData) → is_tree nodes ≡ true → Some n ≡ resource_number (next_after last nodes) → (x : ResourceData) × (next_after last nodes ≡ Some x) × (x.number ≡ n) × (at n nodes ≡ Some x)
next_number last n nodes tree is =
    let there = number_some (next_after last nodes) n is in
    (there.0, there.1, there.2, ap (λ k. at k nodes) (sym there.2) ∙ next_stands last nodes there.0 tree there.1)

pub next_later : (last n : ℕ) (nodes : List ResourceData) → Some n ≡ resource_number (next_after last nodes) → last < n
next_later last n nodes is =
    let there = number_some (next_after last nodes) n is in
    let above : last < there.0.number = next_above last nodes there.0 there.1 in
    let same : there.0.number ≡ n = there.2 in
    omega arith

-- one that isn't due stays
pub past_kept : (last n moment : ℕ) (nodes : List ResourceData) → is_tree nodes ≡ true → Some n ≡ resource_number (next_after last nodes) → option_map_or (has_come moment) (due_at n nodes) false ≡ false → ArePast last moment nodes → ArePast n moment nodes
past_kept last n moment nodes tree is late past r found low =
    let own = next_number last n nodes tree is in
    let number : own.0.number ≡ n = own.2 in
    elim (until_next last nodes own.0 r tree own.1 found (omega arith)) [
      | inl old ↦ past r found old
      | inr same ↦ ap (is_due nodes moment) same ∙ sym (ap (λ (o : Option ResourceData). option_map_or (has_come moment) (option_and_then (λ (s : ResourceData). due nodes s) o) false) own.3) ∙ late
    ]

-- one that is due goes
pub past_gone : (last n moment : ℕ) (nodes left : List ResourceData) → is_tree nodes ≡ true → Some n ≡ resource_number (next_after last nodes) → left ≡ without (has_number n) nodes → ArePast last moment nodes → ArePast n moment left
past_gone last n moment nodes left tree is gone past = subst (λ (rs : List ResourceData). ArePast n moment rs) (sym gone) (λ r found low.
    let own = next_number last n nodes tree is in
    let number : own.0.number ≡ n = own.2 in
    let stayed = found_spared (is_spared (has_number n) nodes r.number) (at r.number nodes) r (sym (at-without (has_number n) r.number nodes tree) ∙ found) in
    elim (until_next last nodes own.0 r tree own.1 stayed.1 (omega arith)) [
      | inl old ↦ ap (λ (o : Option ℕ). option_map_or (has_come moment) o false) (due-without (has_number n) nodes r tree stayed.1 stayed.0) ∙ past r stayed.1 old
      | inr same ↦ absurd (both_ways _ (number_goes n nodes tree) (ap (λ k. has k (without (has_number n) nodes)) (sym (ap (λ (x : ResourceData). x.number) same ∙ number)) ∙ at_has r.number (without (has_number n) nodes) r found))
    ])
  where
    found_spared : (b : Bool) (o : Option ResourceData) (r : ResourceData) → cond b o None ≡ Some r → (b ≡ true) × (o ≡ Some r)
    found_spared true o r e = (refl, e)
    found_spared false o r e = cc

none_any : (q : ResourceData → Bool) (rs : List ResourceData) → list_all (λ r. not (q r)) rs ≡ true → list_any q rs ≡ false
none_any q [] all = refl
none_any q (r ∷ rs) all =
    let parts = and_parts (not (q r)) (list_all (λ s. not (q s)) rs) all in
    elim (cases_Bool (q r)) [
      | inl t ↦ absurd (both_ways _ (ap not t) parts.0)
      | inr f ↦ rw f (none_any q rs parts.1)
    ]

-- where all stand until the number, all are live
pub past_end : (last moment : ℕ) (nodes : List ResourceData) → is_tree nodes ≡ true → None ≡ resource_number (next_after last nodes) → ArePast last moment nodes → live moment nodes ≡ nodes
past_end last moment nodes tree none past =
    without_none (is_due nodes moment) nodes tree
    (none_any (is_due nodes moment) nodes (all_by_number (λ r. not (is_due nodes moment r)) nodes tree (λ r found. ap not (past r found (until_end last nodes r (no_number (next_after last nodes) none) found)))))

-- nothing is due before the moment 0
pub quiet_from_zero : (among nodes : List ResourceData) → list_all (is_quiet among 0) nodes ≡ true
quiet_from_zero among [] = refl
quiet_from_zero among (r ∷ nodes) = ap (λ b. b && list_all (is_quiet among 0) nodes) (by (due among r)) ∙ quiet_from_zero among nodes
  where
    by : (o : Option ℕ) → option_map_or (λ at. nat_le 0 at) o true ≡ true
    by None = refl
    by (Some d) = le-leb 0 d (omega arith)
