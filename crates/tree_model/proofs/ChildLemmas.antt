-- The children of a resource by their places and types. Nothing stands under an instance.
use Rattle.std.specs.Prelude.{slice_get}
use Rattle.std.proofs.Common.{◌≡◌, ℕ, zero, suc, ◌<◌, ◌≤◌, List, [], ◌∷◌, length, Bool, true, false, not, ◌&&◌, ◌||◌, Option, Some, None, inl, inr, refl, sym, ap, ◌∙◌, subst, arith}
use Rattle.std.proofs.lemmas.Bool.{and_from, and_parts, both_ways, cases_Bool, eq-eqb, eqb-true, false_from_ne_true, not_from_false, not-true}
use Rattle.std.proofs.lemmas.Option.{same_Some}
use Rattle.std.specs.List.{filter, list_all}
use Rattle.std.specs.Option.{option_map_or}
use Rattle.m2m_names.proofs.TypeLemmas.{same_type}
use Rattle.m2m_names.specs.Types.{does_take}
use Rattle.m2m_names.specs.declared.types.Ty.{Ty}
use Rattle.m2m_names.specs.declared.types.Ty.TheVariants.{ContentInstance, Subscription}
use Rattle.resource_model.specs.Resource.{ResourceData, has_number, is_ty}
use Rattle.tree_model.specs.Tree.{at, children_of, has, instances_of, is_kin, is_taken, is_tree, is_under, is_well_formed, kin_of, number_at, subs_of}
use Rattle.tree_model.proofs.BelowLemmas.{child_in_line, in_line}
use Rattle.tree_model.proofs.GrowthLemmas.{stands, tree_from_well_formed}
use Rattle.tree_model.proofs.OrderLemmas.{child_under, number_some, placed_stands}
use Rattle.tree_model.proofs.QuietLemmas.{all_by_number, number_passes}
use Rattle.tree_model.proofs.TakenLemmas.{all_taken}
use Rattle.tree_model.proofs.TreeLemmas.{at_has}

-- ---- places

-- where none stands at a place, there are no more than that
pub no_place : (k : ℕ) (rs : List ResourceData) → None ≡ number_at k rs → length rs ≤ k
no_place k [] none = omega arith
no_place zero (r ∷ rs) none = (let both : None ≡ Some r.number = none in cc)
no_place (suc k) (r ∷ rs) none = (let rest = no_place k rs none in omega (arith, rest))

-- there is no place behind the last
pub none_past : (k : ℕ) (rs : List ResourceData) (m : ℕ) → length rs ≤ k → Some m ≡ number_at k rs → ⊥
none_past k [] m most is = cc
none_past zero (r ∷ rs) m most is = omega (arith, most)
none_past (suc k) (r ∷ rs) m most is = none_past k rs m (omega (arith, most)) is

-- where there is no first, there is none
pub none_first : (rs : List ResourceData) → None ≡ number_at 0 rs → rs ≡ []
none_first [] none = refl
none_first (r ∷ rs) none = (let both : None ≡ Some r.number = none in cc)

-- what a test picks has a place among what it picks
pub found_place : (p : ResourceData → Bool) (nodes : List ResourceData) (n : ℕ) (c : ResourceData) → at n nodes ≡ Some c → p c ≡ true → (k : ℕ) × (slice_get (filter p nodes) k ≡ Some c)
found_place p [] n c found t = cc
found_place p (s ∷ nodes) n c found t = elim (cases_Bool (has_number n s)) [
  | inl own ↦
      let is : s ≡ c = same_Some s c (rw own at found) in
      let passes : p s ≡ true = ap p is ∙ t in
      (0, rw passes (ap Some is))
  | inr other ↦
      let rest = found_place p nodes n c (rw other at found) t in
      elim (cases_Bool (p s)) [
        | inl u ↦ (suc rest.0, rw u rest.1)
        | inr v ↦ (rest.0, rw v rest.1)
      ]
]

-- ---- children at places

-- there are no more children than resources
pub children_few : (n : ℕ) (nodes : List ResourceData) → length (children_of n nodes) ≤ length nodes
children_few n nodes = filter_few (is_under n) nodes
  where
    filter_few : (p : ResourceData → Bool) (rs : List ResourceData) → length (filter p rs) ≤ length rs
    filter_few p [] = omega arith
    filter_few p (r ∷ rs) =
        let rest = filter_few p rs in
        elim (cases_Bool (p r)) [ inl t ↦ rw t (omega (arith, rest)) | inr f ↦ rw f (omega (arith, rest)) ]

-- a child stands there
pub child_there : (nodes : List ResourceData) → is_tree nodes ≡ true → (n k m : ℕ) → Some m ≡ number_at k (children_of n nodes) → has m nodes ≡ true
child_there nodes tree n k m is =
    let got = number_some (slice_get (children_of n nodes) k) m is in
    at_has m nodes got.0 (ap (λ (j : ℕ). at j nodes) (sym got.2) ∙ placed_stands (is_under n) nodes k got.0 tree got.1)

-- numbers grow on the way down
pub child_above : (nodes : List ResourceData) → is_tree nodes ≡ true → (n k m : ℕ) → Some m ≡ number_at k (children_of n nodes) → n < m
child_above nodes tree n k m is =
    let there = number_some (slice_get (children_of n nodes) k) m is in
    let under : there.0.parent ≡ n = child_under n nodes k there.0 there.1 in
    let found : at there.0.number nodes ≡ Some there.0 = placed_stands (is_under n) nodes k there.0 tree there.1 in
    let lower : there.0.parent < there.0.number = (stands nodes tree there.0.number there.0 found).above in
    omega (arith, under, lower, there.2)

-- ---- what a test picks none of

pub none_picked : (p : ResourceData → Bool) (nodes : List ResourceData) → filter p nodes ≡ [] → list_all (λ s. not (p s)) nodes ≡ true
none_picked p [] none = refl
none_picked p (s ∷ nodes) none = elim (cases_Bool (p s)) [
  | inl t ↦ (let some : s ∷ filter p nodes ≡ [] = rw t at none in cc)
  | inr f ↦ rw f (none_picked p nodes (rw f at none))
]

pub picks_none : (p : ResourceData → Bool) (nodes : List ResourceData) → list_all (λ s. not (p s)) nodes ≡ true → filter p nodes ≡ []
picks_none p [] none = refl
picks_none p (s ∷ nodes) none =
    let parts = and_parts (not (p s)) (list_all (λ r. not (p r)) nodes) none in
    rw (not-true (p s) parts.0) (picks_none p nodes parts.1)

-- no subscription stands under a resource that has none
pub sub_listed : (nodes : List ResourceData) (n : ℕ) (t : ResourceData) → at t.number nodes ≡ Some t → is_ty t.ty Subscription ≡ true → t.parent ≡ n → subs_of n nodes ≡ [] → ⊥
sub_listed nodes n t found sub under none =
    both_ways _ (not-true (is_kin Subscription n t) (number_passes (λ s. not (is_kin Subscription n s)) t.number nodes t (none_picked (is_kin Subscription n) nodes none) found))
    (and_from _ _ (eq-eqb t.parent n under) sub)

-- ---- children that are all instances

fewer : (p q : ResourceData → Bool) (rs : List ResourceData) → length (filter (λ r. p r && q r) rs) ≤ length (filter p rs)
fewer p q [] = omega arith
fewer p q (r ∷ rs) =
    let rest = fewer p q rs in
    elim (cases_Bool (p r)) [
      | inl t ↦ elim (cases_Bool (q r)) [
        | inl u ↦ rw (t, u) (omega (arith, rest))
        | inr v ↦ rw (t, v) (omega (arith, rest))
      ]
      | inr f ↦ rw f rest
    ]

-- as many of both kinds as of the one are all of both
all_both : (p q : ResourceData → Bool) (rs : List ResourceData) → length (filter p rs) ≤ length (filter (λ r. p r && q r) rs) → list_all (λ r. not (p r) || q r) rs ≡ true
all_both p q [] most = refl
all_both p q (r ∷ rs) most = elim (cases_Bool (p r)) [
  | inl t ↦ elim (cases_Bool (q r)) [
    | inl u ↦
        let same : suc (length (filter p rs)) ≤ suc (length (filter (λ s. p s && q s) rs)) = rw (t, u) at most in
        rw (t, u) (all_both p q rs (omega (arith, same)))
    | inr v ↦
        let bad : suc (length (filter p rs)) ≤ length (filter (λ s. p s && q s) rs) = rw (t, v) at most in
        let less = fewer p q rs in
        absurd (omega (arith, bad, less))
  ]
  | inr f ↦ rw f (all_both p q rs (rw f at most))
]

-- where no child stands behind as many as there are instances, each child is an instance
pub all_instances : (nodes : List ResourceData) (n count : ℕ) → count ≡ length (instances_of n nodes) → None ≡ number_at count (children_of n nodes) → (s : ResourceData) → at s.number nodes ≡ Some s → s.parent ≡ n → is_ty s.ty ContentInstance ≡ true
all_instances nodes n count is none s found under =
    let most : length (children_of n nodes) ≤ length (instances_of n nodes) = subst (λ (k : ℕ). length (children_of n nodes) ≤ k) is (no_place count (children_of n nodes) none) in
    by_under (is_under n s) (is_ty s.ty ContentInstance) (eq-eqb s.parent n under)
    (number_passes (λ r. not (is_under n r) || is_ty r.ty ContentInstance) s.number nodes s (all_both (is_under n) (λ r. is_ty r.ty ContentInstance) nodes most) found)
  where
    by_under : (a b : Bool) → a ≡ true → (not a || b) ≡ true → b ≡ true
    by_under true b t held = held
    by_under false b t held = absurd (both_ways _ refl t)

-- ---- nothing stands under an instance

-- an instance takes nothing
pub no_instance_takes : (r : ResourceData) (ty : Ty) → does_take r.ty ty ≡ true → is_ty r.ty ContentInstance ≡ false
no_instance_takes r ty takes = false_from_ne_true _ (λ is.
    let kind : r.ty ≡ ContentInstance = same_type r.ty ContentInstance (eqb-true _ _ is) in
    both_ways _ refl (ap (λ (t : Ty). does_take t ty) (sym kind) ∙ takes))

module _ (nodes : List ResourceData) (formed : is_well_formed nodes ≡ true) where
  tree : is_tree nodes ≡ true
  tree = tree_from_well_formed nodes formed

  -- what a resource stands under takes its type
  pub parent_takes : (s p : ResourceData) → at s.number nodes ≡ Some s → at s.parent nodes ≡ Some p → does_take p.ty s.ty ≡ true
  parent_takes s p found above =
      let taken : is_taken nodes s ≡ true = number_passes (is_taken nodes) s.number nodes s (all_taken nodes formed) found in
      sym (ap (λ (o : Option ResourceData). option_map_or (λ q. does_take q.ty s.ty) o true) above) ∙ taken

  module _ (c : ResourceData) (found : at c.number nodes ≡ Some c) (instance : is_ty c.ty ContentInstance ≡ true) where
    pub under_no_instance : (s : ResourceData) → at s.number nodes ≡ Some s → s.parent ≡ c.number → ⊥
    under_no_instance s there under =
        both_ways _ (no_instance_takes c s.ty (parent_takes s c there (ap (λ (m : ℕ). at m nodes) under ∙ found))) instance

    -- nothing else is at or below it
    pub instance_alone : (m : ℕ) → in_line nodes c.number m ≡ true → m ≡ c.number
    instance_alone m t = elim (child_in_line nodes tree c.number m t) [
      | inl own ↦ own
      | inr below ↦ absurd (under_no_instance below.child below.found below.under)
    ]

    not_under : (s : ResourceData) → at s.number nodes ≡ Some s → is_under c.number s ≡ false
    not_under s there = false_from_ne_true _ (λ under. under_no_instance s there (eqb-true s.parent c.number under))

    pub instance_childless : children_of c.number nodes ≡ []
    instance_childless =
        picks_none (is_under c.number) nodes
        (all_by_number (λ s. not (is_under c.number s)) nodes tree (λ s there. not_from_false _ (not_under s there)))

    pub instance_kinless : (ty : Ty) → kin_of ty c.number nodes ≡ []
    instance_kinless ty =
        picks_none (is_kin ty c.number) nodes
        (all_by_number (λ s. not (is_kin ty c.number s)) nodes tree (λ s there. not_from_false _ (ap (λ b. b && is_ty s.ty ty) (not_under s there))))

    pub instance_unwatched : subs_of c.number nodes ≡ []
    instance_unwatched = instance_kinless Subscription
