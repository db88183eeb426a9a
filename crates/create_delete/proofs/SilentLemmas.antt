-- Where no subscription is told of a deletion: none stands under what goes, nor beside it.
use Rattle.std.proofs.Common.{◌≡◌, ℕ, List, [], ◌∷◌, ◌++◌, length, map, Bool, true, false, Some, None, inl, inr, refl, sym, ap, ◌∙◌}
use Rattle.std.specs.Prelude.{◌==◌, ◌⊎◌}
use Rattle.std.proofs.lemmas.Bool.{cases_Bool, both_ways, eq-eqb, eqb-true, false_from_ne_true, or_cases}
use Rattle.std.proofs.lemmas.Option.{same_Some}
use Rattle.std.specs.List.{filter, filter_map, list_any, AllByRecursion}
use Rattle.m2m_names.proofs.TypeLemmas.{same_type}
use Rattle.m2m_names.specs.declared.types.Ty.{Ty}
use Rattle.m2m_names.specs.declared.types.Ty.TheVariants.{ContentInstance, Subscription}
use Rattle.resource_model.specs.Home.{HomeData}
use Rattle.resource_model.specs.Resource.{ResourceData, has_number, is_ty}
use Rattle.subscription_match.specs.Matching.{event_for}
use Rattle.subscription_match.specs.Notices.{notes_of, notes_of_all, notices, told}
use Rattle.subscription_match.specs.declared.drafts.DraftParts.{DraftParts}
use Rattle.tree_model.specs.Changes.{ChangeData, deleted, deletion_changes}
use Rattle.tree_model.specs.Tree.{at, children_of, instances_of, is_at_or_below, is_tree, is_under, is_well_formed, line_of, number_at, resource_number, subs_of}
use Rattle.tree_model.proofs.BelowLemmas.{child_in_line, in_line, up_line}
use Rattle.tree_model.proofs.ChildLemmas.{all_instances, found_place, sub_listed, under_no_instance}
use Rattle.tree_model.proofs.GrowthLemmas.{tree_from_well_formed}
use Rattle.tree_model.proofs.OrderLemmas.{tree_ascends}
use Rattle.create_delete.specs.Telling.{IsSilent}
use Rattle.create_delete.proofs.KeptToldLemmas.{other_untold}
use Rattle.entity_model.proofs.LoweringLemmas.{each_of}

-- ---- no subscription stands below it

module _ (nodes : List ResourceData) (tree : is_tree nodes ≡ true) where
  -- silent under it and under each child is silent below it
  pub silent_from : (n : ℕ) → ((t : ResourceData) → at t.number nodes ≡ Some t → is_ty t.ty Subscription ≡ true → (t.parent ≡ n) → ⊥) → ((c : ResourceData) → at c.number nodes ≡ Some c → c.parent ≡ n → IsSilent c.number nodes) → IsSilent n nodes
  silent_from n none each t found sub = false_from_ne_true _ (λ under.
      elim (child_in_line nodes tree n t.parent under) [
        | inl same ↦ none t found sub same
        | inr below ↦ both_ways _ (each below.child below.found below.under t found sub) below.line
      ])

module _ (nodes : List ResourceData) (formed : is_well_formed nodes ≡ true) where
  tree : is_tree nodes ≡ true
  tree = tree_from_well_formed nodes formed

  -- nothing stands under an instance
  pub instance_silent : (c : ResourceData) → at c.number nodes ≡ Some c → is_ty c.ty ContentInstance ≡ true → IsSilent c.number nodes
  instance_silent c found instance =
      silent_from nodes tree c.number (λ t there sub under. under_no_instance nodes formed c found instance t there under)
      (λ s there under. absurd (under_no_instance nodes formed c found instance s there under))

  -- where all children are instances, and no subscription
  pub instances_silent : (n count : ℕ) → count ≡ length (instances_of n nodes) → None ≡ number_at count (children_of n nodes) → IsSilent n nodes
  instances_silent n count is none =
      let kind = all_instances nodes n count is none in
      silent_from nodes tree n (λ t found sub under. both_ways _ (no_instance t.ty sub) (kind t found under)) (λ c found under. instance_silent c found (kind c found under))
    where
      no_instance : (t : Ty) → is_ty t Subscription ≡ true → is_ty t ContentInstance ≡ false
      no_instance t is = ap (λ (u : Ty). is_ty u ContentInstance) (same_type t Subscription (eqb-true _ _ is))

  -- where each child is silent, and none is a subscription
  pub children_silent : (n : ℕ) → subs_of n nodes ≡ [] → ((k m : ℕ) → Some m ≡ number_at k (children_of n nodes) → IsSilent m nodes) → IsSilent n nodes
  children_silent n none each = silent_from nodes tree n (λ t found sub under. sub_listed nodes n t found sub under none) (λ c found under.
      let place = found_place (is_under n) nodes c.number c found (eq-eqb c.parent n under) in
      each place.0 c.number (sym (ap resource_number place.1)))

-- ---- nobody is told

pub none_told : (home : HomeData) (nodes : List ResourceData) (going : List ℕ) (change : ChangeData) (rs : List ResourceData) → AllByRecursion (λ t. event_for going change t ≡ None) rs → filter_map (told home nodes going change) rs ≡ []
none_told home nodes going change [] each = refl
none_told home nodes going change (t ∷ rs) each = rw each.0 (none_told home nodes going change rs each.1)

pub all_none : (home : HomeData) (nodes : List ResourceData) (going : List ℕ) (rs : List ResourceData) → AllByRecursion (λ r. notes_of home nodes going (deleted r) ≡ []) rs → notes_of_all home nodes going (map deleted rs) ≡ []
all_none home nodes going [] each = refl
all_none home nodes going (r ∷ rs) each =
    ap (λ (ds : List DraftParts). ds ++ notes_of_all home nodes going (map deleted rs)) each.0 ∙ all_none home nodes going rs each.1

pub each_picked : (P : ResourceData → Type 0) (p : ResourceData → Bool) (rs : List ResourceData) → AllByRecursion (λ r. p r ≡ true → P r) rs → AllByRecursion P (filter p rs)
each_picked P p [] each = tt
each_picked P p (r ∷ rs) each = elim (cases_Bool (p r)) [
  | inl t ↦ rw t (each.0 t, each_picked P p rs each.1)
  | inr f ↦ rw f (each_picked P p rs each.1)
]

module _ (home : HomeData) (nodes : List ResourceData) (formed : is_well_formed nodes ≡ true) (target : ResourceData) (stands : at target.number nodes ≡ Some target) (beside : subs_of target.parent nodes ≡ []) (silent : IsSilent target.number nodes) (going : List ℕ) where
  tree_is : is_tree nodes ≡ true
  tree_is = tree_from_well_formed nodes formed

  -- a subscription stands under none of what goes, and not beside the target
  not_under : (r t : ResourceData) → is_at_or_below target.number nodes r ≡ true → at t.number nodes ≡ Some t → is_ty t.ty Subscription ≡ true → (t.parent == r.number) ≡ false
  not_under r t below found sub = false_from_ne_true _ (λ same.
      both_ways _ (silent t found sub) (ap (λ (m : ℕ). list_any (has_number target.number) (line_of m nodes)) (eqb-true t.parent r.number same) ∙ below))

  parent_in : (r : ResourceData) → at r.number nodes ≡ Some r → is_at_or_below target.number nodes r ≡ true → (r ≡ target) ⊎ (in_line nodes target.number r.parent ≡ true)
  parent_in r found below = elim (or_cases (has_number target.number r) (in_line nodes target.number r.parent) (sym (up_line nodes tree_is target.number r.number r found) ∙ below)) [
    | inl own ↦ inl (same_Some r target (sym found ∙ ap (λ (m : ℕ). at m nodes) (eqb-true r.number target.number own) ∙ stands))
    | inr up ↦ inr up
  ]

  not_beside : (r t : ResourceData) → at r.number nodes ≡ Some r → is_at_or_below target.number nodes r ≡ true → at t.number nodes ≡ Some t → is_ty t.ty Subscription ≡ true → (t.parent == r.parent) ≡ false
  not_beside r t there below found sub = false_from_ne_true _ (λ same.
      let is : t.parent ≡ r.parent = eqb-true t.parent r.parent same in
      elim (parent_in r there below) [
        | inl own ↦ sub_listed nodes target.parent t found sub (is ∙ ap (λ (x : ResourceData). x.parent) own) beside
        | inr up ↦ both_ways _ (silent t found sub) (ap (λ (m : ℕ). list_any (has_number target.number) (line_of m nodes)) is ∙ up)
      ])

  sub_of_none : (r t : ResourceData) → (t.parent == r.number) ≡ false → (t.parent == r.parent) ≡ false → event_for going (deleted r) t ≡ None
  sub_of_none r t under beside_it = rw (under, beside_it) refl

  no_event : (r : ResourceData) → at r.number nodes ≡ Some r → is_at_or_below target.number nodes r ≡ true → (t : ResourceData) → at t.number nodes ≡ Some t → event_for going (deleted r) t ≡ None
  no_event r there below t found = elim (cases_Bool (is_ty t.ty Subscription)) [
    | inl sub ↦ sub_of_none r t (not_under r t below found sub) (not_beside r t there below found sub)
    | inr other ↦ other_untold going (deleted r) t other
  ]

  no_sub : (r : ResourceData) → at r.number nodes ≡ Some r → is_at_or_below target.number nodes r ≡ true → is_ty r.ty Subscription ≡ false
  no_sub r there below = false_from_ne_true _ (λ sub.
      both_ways _ (not_beside r r there below there sub) (eq-eqb r.parent r.parent refl))

  pub no_note : (r : ResourceData) → at r.number nodes ≡ Some r → is_at_or_below target.number nodes r ≡ true → notes_of home nodes going (deleted r) ≡ []
  no_note r there below =
      ap (λ (ds : List DraftParts). ds ++ notices home (deleted r))
      (none_told home nodes going (deleted r) nodes (each_of (λ t. event_for going (deleted r) t ≡ None) nodes (tree_ascends nodes tree_is) (no_event r there below)))
      ∙ rw (no_sub r there below) refl

  -- so nobody is told of the deletion
  pub deletion_silent : notes_of_all home nodes going (deletion_changes nodes target.number) ≡ []
  deletion_silent =
      all_none home nodes going (filter (is_at_or_below target.number nodes) nodes)
      (each_picked (λ r. notes_of home nodes going (deleted r) ≡ []) (is_at_or_below target.number nodes) nodes
      (each_of (λ r. is_at_or_below target.number nodes r ≡ true → notes_of home nodes going (deleted r) ≡ []) nodes (tree_ascends nodes tree_is) no_note))
