-- CSE-IDs differ in a tree, from each other and from the own one.
use Rattle.std.proofs.Common.{◌≡◌, ℕ, List, [], ◌∷◌, ◌++◌, Bool, true, false, not, ◌&&◌, ◌||◌, Option, Some, None, inl, inr, refl, sym, ap, ◌∙◌, subst, bytes_eq, ◌==◌, if◌then◌else◌}
use Rattle.std.proofs.lemmas.Bool.{cases_Bool, and_parts, and_from, or_from, or_parts, not-true, not_from_false, both_ways, eqb-true, eq-eqb, ne_eqb}
use Rattle.std.proofs.lemmas.List.{append-nil}
use Rattle.std.proofs.lemmas.List.Elements.{filter_map-append}
use Rattle.std.proofs.lemmas.List.Folds.{list_any-append}
use Rattle.std.specs.List.{list_all, list_any, filter_map, cons_option}
use Rattle.std.specs.Option.{option_map_or}
use Rattle.resource_model.specs.Home.{HomeData}
use Rattle.resource_model.specs.Resource.{ResourceData, cse_id}
use Rattle.tree_model.specs.Shown.{own_cse_id}
use Rattle.tree_model.specs.Tree.{has_cse_id, is_tree, may_stand, same_text}
use Rattle.tree_model.proofs.GrowthLemmas.{growth, next_fits}
use Rattle.entity_model.specs.Sound.{are_distinct, cse_ids}
use Rattle.entity_model.proofs.SoundLemmas.{distinct_parts}
use Rattle.entity_soundness.specs.Tested.{has_other_cse_id, is_own}

ids_among : (s : List ℕ) (nodes : List ResourceData) → list_any (λ t. bytes_eq t s) (filter_map cse_id nodes) ≡ has_cse_id (Some s) nodes
ids_among s [] = refl
ids_among s (r ∷ nodes) = first (cse_id r) ∙ ap (λ b. same_text (cse_id r) (Some s) || b) (ids_among s nodes)
  where
    first : (o : Option (List ℕ)) → list_any (λ t. bytes_eq t s) (cons_option o (filter_map cse_id nodes)) ≡ (same_text o (Some s) || list_any (λ t. bytes_eq t s) (filter_map cse_id nodes))
    first None = refl
    first (Some a) = refl

distinct_push : (texts : List (List ℕ)) (s : List ℕ) → are_distinct texts ≡ true → list_any (λ t. bytes_eq t s) texts ≡ false → are_distinct (texts ++ s ∷ []) ≡ true
distinct_push [] s distinct none = refl
distinct_push (t ∷ texts) s distinct none =
    let parts = distinct_parts t texts distinct in
    let two = or_parts (bytes_eq t s) _ none in
    and_from _ _ (not_from_false _ (list_any-append (bytes_eq t) texts (s ∷ []) ∙ or_from _ _ parts.other (or_from _ _ two.0 refl))) (distinct_push texts s parts.rest two.1)

distinct_with : (nodes : List ResourceData) (o : Option (List ℕ)) → has_cse_id o nodes ≡ false → are_distinct (filter_map cse_id nodes) ≡ true → are_distinct (filter_map cse_id nodes ++ cons_option o []) ≡ true
distinct_with nodes None free distinct = ap are_distinct (append-nil (filter_map cse_id nodes)) ∙ distinct
distinct_with nodes (Some s) free distinct = distinct_push (filter_map cse_id nodes) s distinct (ids_among s nodes ∙ free)

distinct_in : (nodes : List ResourceData) → is_tree nodes ≡ true → are_distinct (filter_map cse_id nodes) ≡ true
distinct_in = growth may_stand (λ nodes. are_distinct (filter_map cse_id nodes) ≡ true) refl (λ before r grew next holds.
    ap are_distinct (filter_map-append cse_id before (r ∷ [])) ∙ distinct_with before (cse_id r) (next_fits before r next).cse holds)

-- the own one is a slash and the CSE-ID of the home
own_is : (home : HomeData) (s : List ℕ) → bytes_eq (own_cse_id home) s ≡ is_own home s
own_is home [] = refl
own_is home (b ∷ name) = elim (cases_Bool (b == 47)) [
  | inl t ↦
      let same : b ≡ 47 = eqb-true b 47 t in
      subst (λ (n : ℕ). bytes_eq (own_cse_id home) (n ∷ name) ≡ is_own home (n ∷ name)) (sym same) refl
  | inr f ↦
      let apart : (47 == b) ≡ false = ne_eqb 47 b (λ e. both_ways _ f (eq-eqb b 47 (sym e))) in
      ap (λ c. c && bytes_eq home.csi name) apart ∙ sym (ap (λ c. if c then bytes_eq home.csi name else false) f)
]

-- none is the own one
others_with : (home : HomeData) (ids : List (List ℕ)) (o : Option (List ℕ)) → option_map_or (λ csi. not (is_own home csi)) o true ≡ true → list_any (bytes_eq (own_cse_id home)) ids ≡ false → list_any (bytes_eq (own_cse_id home)) (cons_option o ids) ≡ false
others_with home ids None other rest = rest
others_with home ids (Some s) other rest = or_from (bytes_eq (own_cse_id home) s) _ (own_is home s ∙ not-true _ other) rest

others : (home : HomeData) (nodes : List ResourceData) → list_all (has_other_cse_id home) nodes ≡ true → list_any (bytes_eq (own_cse_id home)) (filter_map cse_id nodes) ≡ false
others home [] all = refl
others home (r ∷ nodes) all =
    let parts = and_parts (has_other_cse_id home r) _ all in
    others_with home (filter_map cse_id nodes) (cse_id r) parts.0 (others home nodes parts.1)

other_with : (home : HomeData) (ids : List (List ℕ)) (rest : Bool) (o : Option (List ℕ)) → list_any (bytes_eq (own_cse_id home)) (cons_option o ids) ≡ false → (list_any (bytes_eq (own_cse_id home)) ids ≡ false → rest ≡ true) → (option_map_or (λ csi. not (is_own home csi)) o true && rest) ≡ true
other_with home ids rest None free holds = holds free
other_with home ids rest (Some s) free holds =
    let parts = or_parts (bytes_eq (own_cse_id home) s) _ free in
    and_from (not (is_own home s)) _ (not_from_false _ (sym (own_is home s) ∙ parts.0)) (holds parts.1)

all_other : (home : HomeData) (nodes : List ResourceData) → list_any (bytes_eq (own_cse_id home)) (filter_map cse_id nodes) ≡ false → list_all (has_other_cse_id home) nodes ≡ true
all_other home [] none = refl
all_other home (r ∷ nodes) none = other_with home (filter_map cse_id nodes) (list_all (has_other_cse_id home) nodes) (cse_id r) none (λ free. all_other home nodes free)

pub cses_from : (home : HomeData) (nodes : List ResourceData) → is_tree nodes ≡ true → list_all (has_other_cse_id home) nodes ≡ true → are_distinct (cse_ids home nodes) ≡ true
cses_from home nodes tree all = and_from _ _ (not_from_false _ (others home nodes all)) (distinct_in nodes tree)

pub others_from : (home : HomeData) (nodes : List ResourceData) → are_distinct (cse_ids home nodes) ≡ true → list_all (has_other_cse_id home) nodes ≡ true
others_from home nodes distinct = all_other home nodes (distinct_parts (own_cse_id home) (filter_map cse_id nodes) distinct).other
