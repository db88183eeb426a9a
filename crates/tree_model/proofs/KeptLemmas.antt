-- A tree stays a tree: under a map, a replacement, an append and a removal.
use Rattle.std.specs.Prelude.{◌==◌, nat_lt}
use Rattle.std.proofs.Common.{◌≡◌, ℕ, List, [], ◌∷◌, ◌++◌, map, Bool, true, false, cond, not, ◌&&◌, ◌||◌, Option, Some, None, option_map, inl, inr, refl, sym, ap, ◌∙◌, subst, bytes_eq}
use Rattle.std.proofs.lemmas.Bool.{cases_Bool, and_from, or_cases, or_left, or_right, eqb-true, both_ways, false_from_ne_true}
use Rattle.std.proofs.lemmas.List.{append-nil, map-append}
use Rattle.std.proofs.lemmas.Option.{same_Some}
use Rattle.std.specs.List.{list_any, list_all}
use Rattle.std.specs.Option.{option_map_or}
use Rattle.m2m_names.specs.Types.{does_take}
use Rattle.m2m_names.specs.declared.attributes.Attr.TheVariants.{Aei, Csi}
use Rattle.m2m_names.specs.declared.types.Ty.{Ty}
use Rattle.m2m_names.specs.declared.types.Ty.TheVariants.{Ae, CseBase, RemoteCse}
use Rattle.m2m_value.specs.Data.{text}
use Rattle.resource_model.specs.Attributes.{Row, text_at}
use Rattle.resource_model.specs.Resource.{ResourceData, is_ty, has_number, ae_id, cse_id}
use Rattle.tree_model.specs.Tree.{at, has, is_child, child_of, replaced, stays, without, is_spared, are_below, is_root, is_placed, has_child, same_text, has_ae_id, has_cse_id, may_stand, is_taken, fits_in, grows, is_tree, is_well_formed, standing}
use Rattle.tree_model.proofs.TreeLemmas.{list_any-same, list_all-same, at-map, has-map, at_number, stays_parts, staying-append, staying_all, staying_any}
use Rattle.tree_model.proofs.GrowthLemmas.{IsNext, next_fits, fits_next, grown, growth, zero_lacks, fits_parts, root_parts, at-without, tree_from_well_formed}

-- ---- a map that keeps number and standing

pub list_any-map : (p : ResourceData → Bool) (g : ResourceData → ResourceData) (nodes : List ResourceData) → list_any p (map g nodes) ≡ list_any (λ r. p (g r)) nodes
list_any-map p g [] = refl
list_any-map p g (r ∷ nodes) = ap (λ b. p (g r) || b) (list_any-map p g nodes)

pub list_all-map : (p : ResourceData → Bool) (g : ResourceData → ResourceData) (nodes : List ResourceData) → list_all p (map g nodes) ≡ list_all (λ r. p (g r)) nodes
list_all-map p g [] = refl
list_all-map p g (r ∷ nodes) = ap (λ b. p (g r) && b) (list_all-map p g nodes)

pub record KeepsStanding (g : ResourceData → ResourceData) : Type 0 where
  pub number : (r : ResourceData) → (g r).number ≡ r.number
  pub ty : (r : ResourceData) → (g r).ty ≡ r.ty
  pub name : (r : ResourceData) → (g r).name ≡ r.name
  pub parent : (r : ResourceData) → (g r).parent ≡ r.parent
  pub ae : (r : ResourceData) → ae_id (g r) ≡ ae_id r
  pub cse : (r : ResourceData) → cse_id (g r) ≡ cse_id r

module _ (g : ResourceData → ResourceData) (keeps : KeepsStanding g) where
  below-map : (n : ℕ) (nodes : List ResourceData) → are_below n (map g nodes) ≡ are_below n nodes
  below-map n nodes = list_all-map (λ s. nat_lt s.number n) g nodes ∙ list_all-same (λ s. nat_lt (g s).number n) (λ s. nat_lt s.number n) (λ s. ap (λ (m : ℕ). nat_lt m n) (keeps.number s)) nodes

  is_child-map : (parent : ℕ) (name : List ℕ) (s : ResourceData) → is_child parent name (g s) ≡ is_child parent name s
  is_child-map parent name s = ap (λ (m : ℕ). (m == parent) && bytes_eq (g s).name name) (keeps.parent s) ∙ ap (λ (t : List ℕ). (s.parent == parent) && bytes_eq t name) (keeps.name s)

  pub has_child-map : (parent : ℕ) (name : List ℕ) (nodes : List ResourceData) → has_child parent name (map g nodes) ≡ has_child parent name nodes
  has_child-map parent name nodes = list_any-map (is_child parent name) g nodes ∙ list_any-same (λ s. is_child parent name (g s)) (is_child parent name) (is_child-map parent name) nodes

  pub has_ae_id-map : (aei : Option (List ℕ)) (nodes : List ResourceData) → has_ae_id aei (map g nodes) ≡ has_ae_id aei nodes
  has_ae_id-map aei nodes = list_any-map (λ s. same_text (ae_id s) aei) g nodes ∙ list_any-same (λ s. same_text (ae_id (g s)) aei) (λ s. same_text (ae_id s) aei) (λ s. ap (λ (o : Option (List ℕ)). same_text o aei) (keeps.ae s)) nodes

  pub has_cse_id-map : (csi : Option (List ℕ)) (nodes : List ResourceData) → has_cse_id csi (map g nodes) ≡ has_cse_id csi nodes
  has_cse_id-map csi nodes = list_any-map (λ s. same_text (cse_id s) csi) g nodes ∙ list_any-same (λ s. same_text (cse_id (g s)) csi) (λ s. same_text (cse_id s) csi) (λ s. ap (λ (o : Option (List ℕ)). same_text o csi) (keeps.cse s)) nodes

  is_root-map : (nodes : List ResourceData) (r : ResourceData) → is_root (map g nodes) (g r) ≡ is_root nodes r
  is_root-map [] r =
      ap (λ (t : Ty). is_ty t CseBase && ((g r).parent == 0) && nat_lt 0 (g r).number) (keeps.ty r)
      ∙ ap (λ (m : ℕ). is_ty r.ty CseBase && (m == 0) && nat_lt 0 (g r).number) (keeps.parent r)
      ∙ ap (λ (m : ℕ). is_ty r.ty CseBase && (r.parent == 0) && nat_lt 0 m) (keeps.number r)
  is_root-map (s ∷ nodes) r = refl

  placed-map : (nodes : List ResourceData) (r : ResourceData) → is_placed (map g nodes) (g r) ≡ is_placed nodes r
  placed-map nodes r =
      ap (λ (m : ℕ). has m (map g nodes) || is_root (map g nodes) (g r)) (keeps.parent r)
      ∙ ap (λ b. b || is_root (map g nodes) (g r)) (has-map g keeps.number r.parent nodes)
      ∙ ap (λ b. has r.parent nodes || b) (is_root-map nodes r)

  pub fits-map : (nodes : List ResourceData) (r : ResourceData) → may_stand (map g nodes) (g r) ≡ may_stand nodes r
  fits-map nodes r =
      let below : are_below (g r).number (map g nodes) ≡ are_below r.number nodes = ap (λ (m : ℕ). are_below m (map g nodes)) (keeps.number r) ∙ below-map r.number nodes in
      let child : has_child (g r).parent (g r).name (map g nodes) ≡ has_child r.parent r.name nodes =
      ap (λ (m : ℕ). has_child m (g r).name (map g nodes)) (keeps.parent r) ∙ ap (λ (t : List ℕ). has_child r.parent t (map g nodes)) (keeps.name r) ∙ has_child-map r.parent r.name nodes in
      let ae : has_ae_id (ae_id (g r)) (map g nodes) ≡ has_ae_id (ae_id r) nodes =
      ap (λ (o : Option (List ℕ)). has_ae_id o (map g nodes)) (keeps.ae r) ∙ has_ae_id-map (ae_id r) nodes in
      let cse : has_cse_id (cse_id (g r)) (map g nodes) ≡ has_cse_id (cse_id r) nodes =
      ap (λ (o : Option (List ℕ)). has_cse_id o (map g nodes)) (keeps.cse r) ∙ has_cse_id-map (cse_id r) nodes in
      all_same below (placed-map nodes r) child ae cse
    where
      all_same : {a b c d e a' b' c' d' e' : Bool} → a ≡ a' → b ≡ b' → c ≡ c' → d ≡ d' → e ≡ e' → (a && b && not c && not d && not e) ≡ (a' && b' && not c' && not d' && not e')
      all_same p q r s t = cc

  taken_by-map : (o : Option ResourceData) (r : ResourceData) → option_map_or (λ p. does_take p.ty (g r).ty) (option_map g o) true ≡ option_map_or (λ p. does_take p.ty r.ty) o true
  taken_by-map None r = refl
  taken_by-map (Some p) r = ap (λ (t : Ty). does_take t (g r).ty) (keeps.ty p) ∙ ap (λ (t : Ty). does_take p.ty t) (keeps.ty r)

  pub is_taken-map : (nodes : List ResourceData) (r : ResourceData) → is_taken (map g nodes) (g r) ≡ is_taken nodes r
  is_taken-map nodes r =
      ap (λ (m : ℕ). option_map_or (λ p. does_take p.ty (g r).ty) (at m (map g nodes)) true) (keeps.parent r)
      ∙ ap (λ (o : Option ResourceData). option_map_or (λ p. does_take p.ty (g r).ty) o true) (at-map g keeps.number r.parent nodes)
      ∙ taken_by-map (at r.parent nodes) r

  grows-map : (may : List ResourceData → ResourceData → Bool) → ((nodes : List ResourceData) (r : ResourceData) → may (map g nodes) (g r) ≡ may nodes r) → (before nodes : List ResourceData) → grows may (map g before) (map g nodes) ≡ grows may before nodes
  grows-map may same before [] = refl
  grows-map may same before (r ∷ nodes) =
      let later : grows may (map g before ++ g r ∷ []) (map g nodes) ≡ grows may (before ++ r ∷ []) nodes =
      ap (λ (b : List ResourceData). grows may b (map g nodes)) (sym (map-append g before (r ∷ []))) ∙ grows-map may same (before ++ r ∷ []) nodes in
      ap (λ b. b && grows may (map g before ++ g r ∷ []) (map g nodes)) (same before r) ∙ ap (λ b. may before r && b) later

  pub is_tree-map : (nodes : List ResourceData) → is_tree (map g nodes) ≡ is_tree nodes
  is_tree-map nodes = grows-map may_stand fits-map [] nodes

  pub is_well_formed-map : (nodes : List ResourceData) → is_well_formed (map g nodes) ≡ is_well_formed nodes
  is_well_formed-map nodes = grows-map fits_in (λ b r. ap (λ x. x && is_taken (map g b) (g r)) (fits-map b r) ∙ ap (λ x. may_stand b r && x) (is_taken-map b r)) [] nodes

-- ---- a replacement

id_rows : Option (List ℕ) → Option (List ℕ) → List Row
id_rows None None = []
id_rows None (Some c) = (Csi, text c) ∷ []
id_rows (Some a) None = (Aei, text a) ∷ []
id_rows (Some a) (Some c) = (Aei, text a) ∷ (Csi, text c) ∷ []

-- a resource of which only number and standing are left
abbrev stripped : ℕ → Ty × List ℕ × ℕ × Option (List ℕ) × Option (List ℕ) → ResourceData
stripped n s = record { number = n; ty = s.0; name = s.1; parent = s.2; owner = []; ct = 0; lt = 0; et = 0; attrs = id_rows s.3 s.4 }

abbrev strip : ResourceData → ResourceData
strip r = stripped r.number (standing r)

aei_back : (a c : Option (List ℕ)) → text_at Aei (id_rows a c) ≡ a
unfolding id_rows
aei_back None None = refl
aei_back None (Some c) = refl
aei_back (Some a) None = refl
aei_back (Some a) (Some c) = refl

csi_back : (a c : Option (List ℕ)) → text_at Csi (id_rows a c) ≡ c
unfolding id_rows
csi_back None None = refl
csi_back None (Some c) = refl
csi_back (Some a) None = refl
csi_back (Some a) (Some c) = refl

strip-ae : (r : ResourceData) → ae_id (strip r) ≡ ae_id r
strip-ae r = elim (cases_Bool (is_ty r.ty Ae)) [
  | inl t ↦ rw t (aei_back (text_at Aei r.attrs) (cse_id r))
  | inr f ↦ rw f refl
]

strip-cse : (r : ResourceData) → cse_id (strip r) ≡ cse_id r
strip-cse r = elim (cases_Bool (is_ty r.ty RemoteCse)) [
  | inl t ↦ rw t (csi_back (ae_id r) (text_at Csi r.attrs))
  | inr f ↦ rw f refl
]

strip_keeps : KeepsStanding strip
strip_keeps = record { number = λ r. refl; ty = λ r. refl; name = λ r. refl; parent = λ r. refl; ae = strip-ae; cse = strip-cse }

-- what a resource keeps in another's place, the list keeps
pub map-replaced_same : {X : Type 0} (h : ResourceData → X) (r : ResourceData) (nodes : List ResourceData) → ((s : ResourceData) → at r.number nodes ≡ Some s → h s ≡ h r) → map h (replaced r nodes) ≡ map h nodes
map-replaced_same h r [] same = refl
map-replaced_same h r (s ∷ nodes) same = elim (cases_Bool (has_number r.number s)) [
  | inl t ↦ rw t (ap (λ x. x ∷ map h nodes) (sym (same s (rw t refl))))
  | inr f ↦ rw f (ap (λ rest. h s ∷ rest) (map-replaced_same h r nodes (λ u found. same u (rw f found))))
]

same_standing : (r : ResourceData) (nodes : List ResourceData) → option_map standing (at r.number nodes) ≡ Some (standing r) → (s : ResourceData) → at r.number nodes ≡ Some s → strip s ≡ strip r
same_standing r nodes stood s found =
    let number : s.number ≡ r.number = at_number r.number nodes s found in
    let stands : standing s ≡ standing r = same_Some (standing s) (standing r) (sym (ap (option_map standing) found) ∙ stood) in
    ap (λ (n : ℕ). stripped n (standing s)) number ∙ ap (stripped r.number) stands

pub is_tree-replaced : (r : ResourceData) (nodes : List ResourceData) → option_map standing (at r.number nodes) ≡ Some (standing r) → is_tree (replaced r nodes) ≡ is_tree nodes
is_tree-replaced r nodes stood =
    sym (is_tree-map strip strip_keeps (replaced r nodes))
    ∙ ap is_tree (map-replaced_same strip r nodes (same_standing r nodes stood))
    ∙ is_tree-map strip strip_keeps nodes

pub is_well_formed-replaced : (r : ResourceData) (nodes : List ResourceData) → option_map standing (at r.number nodes) ≡ Some (standing r) → is_well_formed (replaced r nodes) ≡ is_well_formed nodes
is_well_formed-replaced r nodes stood =
    sym (is_well_formed-map strip strip_keeps (replaced r nodes))
    ∙ ap is_well_formed (map-replaced_same strip r nodes (same_standing r nodes stood))
    ∙ is_well_formed-map strip strip_keeps nodes

-- ---- an append

pub is_tree-append : (nodes : List ResourceData) (r : ResourceData) → is_tree nodes ≡ true → IsNext nodes r → is_tree (nodes ++ r ∷ []) ≡ true
is_tree-append nodes r tree next = grown may_stand nodes r tree (fits_next nodes r next)

pub is_well_formed-append : (nodes : List ResourceData) (r : ResourceData) → is_well_formed nodes ≡ true → IsNext nodes r → is_taken nodes r ≡ true → is_well_formed (nodes ++ r ∷ []) ≡ true
is_well_formed-append nodes r well next taken = grown fits_in nodes r well (and_from _ _ (fits_next nodes r next) taken)

-- no child of a name, by the look-up
pub no_child : (parent : ℕ) (name : List ℕ) (nodes : List ResourceData) → child_of parent name nodes ≡ None → has_child parent name nodes ≡ false
no_child parent name [] none = refl
no_child parent name (s ∷ nodes) none = elim (cases_Bool (is_child parent name s)) [
  | inl t ↦ absurd (some_none s.number (rw t at none))
  | inr f ↦ rw f (no_child parent name nodes (rw f at none))
]
  where
    some_none : (n : ℕ) → Some n ≡ None → ⊥
    some_none n e = cc

-- ---- a removal

pub without-snoc : (p : ResourceData → Bool) (before : List ResourceData) (r : ResourceData) → without p (before ++ r ∷ []) ≡ without p before ++ cond (stays p (without p before) r) (r ∷ []) []
without-snoc p before r = staying-append p [] before (r ∷ [])

still_placed : (p : ResourceData → Bool) (before : List ResourceData) (r : ResourceData) → is_tree before ≡ true → is_placed before r ≡ true → stays p (without p before) r ≡ true → is_placed (without p before) r ≡ true
still_placed p before r tree placed stayed = elim (or_cases (has r.parent before) _ placed) [
  | inl there ↦ elim (or_cases (r.parent == 0) _ (stays_parts p (without p before) r stayed).parent) [
    | inl zero_parent ↦ absurd (both_ways _ (zero_lacks before tree) (ap (λ (m : ℕ). has m before) (sym (eqb-true r.parent 0 zero_parent)) ∙ there))
    | inr kept ↦ or_left _ _ kept
  ]
  | inr root ↦
      let nothing : before ≡ [] = (root_parts before r root).first in
      subst (λ (nodes : List ResourceData). is_placed (without p nodes) r ≡ true) (sym nothing) (or_right (has r.parent []) (is_root [] r) (ap (λ (nodes : List ResourceData). is_root nodes r) (sym nothing) ∙ root))
]

still_next : (p : ResourceData → Bool) (before : List ResourceData) (r : ResourceData) → is_tree before ≡ true → IsNext before r → stays p (without p before) r ≡ true → IsNext (without p before) r
still_next p before r tree next stayed = record {
  number = staying_all p (λ s. nat_lt s.number r.number) [] before next.number;
  parent = still_placed p before r tree next.parent stayed;
  name = false_from_ne_true _ (λ t. both_ways _ next.name (staying_any p (is_child r.parent r.name) [] before t));
  ae = false_from_ne_true _ (λ t. both_ways _ next.ae (staying_any p (λ s. same_text (ae_id s) (ae_id r)) [] before t));
  cse = false_from_ne_true _ (λ t. both_ways _ next.cse (staying_any p (λ s. same_text (cse_id s) (cse_id r)) [] before t));
}

pub is_tree-without : (p : ResourceData → Bool) (nodes : List ResourceData) → is_tree nodes ≡ true → is_tree (without p nodes) ≡ true
is_tree-without p = growth may_stand (λ nodes. is_tree (without p nodes) ≡ true) refl (λ before r tree next holds.
    ap is_tree (without-snoc p before r) ∙ elim (cases_Bool (stays p (without p before) r)) [
      | inl t ↦ ap (λ b. is_tree (without p before ++ cond b (r ∷ []) [])) t ∙ is_tree-append (without p before) r holds (still_next p before r tree (next_fits before r next) t)
      | inr f ↦ ap (λ b. is_tree (without p before ++ cond b (r ∷ []) [])) f ∙ ap is_tree (append-nil (without p before)) ∙ holds
    ])

taken_still : (spared : Bool) (o : Option ResourceData) (ty : Ty) → option_map_or (λ p. does_take p.ty ty) o true ≡ true → option_map_or (λ p. does_take p.ty ty) (cond spared o None) true ≡ true
taken_still true o ty taken = taken
taken_still false o ty taken = refl

pub is_well_formed-without : (p : ResourceData → Bool) (nodes : List ResourceData) → is_well_formed nodes ≡ true → is_well_formed (without p nodes) ≡ true
is_well_formed-without p = growth fits_in (λ nodes. is_well_formed (without p nodes) ≡ true) refl (λ before r well next holds.
    let tree = tree_from_well_formed before well in
    let parts = fits_parts before r next in
    let taken : is_taken (without p before) r ≡ true =
    ap (λ (o : Option ResourceData). option_map_or (λ s. does_take s.ty r.ty) o true) (at-without p r.parent before tree) ∙ taken_still (is_spared p before r.parent) (at r.parent before) r.ty parts.taken in
    ap is_well_formed (without-snoc p before r) ∙ elim (cases_Bool (stays p (without p before) r)) [
      | inl t ↦ ap (λ b. is_well_formed (without p before ++ cond b (r ∷ []) [])) t ∙ is_well_formed-append (without p before) r holds (still_next p before r tree (next_fits before r parts.stands) t) taken
      | inr f ↦ ap (λ b. is_well_formed (without p before ++ cond b (r ∷ []) [])) f ∙ ap is_well_formed (append-nil (without p before)) ∙ holds
    ])

-- what a push leaves, whether it had room or not
pub is_tree-push : (had_room : Bool) (nodes after : List ResourceData) (r : ResourceData) → after ≡ cond had_room (nodes ++ r ∷ []) nodes → is_tree nodes ≡ true → IsNext nodes r → is_tree after ≡ true
is_tree-push true nodes after r is tree next = ap is_tree is ∙ is_tree-append nodes r tree next
is_tree-push false nodes after r is tree next = ap is_tree is ∙ tree

pub no_child_found : (parent : ℕ) (name : List ℕ) (nodes : List ResourceData) → has_child parent name nodes ≡ false → child_of parent name nodes ≡ None
no_child_found parent name [] none = refl
no_child_found parent name (s ∷ nodes) none = elim (cases_Bool (is_child parent name s)) [
  | inl t ↦ absurd (both_ways _ none (rw t refl))
  | inr f ↦ rw f (no_child_found parent name nodes (rw f at none))
]
