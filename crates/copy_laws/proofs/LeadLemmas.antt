-- A new resource, and one that takes the place of another, are operations.
use Rattle.std.specs.Prelude.{◌⊎◌, ◌≢◌}
use Rattle.std.proofs.Common.{◌≡◌, ℕ, ◌<◌, List, [], ◌∷◌, ◌++◌, Bool, true, false, Option, Some, None, inl, inr, refl, sym, ap, ◌∙◌, subst, arith}
use Rattle.std.proofs.lemmas.Bool.{cases_Bool, eq-eqb, eqb-true}
use Rattle.std.proofs.lemmas.Option.{same_Some}
use Rattle.std.specs.Option.{option_map_or, option_or}
use Rattle.m2m_names.specs.declared.attributes.Attr.{Attr}
use Rattle.m2m_names.specs.declared.attributes.Attr.TheVariants.{Mid}
use Rattle.m2m_names.specs.declared.types.Ty.{Ty}
use Rattle.m2m_names.specs.declared.types.Ty.TheVariants.{ContentInstance}
use Rattle.resource_model.specs.Attributes.{is_attr}
use Rattle.resource_model.specs.Home.{HomeData}
use Rattle.resource_model.specs.Resource.{ResourceData, has_number, is_ty}
use Rattle.tree_model.proofs.TreeLemmas.{at-append, at-replaced, at-replaced_other, at_has, at_number}
use Rattle.tree_model.specs.Tree.{at, has, is_well_formed, replaced}
use Rattle.announce_copy.specs.Announced.{does_renew}
use Rattle.announce_copy.specs.Peers.{listed_peers}
use Rattle.copy_laws.specs.Following.{IsAlike, IsKept, IsOperation, StaysAlike, changed, does_lead, made, value_in_copy}
use Rattle.copy_laws.specs.Standing.{is_announced_to, is_parent_announced_to}
use Rattle.copy_laws.proofs.RemovalLemmas.{under_container}
use Rattle.copy_laws.proofs.TextLemmas.{not_both}

same : (home : HomeData) (r : ResourceData) → IsAlike home r r
same home r = record {
  number = refl;
  ty = refl;
  parent = refl;
  peers = refl;
  values = λ attr other. refl;
}

-- by what stands there
stays_same : (home : HomeData) (t : ResourceData) (after : List ResourceData) → at t.number after ≡ Some t → StaysAlike home t after
stays_same home t after found = record {
  alike = λ s there. subst (IsAlike home t) (same_Some t s (sym found ∙ there)) (same home t);
  lost = λ none. (let bad : None ≡ Some t = sym none ∙ found in cc);
}

-- ---- a new resource

module _ (home : HomeData) (nodes : List ResourceData) (t : ResourceData) (formed : is_well_formed nodes ≡ true) (new : at t.number nodes ≡ None) (above : t.parent < t.number) where
  abbrev joined : List ResourceData
  joined = nodes ++ t ∷ []

  own_there : at t.number joined ≡ Some t
  own_there =
      let hit : has_number t.number t ≡ true = eq-eqb t.number t.number refl in
      at-append t.number nodes (t ∷ []) ∙ rw (new, hit) refl

  other_there : (n : ℕ) → (t.number ≡ n → ⊥) → at n joined ≡ at n nodes
  other_there n apart = elim (cases_Bool (has_number n t)) [
    | inl own ↦ absurd (apart (eqb-true t.number n own))
    | inr other ↦ at-append n nodes (t ∷ []) ∙ rw other (or_none (at n nodes))
  ]
    where
      or_none : (o : Option ResourceData) → option_or o None ≡ o
      or_none None = refl
      or_none (Some r) = refl

  pub joining_operates : IsKept t → ((r : ResourceData) → at r.number nodes ≡ Some r → IsKept r) → IsOperation home nodes (made t) [] joined
  joining_operates kept each = record {
    kept = each;
    left = left_kept;
    leads = record {
      kept = kept;
      new = new;
      stays = stays_same home t joined own_there;
      parent = λ peer. ap (λ (o : Option ResourceData). option_map_or (is_announced_to peer) o false) (sym (other_there t.parent (λ e. omega (arith, e, above))));
    };
    removes = tt;
    others = λ s found other. (s, sym (other_there s.number (λ e. not_both (does_lead (made t) s.number) (eq-eqb t.number s.number e) other)) ∙ found, same home s);
    lost = λ r found other none.
        let stays : at r.number joined ≡ Some r = other_there r.number (λ e. not_both (does_lead (made t) r.number) (eq-eqb t.number r.number e) other) ∙ found in
        let bad : None ≡ Some r = sym none ∙ stays in
        cc;
    containers = λ r c found instance up. under_container nodes formed r c found instance up;
  }
    where
      left_kept : (s : ResourceData) → at s.number joined ≡ Some s → IsKept s
      left_kept s found = elim (cases_Bool (has_number s.number t)) [
        | inl own ↦
            let number : t.number ≡ s.number = eqb-true t.number s.number own in
            let one : t ≡ s = same_Some t s (sym own_there ∙ ap (λ (n : ℕ). at n joined) number ∙ found) in
            subst IsKept one kept
        | inr other ↦ each s (sym (other_there s.number (λ e. not_both (has_number s.number t) (eq-eqb t.number s.number e) other)) ∙ found)
      ]

-- ---- one in the place of another

module _ (home : HomeData) (nodes : List ResourceData) (r t : ResourceData) (named : List Attr) (formed : is_well_formed nodes ≡ true) (there : at r.number nodes ≡ Some r) (number : r.number ≡ t.number) where
  abbrev placed : List ResourceData
  placed = replaced t nodes

  now_there : at t.number placed ≡ Some t
  now_there = at-replaced t nodes (at_has t.number nodes r (ap (λ (n : ℕ). at n nodes) (sym number) ∙ there))

  still_there : (n : ℕ) → (n ≡ t.number → ⊥) → at n placed ≡ at n nodes
  still_there n apart = at-replaced_other n t nodes apart

  pub replacing_operates : r.ty ≡ t.ty → r.parent ≡ t.parent → is_ty t.ty ContentInstance ≡ false → (does_renew named t ≡ false → (attr : Attr) → is_attr attr Mid ≡ false → value_in_copy home r attr ≡ value_in_copy home t attr) → IsKept t → ((s : ResourceData) → at s.number nodes ≡ Some s → IsKept s) → IsOperation home nodes (changed r t named) [] placed
  replacing_operates ty parent plain unnamed kept each = record {
    kept = each;
    left = left_kept;
    leads = record {
      kept = kept;
      there = there;
      stays = stays_same home t placed now_there;
      number = number;
      ty = ty;
      parent = parent;
      instance = plain;
      unnamed = unnamed;
    };
    removes = tt;
    others = λ s found other. (s, sym (still_there s.number (λ e. not_both (does_lead (changed r t named) s.number) (eq-eqb r.number s.number (number ∙ sym e)) other)) ∙ found, same home s);
    lost = λ x found other none.
        let stays : at x.number placed ≡ Some x = still_there x.number (λ e. not_both (does_lead (changed r t named) x.number) (eq-eqb r.number x.number (number ∙ sym e)) other) ∙ found in
        let bad : None ≡ Some x = sym none ∙ stays in
        cc;
    containers = λ x c found instance up. under_container nodes formed x c found instance up;
  }
    where
      left_kept : (s : ResourceData) → at s.number placed ≡ Some s → IsKept s
      left_kept s found = elim (cases_Bool (has_number s.number t)) [
        | inl own ↦
            let same_as : t.number ≡ s.number = eqb-true t.number s.number own in
            let one : t ≡ s = same_Some t s (sym now_there ∙ ap (λ (n : ℕ). at n placed) same_as ∙ found) in
            subst IsKept one kept
        | inr other ↦ each s (sym (still_there s.number (λ e. not_both (has_number s.number t) (eq-eqb t.number s.number (sym e)) other)) ∙ found)
      ]
