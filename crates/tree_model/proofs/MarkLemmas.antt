-- A resource of which one attribute is set that says nothing of where it stands: what stands in the
-- list, and when it is due.
use Rattle.std.proofs.Common.{◌≡◌, ℕ, ◌+◌, ◌<◌, List, true, false, cond, Option, Some, None, option_map, inl, inr, refl, sym, ap, ◌∙◌, subst, arith}
use Rattle.std.proofs.lemmas.Bool.{cases_eq, both_ways}
use Rattle.std.proofs.lemmas.Option.{same_Some}
use Rattle.std.specs.Option.{option_and_then}
use Rattle.m2m_names.specs.declared.attributes.Attr.{Attr}
use Rattle.m2m_names.specs.declared.attributes.Attr.TheVariants.{Aei, Cs, Csi, Exc, Mia, St}
use Rattle.m2m_names.specs.declared.types.Ty.TheVariants.{Ae, CseBase, ContentInstance, RemoteCse}
use Rattle.m2m_value.specs.Data.{Data}
use Rattle.m2m_value.specs.Shapes.{as_count}
use Rattle.m2m_value.specs.View.{as_text}
use Rattle.resource_model.specs.Attributes.{is_attr, value_of, with_value, count_at}
use Rattle.resource_model.specs.Resource.{ResourceData, is_ty, ae_id, cse_id}
use Rattle.resource_model.proofs.AttributeLemmas.{value-with_value_other}
use Rattle.tree_model.specs.Tree.{at, has, replaced, lesser, due_under, is_quiet, are_quiet, is_tree, standing}
use Rattle.tree_model.proofs.GrowthLemmas.{stands}
use Rattle.tree_model.proofs.KeptLemmas.{is_tree-replaced}
use Rattle.tree_model.proofs.QuietLemmas.{all_by_number, number_passes, from}
use Rattle.tree_model.proofs.TreeLemmas.{at_has, at_number, at-replaced, at-replaced_other}

-- the resource with this value of an attribute, last changed at this moment
abbrev pub marked : Attr → Data → ℕ → ResourceData → ResourceData
marked a d lt r = record r { lt = lt; attrs = with_value a d r.attrs }

-- the attribute is none by which a resource is found, is due or has a size
pub record IsAside (a : Attr) : Type 0 where
  pub aei : is_attr Aei a ≡ false
  pub csi : is_attr Csi a ≡ false
  pub mia : is_attr Mia a ≡ false
  pub cs : is_attr Cs a ≡ false

pub st_aside : IsAside St
st_aside = record { aei = refl; csi = refl; mia = refl; cs = refl }

pub exc_aside : IsAside Exc
exc_aside = record { aei = refl; csi = refl; mia = refl; cs = refl }

-- another attribute keeps its value
pub other_kept : (b a : Attr) (d : Data) (r : ResourceData) → is_attr b a ≡ false → is_attr b b ≡ true → value_of b (with_value a d r.attrs) ≡ value_of b r.attrs
other_kept b a d r apart itself = value-with_value_other a b d r.attrs (λ e. both_ways _ apart (ap (is_attr b) (sym e) ∙ itself))

module _ (a : Attr) (aside : IsAside a) (d : Data) (lt : ℕ) where
  pub standing-marked : (r : ResourceData) → standing (marked a d lt r) ≡ standing r
  standing-marked r =
      ap (λ (o : Option Data). (r.ty, r.name, r.parent, cond (is_ty r.ty Ae) (option_and_then as_text o) None, cse_id (marked a d lt r))) (other_kept Aei a d r aside.aei refl)
      ∙ ap (λ (o : Option Data). (r.ty, r.name, r.parent, ae_id r, cond (is_ty r.ty RemoteCse) (option_and_then as_text o) None)) (other_kept Csi a d r aside.csi refl)

  -- what stands below it is due as before
  pub due_below : (r s : ResourceData) → due_under (Some (marked a d lt r)) s ≡ due_under (Some r) s
  due_below r s =
      let same : count_at Mia (marked a d lt r).attrs ≡ count_at Mia r.attrs = ap (option_and_then as_count) (other_kept Mia a d r aside.mia refl) in
      ap (λ (o : Option ℕ). cond (is_ty s.ty CseBase) None (cond (is_ty s.ty ContentInstance) (Some (lesser s.et (option_map (λ age. s.ct + age) o))) (Some s.et))) same

  module _ (nodes : List ResourceData) (n : ℕ) (r : ResourceData) (found : at n nodes ≡ Some r) where
    abbrev new : ResourceData
    new = marked a d lt r

    own : at r.number nodes ≡ Some r
    own = ap (λ (m : ℕ). at m nodes) (at_number n nodes r found) ∙ found

    pub stood_marked : option_map standing (at r.number nodes) ≡ Some (standing new)
    stood_marked = ap (option_map standing) own ∙ ap Some (sym (standing-marked r))

    pub tree_marked : is_tree nodes ≡ true → is_tree (replaced new nodes) ≡ true
    tree_marked tree = is_tree-replaced new nodes stood_marked ∙ tree

    there : has r.number nodes ≡ true
    there = at_has r.number nodes r own

    module _ (tree : is_tree nodes ≡ true) (until : ℕ) (quiet : are_quiet until nodes ≡ true) where
      each : (s : ResourceData) → at s.number (replaced new nodes) ≡ Some s → is_quiet (replaced new nodes) until s ≡ true
      each s here = elim (cases_eq s.number r.number) [
        | inl same ↦
            let is : new ≡ s = same_Some new s (sym (at-replaced new nodes there) ∙ ap (λ (m : ℕ). at m (replaced new nodes)) (sym same) ∙ here) in
            let above : r.parent < r.number = (stands nodes tree r.number r own).above in
            let up : at r.parent (replaced new nodes) ≡ at r.parent nodes = at-replaced_other r.parent new nodes (λ e. omega arith) in
            subst (λ (x : ResourceData). is_quiet (replaced new nodes) until x ≡ true) is (ap (λ (o : Option ResourceData). from until (due_under o r)) up ∙ number_passes (is_quiet nodes until) r.number nodes r quiet own)
        | inr apart ↦
            let before : at s.number nodes ≡ Some s = sym (at-replaced_other s.number new nodes apart) ∙ here in
            let held : from until (due_under (at s.parent nodes) s) ≡ true = number_passes (is_quiet nodes until) s.number nodes s quiet before in
            elim (cases_eq s.parent r.number) [
              | inl under ↦
                  let up : at s.parent (replaced new nodes) ≡ Some new = ap (λ (m : ℕ). at m (replaced new nodes)) under ∙ at-replaced new nodes there in
                  let was : at s.parent nodes ≡ Some r = ap (λ (m : ℕ). at m nodes) under ∙ own in
                  ap (λ (o : Option ResourceData). from until (due_under o s)) up ∙ ap (from until) (due_below r s)
                  ∙ ap (λ (o : Option ResourceData). from until (due_under o s)) (sym was) ∙ held
              | inr other ↦ ap (λ (o : Option ResourceData). from until (due_under o s)) (at-replaced_other s.parent new nodes other) ∙ held
            ]
      ]

      pub quiet_marked : are_quiet until (replaced new nodes) ≡ true
      quiet_marked = all_by_number (is_quiet (replaced new nodes) until) (replaced new nodes) (tree_marked tree) each
