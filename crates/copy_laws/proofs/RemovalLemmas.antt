-- A removal is an operation.
use Rattle.std.specs.Prelude.{◌⊎◌, slice_get}
use Rattle.std.proofs.Common.{◌≡◌, ℕ, zero, suc, List, [], ◌∷◌, Bool, true, false, not, ◌&&◌, ◌||◌, cond, Option, Some, None, filter, inl, inr, refl, sym, ap, ◌∙◌, subst}
use Rattle.std.proofs.lemmas.Bool.{cases_Bool, eq-eqb, eqb-true, or_left, or_right}
use Rattle.std.proofs.lemmas.Option.{same_Some}
use Rattle.std.specs.List.{AllByRecursion, list_any}
use Rattle.std.specs.Option.{option_map_or}
use Rattle.m2m_names.specs.Types.{does_take}
use Rattle.m2m_names.specs.declared.types.Ty.{Ty}
use Rattle.m2m_names.specs.declared.types.Ty.TheVariants.{AccessControlPolicy, Ae, Container, ContentInstance, CseBase, Group, PollingChannel, RemoteCse, Subscription, AccessControlPolicyAnnc, AeAnnc, ContainerAnnc, ContentInstanceAnnc, GroupAnnc}
use Rattle.m2m_names.proofs.TypeLemmas.{same_type}
use Rattle.resource_model.specs.Home.{HomeData}
use Rattle.resource_model.specs.Resource.{ResourceData, has_number, is_ty}
use Rattle.tree_model.proofs.GrowthLemmas.{at-without, stands, tree_from_well_formed}
use Rattle.tree_model.proofs.OrderLemmas.{passes_filter, placed_stands}
use Rattle.tree_model.proofs.QuietLemmas.{number_passes}
use Rattle.tree_model.proofs.TakenLemmas.{all_taken}
use Rattle.tree_model.proofs.TreeLemmas.{at_number}
use Rattle.tree_model.specs.Tree.{at, is_spared, is_taken, is_tree, is_well_formed, line_of, without}
use Rattle.copy_laws.specs.Following.{IsAlike, IsGone, IsKept, IsOperation, nothing, taken_with}
use Rattle.copy_laws.proofs.TextLemmas.{not_both}

-- ---- lists

each_place : (P : ResourceData → Type 0) (rs : List ResourceData) → ((k : ℕ) (r : ResourceData) → slice_get rs k ≡ Some r → P r) → AllByRecursion P rs
each_place P [] each = tt
each_place P (r ∷ rs) each = (each 0 r refl, each_place P rs (λ k s found. each (suc k) s found))

any_filtered : (p : ResourceData → Bool) (n : ℕ) (rs : List ResourceData) (r : ResourceData) → at n rs ≡ Some r → p r ≡ true → list_any (has_number n) (filter p rs) ≡ true
any_filtered p n [] r found t = (let bad : None ≡ Some r = found in cc)
any_filtered p n (s ∷ rs) r found t = elim (cases_Bool (has_number n s)) [
  | inl own ↦
      let same : s ≡ r = same_Some s r (rw own at found) in
      let it : p s ≡ true = ap p same ∙ t in
      rw (it, own) refl
  | inr other ↦
      let rest = any_filtered p n rs r (rw other at found) t in
      elim (cases_Bool (p s)) [
        | inl u ↦ rw (u, other) rest
        | inr v ↦ rw v rest
      ]
]

-- ---- what takes instances

takes_instances : (ty : Ty) → does_take ty ContentInstance ≡ true → ty ≡ Container
takes_instances AccessControlPolicy t = (let bad : false ≡ true = t in cc)
takes_instances Ae t = (let bad : false ≡ true = t in cc)
takes_instances Container t = refl
takes_instances ContentInstance t = (let bad : false ≡ true = t in cc)
takes_instances CseBase t = (let bad : false ≡ true = t in cc)
takes_instances Group t = (let bad : false ≡ true = t in cc)
takes_instances PollingChannel t = (let bad : false ≡ true = t in cc)
takes_instances RemoteCse t = (let bad : false ≡ true = t in cc)
takes_instances Subscription t = (let bad : false ≡ true = t in cc)
takes_instances AccessControlPolicyAnnc t = (let bad : false ≡ true = t in cc)
takes_instances AeAnnc t = (let bad : false ≡ true = t in cc)
takes_instances ContainerAnnc t = (let bad : false ≡ true = t in cc)
takes_instances ContentInstanceAnnc t = (let bad : false ≡ true = t in cc)
takes_instances GroupAnnc t = (let bad : false ≡ true = t in cc)

-- what an instance stands under is a container
pub under_container : (nodes : List ResourceData) → is_well_formed nodes ≡ true → (r c : ResourceData) → at r.number nodes ≡ Some r → is_ty r.ty ContentInstance ≡ true → at r.parent nodes ≡ Some c → c.ty ≡ Container
under_container nodes formed r c found instance above =
    let kind : r.ty ≡ ContentInstance = same_type r.ty ContentInstance (eqb-true _ _ instance) in
    let taken : is_taken nodes r ≡ true = number_passes (is_taken nodes) r.number nodes r (all_taken nodes formed) found in
    let takes : does_take c.ty r.ty ≡ true = sym (ap (λ (o : Option ResourceData). option_map_or (λ p. does_take p.ty r.ty) o true) above) ∙ taken in
    takes_instances c.ty (ap (does_take c.ty) (sym kind) ∙ takes)

-- ---- a removal

module _ (home : HomeData) (picks : ResourceData → Bool) (nodes : List ResourceData) (formed : is_well_formed nodes ≡ true) where
  tree_is : is_tree nodes ≡ true
  tree_is = tree_from_well_formed nodes formed

  abbrev left : List ResourceData
  left = without picks nodes

  not_spared : (b : Bool) → not b ≡ true → b ≡ false
  not_spared true t = (let bad : false ≡ true = t in cc)
  not_spared false t = refl

  -- what is left was there, and is spared
  pub record IsSpared (n : ℕ) (s : ResourceData) : Type 0 where
    pub there : at n nodes ≡ Some s
    pub spared : is_spared picks nodes n ≡ true

  pub spared_then : (n : ℕ) (s : ResourceData) → at n left ≡ Some s → IsSpared n s
  spared_then n s found = elim (cases_Bool (is_spared picks nodes n)) [
    | inl t ↦
        let same : at n left ≡ at n nodes = at-without picks n nodes tree_is ∙ rw t refl in
        record { there = sym same ∙ found; spared = t }
    | inr f ↦
        let gone : at n left ≡ None = at-without picks n nodes tree_is ∙ rw f refl in
        let bad : None ≡ Some s = sym gone ∙ found in
        cc
  ]

  -- so is what that stands under
  pub parent_spared : (s : ResourceData) → at s.number nodes ≡ Some s → is_spared picks nodes s.number ≡ true → is_spared picks nodes s.parent ≡ true
  parent_spared s found spared =
      let line : line_of s.number nodes ≡ s ∷ line_of s.parent nodes = (stands nodes tree_is s.number s found).line in
      by (picks s) (list_any picks (line_of s.parent nodes)) (sym (ap (λ (rs : List ResourceData). not (list_any picks rs)) line) ∙ spared)
    where
      by : (own above : Bool) → not (own || above) ≡ true → not above ≡ true
      by true above t = (let bad : false ≡ true = t in cc)
      by false above t = t

  gone_at : (k : ℕ) (r : ResourceData) → slice_get (taken_with picks nodes) k ≡ Some r → IsGone nodes left r
  gone_at k r found =
      let there : at r.number nodes ≡ Some r = placed_stands (λ s. not (is_spared picks nodes s.number)) nodes k r tree_is found in
      let picked : is_spared picks nodes r.number ≡ false = not_spared _ (passes_filter (λ s. not (is_spared picks nodes s.number)) nodes k r found) in
      record {
        there = there;
        gone = at-without picks r.number nodes tree_is ∙ rw picked refl;
        below = λ s stays under.
            let was = spared_then s.number s stays in
            not_both (is_spared picks nodes r.number) (ap (is_spared picks nodes) (sym under) ∙ parent_spared s was.there was.spared) picked;
      }

  as_it_is : (r : ResourceData) → IsAlike home r r
  as_it_is r = record {
    number = refl;
    ty = refl;
    parent = refl;
    peers = refl;
    values = λ attr other. refl;
  }

  pub removal_operates : ((r : ResourceData) → at r.number nodes ≡ Some r → IsKept r) → IsOperation home nodes nothing (taken_with picks nodes) left
  removal_operates kept = record {
    kept = kept;
    left = λ s found. kept s (spared_then s.number s found).there;
    leads = tt;
    removes = each_place (IsGone nodes left) (taken_with picks nodes) gone_at;
    others = λ s found other. (s, (spared_then s.number s found).there, as_it_is s);
    lost = λ r found other gone. inl (any_filtered (λ s. not (is_spared picks nodes s.number)) r.number nodes r found (lost_is r found gone));
    containers = λ r c found instance above. under_container nodes formed r c found instance above;
  }
    where
      lost_is : (r : ResourceData) → at r.number nodes ≡ Some r → at r.number left ≡ None → not (is_spared picks nodes r.number) ≡ true
      lost_is r found gone = elim (cases_Bool (is_spared picks nodes r.number)) [
        | inl t ↦
            let stays : at r.number left ≡ Some r = at-without picks r.number nodes tree_is ∙ rw t found in
            let bad : None ≡ Some r = sym gone ∙ stays in
            cc
        | inr f ↦ ap not f
      ]
