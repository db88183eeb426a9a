-- Of which creations and Updates nobody is told: no subscription stands under the parent, or under what is updated. What an instance or a container pushes out stands there too, and nothing stands under that.
use Rattle.std.specs.Prelude.{◌==◌}
use Rattle.std.proofs.Common.{◌≡◌, ℕ, List, [], ◌++◌, map, Bool, false, true, not, ◌&&◌, Option, None, Some, inl, inr, refl, sym, ap, ◌∙◌, subst}
use Rattle.std.proofs.lemmas.Bool.{and_parts, cases_Bool, eq-eqb, eqb-true, false_from_ne_true, or_left}
use Rattle.std.specs.List.{filter}
use Rattle.m2m_names.specs.declared.attributes.Attr.{Attr}
use Rattle.m2m_names.specs.declared.types.Ty.TheVariants.{Container, ContentInstance, Subscription}
use Rattle.resource_model.specs.Home.{HomeData}
use Rattle.resource_model.specs.Resource.{ResourceData, is_ty}
use Rattle.subscription_match.specs.Matching.{event_for}
use Rattle.subscription_match.specs.Notices.{notes_of, notes_of_all}
use Rattle.subscription_match.specs.declared.drafts.DraftParts.{DraftParts}
use Rattle.tree_model.specs.Changes.{created, creation_changes, deleted, those_of, update_changes, updated}
use Rattle.tree_model.specs.Tree.{at, has, instance_size, instances_of, is_instance, is_tree, is_well_formed, numbers_of, subs_of}
use Rattle.tree_model.proofs.BelowLemmas.{up_line}
use Rattle.tree_model.proofs.ChildLemmas.{sub_listed}
use Rattle.tree_model.proofs.GrowthLemmas.{tree_from_well_formed}
use Rattle.tree_model.proofs.OrderLemmas.{placed_stands, tree_ascends}
use Rattle.tree_model.proofs.TreeLemmas.{at_number, kin_parts}
use Rattle.container_limits.specs.Limits.{evicted, kept, limits_of}
use Rattle.container_limits.specs.declared.limits.Limits.{Limits}
use Rattle.entity_model.specs.Entity.{EntityData}
use Rattle.entity_model.specs.Sound.{IsSoundEntity}
use Rattle.entity_model.proofs.ExpiryLemmas.{those_all}
use Rattle.entity_model.proofs.LoweringLemmas.{each_of}
use Rattle.create_delete.specs.Changing.{pushed_by}
use Rattle.create_delete.specs.Joining.{MayJoin, gone_by}
use Rattle.create_delete.specs.declared.joining.ContainerUpdate.{ContainerUpdate}
use Rattle.create_delete.proofs.KeptToldLemmas.{other_untold}
use Rattle.create_delete.proofs.SilentLemmas.{all_none, each_picked, instance_silent, no_note, none_told}
use Rattle.create_delete.proofs.UnsentLemmas.{filter_both}

module _ (home : HomeData) (nodes : List ResourceData) (formed : is_well_formed nodes ≡ true) (going : List ℕ) where
  tree_is : is_tree nodes ≡ true
  tree_is = tree_from_well_formed nodes formed

  -- ---- of the new resource

  elsewhere : (r t : ResourceData) → (t.parent == r.parent) ≡ false → event_for going (created r) t ≡ None
  elsewhere r t apart = rw apart refl

  no_event : (r : ResourceData) → subs_of r.parent nodes ≡ [] → (t : ResourceData) → at t.number nodes ≡ Some t → event_for going (created r) t ≡ None
  no_event r beside t found = elim (cases_Bool (is_ty t.ty Subscription)) [
    | inl sub ↦ elsewhere r t (false_from_ne_true _ (λ same. sub_listed nodes r.parent t found sub (eqb-true t.parent r.parent same) beside))
    | inr other ↦ other_untold going (created r) t other
  ]

  pub new_untold : (r : ResourceData) → subs_of r.parent nodes ≡ [] → notes_of home nodes going (created r) ≡ []
  new_untold r beside =
      ap (λ (ds : List DraftParts). ds ++ [])
      (none_told home nodes going (created r) nodes (each_of (λ t. event_for going (created r) t ≡ None) nodes (tree_ascends nodes tree_is) (no_event r beside)))

  -- ---- of an Update

  updated_elsewhere : (r s t : ResourceData) (named : List Attr) → (t.parent == s.number) ≡ false → event_for going (updated r s named) t ≡ None
  updated_elsewhere r s t named apart = rw apart refl

  no_update : (r s : ResourceData) (named : List Attr) → subs_of s.number nodes ≡ [] → (t : ResourceData) → at t.number nodes ≡ Some t → event_for going (updated r s named) t ≡ None
  no_update r s named beside t found = elim (cases_Bool (is_ty t.ty Subscription)) [
    | inl sub ↦ updated_elsewhere r s t named (false_from_ne_true _ (λ same. sub_listed nodes s.number t found sub (eqb-true t.parent s.number same) beside))
    | inr other ↦ other_untold going (updated r s named) t other
  ]

  pub update_untold : (r s : ResourceData) (named : List Attr) → subs_of s.number nodes ≡ [] → notes_of home nodes going (updated r s named) ≡ []
  update_untold r s named beside =
      ap (λ (ds : List DraftParts). ds ++ [])
      (none_told home nodes going (updated r s named) nodes (each_of (λ t. event_for going (updated r s named) t ≡ None) nodes (tree_ascends nodes tree_is) (no_update r s named beside)))

  -- ---- of the instances that go

  one_untold : (c : ResourceData) (goes : ResourceData → Bool) → subs_of c.number nodes ≡ [] → (s : ResourceData) → at s.number nodes ≡ Some s → (is_instance c.number s && goes s) ≡ true → notes_of home nodes going (deleted s) ≡ []
  one_untold c goes beside s found picked =
      let kin = kin_parts ContentInstance c.number s (and_parts (is_instance c.number s) (goes s) picked).0 in
      no_note home nodes formed s found (subst (λ (n : ℕ). subs_of n nodes ≡ []) (sym kin.under) beside) (instance_silent nodes formed s found kin.kind) going s found
      (up_line nodes tree_is s.number s.number s found ∙ or_left _ _ (eq-eqb s.number s.number refl))

  some_untold : (c : ResourceData) (goes : ResourceData → Bool) → subs_of c.number nodes ≡ [] → notes_of_all home nodes going (map deleted (filter (λ s. is_instance c.number s && goes s) nodes)) ≡ []
  some_untold c goes beside =
      let both : ResourceData → Bool = λ s. is_instance c.number s && goes s in
      all_none home nodes going (filter both nodes)
      (each_picked (λ s. notes_of home nodes going (deleted s) ≡ []) both nodes
      (each_of (λ s. both s ≡ true → notes_of home nodes going (deleted s) ≡ []) nodes (tree_ascends nodes tree_is) (one_untold c goes beside)))

  pub evicted_untold : (c : ResourceData) (limits : Limits) (size : Option ℕ) (moment : ℕ) → subs_of c.number nodes ≡ [] → notes_of_all home nodes going (map deleted (those_of (evicted limits size moment (instances_of c.number nodes)) nodes)) ≡ []
  evicted_untold c limits size moment beside =
      let goes : ResourceData → Bool = λ s. not (has s.number (kept limits size moment (instances_of c.number nodes))) in
      let both : ResourceData → Bool = λ s. is_instance c.number s && goes s in
      subst (λ (rs : List ResourceData). notes_of_all home nodes going (map deleted (those_of (numbers_of rs) nodes)) ≡ []) (sym (filter_both (is_instance c.number) goes nodes))
      (subst (λ (rs : List ResourceData). notes_of_all home nodes going (map deleted rs) ≡ []) (sym (those_all nodes (filter both nodes) (λ k s got. placed_stands both nodes k s tree_is got)))
      (some_untold c goes beside))

-- ---- a resource that joins

pub unheard_joined : (e : EntityData) (r : ResourceData) (f : Option ContainerUpdate) → IsSoundEntity e → MayJoin e r f → subs_of r.parent e.nodes ≡ [] → notes_of_all e.home e.nodes (gone_by f) (creation_changes e.nodes r (gone_by f)) ≡ []
unheard_joined e r None sound may beside = ap (λ (ds : List DraftParts). ds ++ []) (new_untold e.home e.nodes sound.tree [] r beside)
unheard_joined e r (Some f) sound may beside =
    let under : may.parent.number ≡ r.parent = at_number r.parent e.nodes may.parent may.joins.container in
    let none : subs_of may.parent.number e.nodes ≡ [] = subst (λ (n : ℕ). subs_of n e.nodes ≡ []) (sym under) beside in
    let goes : notes_of_all e.home e.nodes f.gone (map deleted (those_of f.gone e.nodes)) ≡ [] =
    subst (λ (gone : List ℕ). notes_of_all e.home e.nodes f.gone (map deleted (those_of gone e.nodes)) ≡ []) (sym may.gone)
    (evicted_untold e.home e.nodes sound.tree f.gone may.parent (limits_of may.parent) (Some (instance_size r)) e.last none) in
    ap (λ (ds : List DraftParts). ds ++ notes_of_all e.home e.nodes f.gone (map deleted (those_of f.gone e.nodes))) (new_untold e.home e.nodes sound.tree f.gone r beside) ∙ goes

-- ---- an Update

-- of what a container pushes out
pushed_untold : (e : EntityData) (now : ResourceData) → IsSoundEntity e → (going : List ℕ) → subs_of now.number e.nodes ≡ [] → notes_of_all e.home e.nodes going (map deleted (those_of (pushed_by e now) e.nodes)) ≡ []
pushed_untold e now sound going beside = elim (cases_Bool (is_ty now.ty Container)) [
  | inl t ↦ rw t (evicted_untold e.home e.nodes sound.tree going now (limits_of now) None e.last beside)
  | inr f ↦ rw f refl
]

pub unheard_updated : (e : EntityData) (now r : ResourceData) (named : List Attr) → IsSoundEntity e → subs_of now.number e.nodes ≡ [] → notes_of_all e.home e.nodes (pushed_by e now) (update_changes e.nodes r now named (pushed_by e now)) ≡ []
unheard_updated e now r named sound beside =
    let gone = pushed_by e now in
    ap (λ (ds : List DraftParts). ds ++ notes_of_all e.home e.nodes gone (map deleted (those_of gone e.nodes))) (update_untold e.home e.nodes sound.tree gone r now named beside)
    ∙ pushed_untold e now sound gone beside
