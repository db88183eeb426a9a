-- What an Update changes, it changes by right.
use Rattle.std.proofs.Common.{◌≡◌, ◌≢◌, ℕ, List, [], true, Option, Some, None, unwrap_or, inl, inr, refl, sym, ap, ◌∙◌, subst}
use Rattle.std.proofs.lemmas.Bool.{cases_Bool, cases_eq, both_ways}
use Rattle.std.proofs.lemmas.Option.{same_Some}
use Rattle.m2m_names.specs.Operations.{op_row}
use Rattle.m2m_names.specs.declared.operations.Op.TheVariants.{Update}
use Rattle.m2m_names.specs.declared.types.Ty.TheVariants.{ContentInstance}
use Rattle.m2m_value.specs.Data.{Entry}
use Rattle.primitive_json.specs.declared.request.RequestParts.{RequestParts}
use Rattle.resource_model.specs.Resource.{ResourceData}
use Rattle.tree_model.specs.Tree.{at, instances_of, is_instance, is_tree, replaced}
use Rattle.tree_model.proofs.GrowthLemmas.{tree_from_well_formed}
use Rattle.tree_model.proofs.KeptLemmas.{is_tree-replaced}
use Rattle.tree_model.proofs.TreeLemmas.{at_number, at-replaced, at-replaced_other, kin_parts}
use Rattle.container_limits.specs.Limits.{evicted}
use Rattle.policy_eval.specs.Rights.{relinks}
use Rattle.entity_model.specs.Entity.{EntityData}
use Rattle.entity_model.specs.Places.{Effect}
use Rattle.entity_model.specs.Sound.{IsSoundEntity}
use Rattle.request_rules.specs.Order.{fault_at, fault_on}
use Rattle.request_rules.specs.Requests.{content_for, named_by}
use Rattle.request_rules.specs.Rights.{is_granted, is_relink, may_update}
use Rattle.request_rules.proofs.OrderLemmas.{found_at, nothing_on, places_parts}
use Rattle.create_delete.specs.Changing.{nodes_updated, effect_at, pushed_by, update_effect, updated_resource, without_all}
use Rattle.create_delete.specs.Guard.{ChangesByRight, DiffersIn, IsChanged, IsChangedByRight, IsGone, IsNew, IsRemovedByRight, link_attrs}
use Rattle.create_delete.specs.NewResource.{IsReplacement}
use Rattle.create_delete.specs.Updating.{IsUpdatable}
use Rattle.create_delete.proofs.LeftLemmas.{all_left, is_left, pushes_nothing, IsLeft}
use Rattle.create_delete.proofs.EffectLemmas.{done_at}
use Rattle.create_delete.proofs.PushingLemmas.{by_pushing, nothing_removed}
use Rattle.create_delete.proofs.RelinkLemmas.{limits_kept, links_stay, names_link, names_no_link, relinked}
use Rattle.create_delete.proofs.ReplacedLemmas.{replaced_by, still_there}
use Rattle.create_delete.proofs.ReplacementLemmas.{replacement}
use Rattle.create_delete.proofs.UpdatableLemmas.{updatable, updates_attributes}
use Rattle.create_delete.proofs.UpdatedLemmas.{pruning, sound_updated}

-- the entity in which a resource is as it is now
abbrev pub updated_in : EntityData → ResourceData → EntityData
updated_in e now = record { home = e.home; nodes = nodes_updated e now; next = e.next; last = e.last; items = e.items; numbered = e.numbered }

-- ---- where a resource takes a place

module _ (e : EntityData) (sound : IsSoundEntity e) (now : ResourceData) (new : IsReplacement e now) where
  abbrev turned : List ResourceData
  turned = replaced now e.nodes

  pub turned_tree : is_tree turned ≡ true
  turned_tree = is_tree-replaced now e.nodes new.stood ∙ tree_from_well_formed e.nodes sound.tree

  pub now_there : at now.number turned ≡ Some now
  now_there = at-replaced now e.nodes (still_there e.nodes now new.stood)

  pub updated_left : IsLeft now.number turned (nodes_updated e now)
  updated_left =
      by_pushing (λ (gone : List ℕ). IsLeft now.number turned (without_all gone turned)) e now
      (λ t. is_left now.number (replaced_by e now) now None (instances_of now.number e.nodes) [] (pruning e now sound new))
      (λ f. subst (IsLeft now.number turned) (sym (nothing_removed turned turned_tree)) (all_left now.number turned))

  -- what stands after it stood there, but for the resource itself
  pub stood_before : (m : ℕ) (s : ResourceData) → m ≢ now.number → at m (nodes_updated e now) ≡ Some s → at m e.nodes ≡ Some s
  stood_before m s apart found = sym (at-replaced_other m now e.nodes apart) ∙ updated_left.stood m s found

  -- what pushes out nothing keeps all
  pub all_kept : pushed_by e now ≡ [] → nodes_updated e now ≡ turned
  all_kept none = ap (λ (gone : List ℕ). without_all gone turned) none ∙ nothing_removed turned turned_tree

-- ---- an Update that no place refuses

module _ (e : EntityData) (sound : IsSoundEntity e) (o : List ℕ) (request : RequestParts) (old : ResourceData) (es : List Entry) (may : IsUpdatable e es old) (whole : content_for request old.ty ≡ Some es) (right : may_update e o request old.number ≡ true) where
  abbrev now : ResourceData
  now = updated_resource e es old

  abbrev after : EntityData
  after = updated_in e now

  new : IsReplacement e now
  new = replacement e es old sound may

  -- ---- what is new

  none_new : (r : ResourceData) → IsNew e.nodes after.nodes r → ⊥
  none_new r fresh = elim (cases_eq r.number now.number) [
    | inl same ↦ (let both : None ≡ Some old = sym fresh.0 ∙ ap (λ (m : ℕ). at m e.nodes) same ∙ may.stands in cc)
    | inr apart ↦ (let both : None ≡ Some r = sym fresh.0 ∙ stood_before e sound now new r.number r apart fresh.1 in cc)
  ]

  -- ---- what differs

  changed_itself : IsChangedByRight e o [] after old now
  changed_itself = elim (cases_Bool (is_relink request)) [
    | inl link ↦
        let relinks_it : relinks e.home e.nodes o old.number ≡ true = rw link at right in
        inr (inl (relinks_it, relinked e es old (names_link request old.ty es link whole)))
    | inr other ↦
        let updates_it : is_granted e o (op_row Update).bit old.number ≡ true = rw other at right in
        inl (updates_it, links_stay e es old may.sorted (names_no_link request old.ty es may.admitted whole other))
  ]

  by_same : (r s : ResourceData) → old ≡ r → now ≡ s → IsChangedByRight e o [] after r s
  by_same r s was is = subst (λ (x : ResourceData). IsChangedByRight e o [] after x s) was (subst (λ (x : ResourceData). IsChangedByRight e o [] after old x) is changed_itself)

  changed : (r s : ResourceData) → IsChanged e.nodes after.nodes r s → IsChangedByRight e o [] after r s
  changed r s change = elim (cases_eq s.number now.number) [
    | inl same ↦
        let left : at now.number (replaced now e.nodes) ≡ Some s = ap (λ (m : ℕ). at m (replaced now e.nodes)) (sym same) ∙ (updated_left e sound now new).stood s.number s change.is in
        let before : at old.number e.nodes ≡ Some r = ap (λ (m : ℕ). at m e.nodes) (sym same ∙ change.same) ∙ change.was in
        by_same r s (same_Some old r (sym may.stands ∙ before)) (same_Some now s (sym (now_there e sound now new) ∙ left))
    | inr apart ↦
        let before : at s.number e.nodes ≡ Some s = stood_before e sound now new s.number s apart change.is in
        absurd (change.differs (same_Some s r (sym before ∙ ap (λ (m : ℕ). at m e.nodes) change.same ∙ change.was)))
  ]

  -- ---- what is gone

  -- a change of `acpi` alone pushes out nothing
  pushes_none : is_relink request ≡ true → pushed_by e now ≡ []
  pushes_none link =
      by_pushing (λ (gone : List ℕ). gone ≡ []) e now
      (λ t.
      let differs : DiffersIn (link_attrs old.ty) old now = relinked e es old (names_link request old.ty es link whole) in
      ap (λ l. evicted l None e.last (instances_of old.number e.nodes)) (limits_kept old now t differs)
      ∙ pushes_nothing e old sound may.stands t)
      (λ f. refl)

  removed : (r : ResourceData) → IsGone e.nodes after.nodes r → IsRemovedByRight Update e o old.number [] r
  removed r gone = elim (cases_eq r.number now.number) [
    | inl same ↦
        let none : at now.number after.nodes ≡ None = ap (λ (m : ℕ). at m after.nodes) (sym same) ∙ gone.1 in
        let instance : is_instance now.number now ≡ true = (updated_left e sound now new).gone now (now_there e sound now new) none in
        absurd (both_ways _ new.plain (kin_parts ContentInstance now.number now instance).kind)
    | inr apart ↦
        let stands : at r.number (replaced now e.nodes) ≡ Some r = at-replaced_other r.number now e.nodes apart ∙ gone.0 in
        elim (cases_Bool (is_relink request)) [
          | inl link ↦
              let still : at r.number after.nodes ≡ Some r = ap (at r.number) (all_kept e sound now new (pushes_none link)) ∙ stands in
              let both : Some r ≡ None = sym still ∙ gone.1 in
              cc
          | inr other ↦
              let updates_it : is_granted e o (op_row Update).bit old.number ≡ true = rw other at right in
              inr (inl ((updated_left e sound now new).gone r stands gone.1, updates_it))
        ]
  ]

  pub updated_by_right : ChangesByRight Update e o old.number [] after
  updated_by_right = record {
    created = λ r fresh. absurd (none_new r fresh);
    changed = changed;
    removed = removed;
  }

  pub updated_sound : IsSoundEntity after
  updated_sound = sound_updated e now sound new

-- ---- the Update of a request

-- what an Update that no place refuses updates, and to what
pub record IsUpdate (e : EntityData) (o : List ℕ) (request : RequestParts) (n : ℕ) : Type 0 where
  pub target : ResourceData
  pub number : target.number ≡ n
  pub es : List Entry
  pub named : named_by Update request target ≡ es
  pub may : IsUpdatable e es target
  pub whole : content_for request target.ty ≡ Some es
  pub right : may_update e o request target.number ≡ true
  pub after : (effect_at Update e o request n).after ≡ updated_in e (updated_resource e es target)

module _ (e : EntityData) (o : List ℕ) (request : RequestParts) (n : ℕ) (none : fault_at Update e o request n ≡ None) where
  update_of : (t : ResourceData) → at n e.nodes ≡ Some t → fault_on Update e o request t ≡ None → (es : List Entry) → content_for request t.ty ≡ Some es → IsUpdate e o request n
  update_of t there fault es whole =
      let number : t.number ≡ n = at_number n e.nodes t there in
      let names : named_by Update request t ≡ es = ap (λ (x : Option (List Entry)). unwrap_or x []) whole in
      record {
        target = t;
        number = number;
        es = es;
        named = names;
        may = updatable e o request t es fault (ap (λ (m : ℕ). at m e.nodes) number ∙ there) whole;
        whole = whole;
        right = (places_parts Update e o request t fault).right;
        after =
            ap (λ (x : Effect). x.after) (done_at Update e o request n t there none)
            ∙ ap (λ (xs : List Entry). (update_effect e request xs t).after) names;
      }

  by_names : (t : ResourceData) → at n e.nodes ≡ Some t → fault_on Update e o request t ≡ None → (x : Option (List Entry)) → content_for request t.ty ≡ x → IsUpdate e o request n
  by_names t there fault None is = absurd (updates_attributes e o request t fault is)
  by_names t there fault (Some es) is = update_of t there fault es is

  pub is_update : IsUpdate e o request n
  is_update =
      let found = found_at Update e o request n none in
      by_names found.0 found.1 (nothing_on Update e o request n found.0 found.1 none) (content_for request found.0.ty) refl

pub update_by_right : (e : EntityData) (o : List ℕ) (request : RequestParts) (n : ℕ) → IsSoundEntity e → fault_at Update e o request n ≡ None → ChangesByRight Update e o n [] (effect_at Update e o request n).after
update_by_right e o request n sound none =
    let u = is_update e o request n none in
    subst (ChangesByRight Update e o n []) (sym u.after)
    (subst (λ (m : ℕ). ChangesByRight Update e o m [] (updated_in e (updated_resource e u.es u.target))) u.number
    (updated_by_right e sound o request u.target u.es u.may u.whole u.right))

pub update_sound : (e : EntityData) (o : List ℕ) (request : RequestParts) (n : ℕ) → IsSoundEntity e → fault_at Update e o request n ≡ None → IsSoundEntity (effect_at Update e o request n).after
update_sound e o request n sound none =
    let u = is_update e o request n none in
    subst IsSoundEntity (sym u.after) (updated_sound e sound o request u.target u.es u.may u.whole u.right)
