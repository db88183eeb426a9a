-- What a Create changes, it changes by right.
use Rattle.std.specs.Prelude.{nat_lt, bit_and}
use Rattle.std.proofs.Common.{◌≡◌, ◌≢◌, ℕ, ◌+◌, List, [], ◌∷◌, ◌++◌, Bool, true, false, cond, not, Option, Some, None, unwrap_or, pos, inl, inr, refl, sym, ap, ◌∙◌, subst}
use Rattle.std.proofs.lemmas.Bool.{cases_Bool, cases_eq, and_from, and_left, both_ways, eqb-true, eq-eqb}
use Rattle.std.proofs.lemmas.Nat.{and_assoc}
use Rattle.std.proofs.lemmas.Option.{same_Some}
use Rattle.std.specs.Option.{option_map_or, option_or}
use Rattle.m2m_names.specs.Operations.{op_row}
use Rattle.m2m_names.specs.Name.{is_originator}
use Rattle.m2m_names.specs.declared.attributes.Attr.{Attr}
use Rattle.m2m_names.specs.declared.attributes.Attr.TheVariants.{St}
use Rattle.m2m_names.specs.declared.codes.Rsc.TheVariants.{BadChild}
use Rattle.m2m_names.specs.declared.operations.Op.TheVariants.{Create}
use Rattle.m2m_names.specs.declared.types.Ty.{Ty}
use Rattle.m2m_names.specs.declared.types.Ty.TheVariants.{Container, ContentInstance}
use Rattle.m2m_value.specs.Data.{Entry, number}
use Rattle.primitive_json.specs.declared.request.RequestParts.{RequestParts}
use Rattle.resource_model.specs.Resource.{ResourceData, is_ty, has_number}
use Rattle.resource_model.proofs.AttributeLemmas.{value-with_value_other}
use Rattle.tree_model.specs.Tree.{at, has, instances_of, instance_size, is_instance, replaced, restamped, restamped_at}
use Rattle.tree_model.proofs.GrowthLemmas.{below_lacks}
use Rattle.tree_model.proofs.StampLemmas.{restamped_is}
use Rattle.tree_model.proofs.TreeLemmas.{at_has, at_none, at_number, at-append, at-replaced, at-replaced_other, kin_parts}
use Rattle.container_limits.specs.Limits.{evicted, kept, limits_of}
use Rattle.policy_eval.specs.Rights.{bits_by, has_bits}
use Rattle.policy_eval.specs.Rules.{is_attr_in, rules_of}
use Rattle.entity_model.specs.Entity.{EntityData}
use Rattle.entity_model.specs.Places.{Effect, refused}
use Rattle.entity_model.specs.Sound.{IsSoundEntity}
use Rattle.request_rules.specs.Creation.{Creation, creation_of, new_resource}
use Rattle.request_rules.specs.Order.{creation_by, fault_at, fault_on}
use Rattle.request_rules.specs.Requests.{child_ty, content_for}
use Rattle.request_rules.specs.Rights.{create_bits, is_granted, is_subscribing}
use Rattle.request_rules.proofs.OrderLemmas.{found_at, nothing_on, places_parts}
use Rattle.create_delete.specs.Changing.{after_joining, create_effect, with_new_instance, container_update_of, is_numbered_in, effect_at, with_new_resource, without_all}
use Rattle.create_delete.specs.Guard.{ChangesByRight, DiffersIn, container_update_attrs, IsChanged, IsChangedByRight, IsGone, IsNew}
use Rattle.create_delete.specs.Joining.{IsAllowed, MayJoinContainer, MayJoin}
use Rattle.create_delete.specs.NewResource.{IsNewInstance, IsNewResource}
use Rattle.create_delete.specs.declared.joining.ContainerUpdate.{ContainerUpdate}
use Rattle.create_delete.proofs.CreatableLemmas.{allowed, names_attributes, names_type}
use Rattle.create_delete.proofs.CreatedLemmas.{may_join}
use Rattle.create_delete.proofs.GrownLemmas.{grown_by, sound_grown}
use Rattle.create_delete.proofs.InstanceLemmas.{grown_tree, instance_type, is_container, limits_restamped, pruning, there}
use Rattle.create_delete.proofs.JoiningLemmas.{filled_is, filling_sound}
use Rattle.tree_model.proofs.AmongLemmas.{is_not_kept}
use Rattle.create_delete.proofs.LeftLemmas.{instances_left, is_left, left_at, IsLeft}
use Rattle.create_delete.proofs.EffectLemmas.{done_at}
use Rattle.create_delete.proofs.ReplacedLemmas.{replaced_by}
use Rattle.m2m_names.proofs.ListLemmas.{all_filtered}

-- ---- the right

-- who has the bits that a subscription needs may create
has_fewer : (had : ℕ) → has_bits had 3 ≡ true → has_bits had 1 ≡ true
has_fewer had all =
    let both : bit_and had 3 ≡ 3 = eqb-true (bit_and had 3) 3 all in
    eq-eqb (bit_and had 1) 1 (sym (and_assoc 1 had 3) ∙ ap (λ (n : ℕ). bit_and n 1) both)

fewer_at : (bits : ResourceData → ℕ) (o : Option ResourceData) → option_map_or (λ r. has_bits (bits r) 3) o false ≡ true → option_map_or (λ r. has_bits (bits r) 1) o false ≡ true
fewer_at bits None all = all
fewer_at bits (Some r) all = has_fewer (bits r) all

creates_by : (e : EntityData) (o : List ℕ) (request : RequestParts) (n : ℕ) → is_granted e o (create_bits request) n ≡ true → is_granted e o (op_row Create).bit n ≡ true
creates_by e o request n right = elim (cases_Bool (is_subscribing request)) [
  | inl t ↦ (let all : is_granted e o 3 n ≡ true = rw t at right in fewer_at (λ r. bits_by e.home o (rules_of e.nodes r)) (at n e.nodes) all)
  | inr f ↦ rw f at right
]

-- ---- what comes last

module _ (e : EntityData) (sound : IsSoundEntity e) (r : ResourceData) (new : IsNewResource e r) where
  abbrev grown : List ResourceData
  grown = e.nodes ++ r ∷ []

  pub lacks : at r.number e.nodes ≡ None
  lacks = at_none r.number e.nodes (ap (λ (m : ℕ). has m e.nodes) new.number ∙ below_lacks e.next e.nodes sound.numbers)

  pub last_there : at r.number grown ≡ Some r
  last_there = at-append r.number e.nodes (r ∷ []) ∙ rw (lacks, eq-eqb r.number r.number refl) refl

  -- what stood there stands there
  pub older_there : (m : ℕ) (s : ResourceData) → at m e.nodes ≡ Some s → at m grown ≡ Some s
  older_there m s found = at-append m e.nodes (r ∷ []) ∙ rw found refl

  alone : (m : ℕ) (s : ResourceData) → at m (r ∷ []) ≡ Some s → r ≡ s
  alone m s found = elim (cases_Bool (has_number m r)) [
    | inl t ↦ same_Some r s (rw t at found)
    | inr f ↦ (let none : None ≡ Some s = rw f at found in cc)
  ]

  -- and nothing else is new
  pub only_new : (s : ResourceData) → at s.number e.nodes ≡ None → at s.number grown ≡ Some s → r ≡ s
  only_new s none found =
      let split : at s.number grown ≡ at s.number (r ∷ []) = at-append s.number e.nodes (r ∷ []) ∙ ap (λ (o : Option ResourceData). option_or o (at s.number (r ∷ []))) none in
      alone s.number s (sym split ∙ found)

  -- what isn't an instance changes nothing else
  pub joined_by_right : (o : List ℕ) → is_granted e o (op_row Create).bit r.parent ≡ true → ChangesByRight Create e o r.parent [] (with_new_resource e r)
  joined_by_right o right = record {
    created = λ s fresh. (ap (λ (x : ResourceData). x.parent) (sym (only_new s fresh.0 fresh.1)), right);
    changed = λ a b change.
        let before : at b.number e.nodes ≡ Some a = ap (λ (m : ℕ). at m e.nodes) change.same ∙ change.was in
        absurd (change.differs (same_Some b a (sym change.is ∙ older_there b.number a before)));
    removed = λ s gone.
        let both : Some s ≡ None = sym (older_there s.number s gone.0) ∙ gone.1 in
        cc;
  }

-- ---- a content instance

module _ (e : EntityData) (sound : IsSoundEntity e) (r c : ResourceData) (st : ℕ) (filling : IsNewInstance e r c st) where
  abbrev all : List ResourceData
  all = e.nodes ++ r ∷ []

  abbrev stamped : ResourceData
  stamped = restamped e.last st c

  abbrev turned : List ResourceData
  turned = replaced stamped all

  abbrev before : List ResourceData
  before = instances_of r.parent e.nodes

  abbrev out : List ℕ
  out = evicted (limits_of c) (Some (instance_size r)) e.last before

  abbrev pub nodes_filled : List ResourceData
  nodes_filled = without_all out (restamped_at r.parent e.last st all)

  -- as it is said of the container that is stamped anew
  pub same_filled : without_all (evicted (limits_of stamped) (Some (instance_size r)) e.last before) turned ≡ nodes_filled
  same_filled =
      ap (λ l. without_all (evicted l (Some (instance_size r)) e.last before) turned) (limits_restamped e.last st c)
      ∙ sym (ap (without_all out) (restamped_is all r.parent e.last st c (grown_tree e r c st sound filling) (there e r c st sound filling)))

  pub named : c.number ≡ r.parent
  named = at_number r.parent e.nodes c filling.container

  pub container_there : at c.number e.nodes ≡ Some c
  container_there = ap (λ (m : ℕ). at m e.nodes) named ∙ filling.container

  pub stamped_there : at stamped.number turned ≡ Some stamped
  stamped_there = at-replaced stamped all (at_has stamped.number all c (older_there e sound r filling.new c.number c container_there))

  apart : r.number ≢ c.number
  apart is = (let both : None ≡ Some c = sym (lacks e sound r filling.new) ∙ ap (λ (m : ℕ). at m e.nodes) is ∙ container_there in cc)

  filled_left : IsLeft r.parent turned nodes_filled
  filled_left = subst (IsLeft r.parent turned) same_filled
      (is_left r.parent (replaced_by (grown_by e r) stamped) stamped (Some (instance_size r)) before (r ∷ []) (pruning e r c st sound filling))

  -- ---- the new one stays

  not_before : has r.number before ≡ false
  not_before = ap (λ (m : ℕ). has m before) filling.new.number ∙ below_lacks e.next before (all_filtered (λ s. nat_lt s.number e.next) (is_instance r.parent) e.nodes sound.numbers)

  pub not_out : is_numbered_in (evicted (limits_of stamped) (Some (instance_size r)) e.last before) r ≡ false
  not_out = is_not_kept (kept (limits_of stamped) (Some (instance_size r)) e.last before) before r.number ∙ and_left (has r.number before) _ not_before

  new_turned : at r.number turned ≡ Some r
  new_turned = at-replaced_other r.number stamped all apart ∙ last_there e sound r filling.new

  new_left : at r.number nodes_filled ≡ Some r
  new_left =
      ap (at r.number) (sym same_filled)
      ∙ left_at r.parent (replaced_by (grown_by e r) stamped) stamped (Some (instance_size r)) before (r ∷ []) (pruning e r c st sound filling) r new_turned
      ∙ ap (λ (b : Bool). cond (not b) (Some r) None) not_out

  -- a container has the newest that fit beside the new one, and that
  pub instances_filled : instances_of r.parent nodes_filled ≡ kept (limits_of c) (Some (instance_size r)) e.last before ++ r ∷ []
  instances_filled =
      ap (instances_of r.parent) (sym same_filled)
      ∙ instances_left r.parent (replaced_by (grown_by e r) stamped) stamped (Some (instance_size r)) before (r ∷ []) (pruning e r c st sound filling)
      ∙ ap (λ (b : Bool). kept (limits_of stamped) (Some (instance_size r)) e.last before ++ cond (not b) (r ∷ []) []) not_out
      ∙ ap (λ l. kept l (Some (instance_size r)) e.last before ++ r ∷ []) (limits_restamped e.last st c)

  -- ---- what it changes

  abbrev after : EntityData
  after = record { home = e.home; nodes = nodes_filled; next = e.next + 1; last = e.last; items = e.items; numbered = e.numbered }

  -- what stands after stood there with the new one, but for the container
  pub stood_grown : (m : ℕ) (s : ResourceData) → m ≢ c.number → at m nodes_filled ≡ Some s → at m all ≡ Some s
  stood_grown m s other found = sym (at-replaced_other m stamped all other) ∙ filled_left.stood m s found

  created : (s : ResourceData) → IsNew e.nodes nodes_filled s → s.parent ≡ r.parent
  created s fresh = elim (cases_eq s.number c.number) [
    | inl is ↦ (let both : None ≡ Some c = sym fresh.0 ∙ ap (λ (m : ℕ). at m e.nodes) is ∙ container_there in cc)
    | inr other ↦ ap (λ (x : ResourceData). x.parent) (sym (only_new e sound r filling.new s fresh.0 (stood_grown s.number s other fresh.1)))
  ]

  -- the container differs in its state tag alone
  tag_alone : DiffersIn container_update_attrs c stamped
  tag_alone = record {
    rest = refl;
    others = λ a none. value-with_value_other St a (number (pos st)) c.attrs (λ is.
        both_ways (is_attr_in container_update_attrs a) none (subst (λ (x : Attr). is_attr_in container_update_attrs x ≡ true) (sym is) refl));
  }

  pub itself : is_instance r.parent r ≡ true
  itself = and_from _ _ (eq-eqb r.parent r.parent refl) filling.instance

  stamped_by_right : (o : List ℕ) → IsChangedByRight e o [] after c stamped
  stamped_by_right o = inr (inr (inl (r, (lacks e sound r filling.new, new_left), ap (λ (m : ℕ). is_instance m r) named ∙ itself, tag_alone)))

  -- of what stood there the container alone differs
  pub changed_is : (a b : ResourceData) → IsChanged e.nodes nodes_filled a b → (c ≡ a) × (stamped ≡ b)
  changed_is a b change = elim (cases_eq b.number c.number) [
    | inl is ↦
        let now : at c.number turned ≡ Some b = ap (λ (m : ℕ). at m turned) (sym is) ∙ filled_left.stood b.number b change.is in
        let was : at c.number e.nodes ≡ Some a = ap (λ (m : ℕ). at m e.nodes) (sym is ∙ change.same) ∙ change.was in
        (same_Some c a (sym container_there ∙ was), same_Some stamped b (sym stamped_there ∙ now))
    | inr other ↦
        let was : at b.number e.nodes ≡ Some a = ap (λ (m : ℕ). at m e.nodes) change.same ∙ change.was in
        absurd (change.differs (same_Some b a (sym (stood_grown b.number b other change.is) ∙ older_there e sound r filling.new b.number a was)))
  ]

  changed : (o : List ℕ) (a b : ResourceData) → IsChanged e.nodes nodes_filled a b → IsChangedByRight e o [] after a b
  changed o a b change =
      let same = changed_is a b change in
      subst (λ (x : ResourceData). IsChangedByRight e o [] after x b) same.0 (subst (λ (x : ResourceData). IsChangedByRight e o [] after c x) same.1 (stamped_by_right o))

  pub removed : (s : ResourceData) → IsGone e.nodes nodes_filled s → is_instance r.parent s ≡ true
  removed s gone = elim (cases_eq s.number c.number) [
    | inl is ↦
        let none : at stamped.number nodes_filled ≡ None = ap (λ (m : ℕ). at m nodes_filled) (sym is) ∙ gone.1 in
        let instance = filled_left.gone stamped stamped_there none in
        let ty : is_ty c.ty ContentInstance ≡ true = (kin_parts ContentInstance r.parent stamped instance).kind in
        absurd (both_ways _ (ap (λ (t : Ty). is_ty t Container) (instance_type c.ty ty)) (is_container e r c st sound filling))
    | inr other ↦ filled_left.gone s (at-replaced_other s.number stamped all other ∙ older_there e sound r filling.new s.number s gone.0) gone.1
  ]

  pub filled_by_right : (o : List ℕ) → is_granted e o (op_row Create).bit r.parent ≡ true → ChangesByRight Create e o r.parent [] after
  filled_by_right o right = record {
    created = λ s fresh. (created s fresh, right);
    changed = changed o;
    removed = λ s gone. inr (inl (removed s gone, right));
  }

-- ---- what joins

pub joins_by_right : (e : EntityData) (o : List ℕ) (r : ResourceData) (f : Option ContainerUpdate) → IsSoundEntity e → MayJoin e r f → is_granted e o (op_row Create).bit r.parent ≡ true → ChangesByRight Create e o r.parent [] (after_joining e r f)
joins_by_right e o r None sound may right = joined_by_right e sound r may.0 o right
joins_by_right e o r (Some f) sound may right =
    subst (ChangesByRight Create e o r.parent []) (filled_is e r f may) (filled_by_right e sound r may.parent f.state may.joins o right)

-- an instance joins those that it leaves
pub newest_filled : (e : EntityData) (r : ResourceData) (f : ContainerUpdate) → IsSoundEntity e → (may : MayJoinContainer e r f) → instances_of r.parent (with_new_instance e r f).nodes ≡ kept (limits_of may.parent) (Some (instance_size r)) e.last (instances_of r.parent e.nodes) ++ r ∷ []
newest_filled e r f sound may =
    ap (λ (x : EntityData). instances_of r.parent x.nodes) (sym (filled_is e r f may))
    ∙ instances_filled e sound r may.parent f.state may.joins

pub joins_sound : (e : EntityData) (r : ResourceData) (f : Option ContainerUpdate) → IsSoundEntity e → MayJoin e r f → IsSoundEntity (after_joining e r f)
joins_sound e r None sound may = sound_grown e r sound may.0 may.1
joins_sound e r (Some f) sound may = filling_sound e r f sound may

-- ---- the Create of a request

-- what a Create that no place refuses creates
pub record IsCreate (e : EntityData) (o : List ℕ) (request : RequestParts) (n : ℕ) : Type 0 where
  pub made : Creation
  pub entity : made.e ≡ e
  pub originator : made.originator ≡ o
  pub parent : made.parent.number ≡ n
  pub by : (t : ResourceData) (ty : Ty) → at n e.nodes ≡ Some t → child_ty request ≡ Some ty → made ≡ creation_by e o request t ty
  pub may : IsAllowed made
  pub right : is_granted made.e made.originator (op_row Create).bit made.parent.number ≡ true
  pub after : (effect_at Create e o request n).after ≡ (create_effect request made).after

module _ (e : EntityData) (o : List ℕ) (request : RequestParts) (n : ℕ) (none : fault_at Create e o request n ≡ None) where
  create_of : (t : ResourceData) → at n e.nodes ≡ Some t → fault_on Create e o request t ≡ None → (ty : Ty) → child_ty request ≡ Some ty → (es : List Entry) → content_for request ty ≡ Some es → IsCreate e o request n
  create_of t stands fault ty child es whole =
      let number : t.number ≡ n = at_number n e.nodes t stands in
      record {
        made = creation_of e o ty t es;
        entity = refl;
        originator = refl;
        parent = number;
        by = λ u kind found names.
            ap (λ (x : Option (List Entry)). creation_of e o ty t (unwrap_or x [])) (sym whole)
            ∙ ap (creation_by e o request t) (same_Some ty kind (sym child ∙ names))
            ∙ ap (λ (x : ResourceData). creation_by e o request x kind) (same_Some t u (sym stands ∙ found));
        may = allowed e o request t ty es fault (ap (λ (m : ℕ). at m e.nodes) number ∙ stands) child whole;
        right = creates_by e o request t.number (places_parts Create e o request t fault).right;
        after =
            ap (λ (x : Effect). x.after) (done_at Create e o request n t stands none)
            ∙ ap (λ (x : Option Ty). (option_map_or (λ (y : Ty). create_effect request (creation_by e o request t y)) x (refused e request BadChild)).after) child
            ∙ ap (λ (x : Option (List Entry)). (create_effect request (creation_of e o ty t (unwrap_or x []))).after) whole;
      }

  by_names : (t : ResourceData) → at n e.nodes ≡ Some t → fault_on Create e o request t ≡ None → (ty : Ty) → child_ty request ≡ Some ty → (x : Option (List Entry)) → content_for request ty ≡ x → IsCreate e o request n
  by_names t stands fault ty child None is = absurd (names_attributes e o request t ty fault child is)
  by_names t stands fault ty child (Some es) is = create_of t stands fault ty child es is

  by_type : (t : ResourceData) → at n e.nodes ≡ Some t → fault_on Create e o request t ≡ None → (x : Option Ty) → child_ty request ≡ x → IsCreate e o request n
  by_type t stands fault None is = absurd (names_type e o request t fault is)
  by_type t stands fault (Some ty) is = by_names t stands fault ty is (content_for request ty) refl

  pub is_create : IsCreate e o request n
  is_create =
      let found = found_at Create e o request n none in
      by_type found.0 found.1 (nothing_on Create e o request n found.0 found.1 none) (child_ty request) refl

-- its resource joins
module _ (e : EntityData) (o : List ℕ) (request : RequestParts) (n : ℕ) (sound : IsSoundEntity e) (originator : is_originator o ≡ true) (none : fault_at Create e o request n ≡ None) where
  pub create : IsCreate e o request n
  create = is_create e o request n none

  pub made_sound : IsSoundEntity create.made.e
  made_sound = subst IsSoundEntity (sym create.entity) sound

  pub joins : MayJoin create.made.e (new_resource create.made) (container_update_of create.made)
  joins = may_join create.made made_sound (ap is_originator create.originator ∙ originator) create.may

  pub after_is : (effect_at Create e o request n).after ≡ after_joining create.made.e (new_resource create.made) (container_update_of create.made)
  after_is = create.after

  pub create_by_right : ChangesByRight Create e o n [] (effect_at Create e o request n).after
  create_by_right =
      subst (ChangesByRight Create e o n []) (sym after_is)
      (subst (λ (x : EntityData). ChangesByRight Create x o n [] (after_joining create.made.e (new_resource create.made) (container_update_of create.made))) create.entity
      (subst (λ (x : List ℕ). ChangesByRight Create create.made.e x n [] (after_joining create.made.e (new_resource create.made) (container_update_of create.made))) create.originator
      (subst (λ (m : ℕ). ChangesByRight Create create.made.e create.made.originator m [] (after_joining create.made.e (new_resource create.made) (container_update_of create.made))) create.parent
      (joins_by_right create.made.e create.made.originator (new_resource create.made) (container_update_of create.made) made_sound joins create.right))))

  pub create_sound : IsSoundEntity (effect_at Create e o request n).after
  create_sound = subst IsSoundEntity (sym after_is) (joins_sound create.made.e (new_resource create.made) (container_update_of create.made) made_sound joins)
