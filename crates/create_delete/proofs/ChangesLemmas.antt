-- The changes that come of an operation are those that it prepares.
use Rattle.std.specs.Prelude.{nat_eq}
use Rattle.std.proofs.Common.{◌≡◌, ℕ, ◌+◌, List, [], ◌∷◌, ◌++◌, map, Bool, true, false, not, ◌&&◌, cond, Option, Some, None, inl, inr, refl, sym, ap, ◌∙◌}
use Rattle.std.proofs.lemmas.Bool.{cases_eq, both_ways}
use Rattle.std.proofs.lemmas.List.Elements.{filter-append}
use Rattle.std.specs.List.{filter, list_any}
use Rattle.std.specs.Option.{option_map_or}
use Rattle.m2m_names.specs.declared.codes.Rsc.{Rsc}
use Rattle.m2m_names.specs.declared.codes.Rsc.TheVariants.{NotFound}
use Rattle.m2m_names.specs.declared.operations.Op.{Op}
use Rattle.m2m_names.specs.declared.operations.Op.TheVariants.{Create, Update, Delete}
use Rattle.m2m_names.specs.declared.types.Ty.TheVariants.{ContentInstance}
use Rattle.primitive_json.specs.declared.request.RequestParts.{RequestParts}
use Rattle.resource_model.specs.Resource.{ResourceData, has_number}
use Rattle.tree_model.specs.Tree.{at, has, instances_of, instance_size, is_at_or_below, is_spared, is_tree, line_of, numbers_of, replaced, restamped, without}
use Rattle.tree_model.proofs.ChangeLemmas.{unpicked-replaced}
use Rattle.tree_model.proofs.GrowthLemmas.{has-without, tree_from_well_formed}
use Rattle.tree_model.proofs.TreeLemmas.{at_has, at_number, at-replaced_other, has_from_at, filter_among, kin_parts}
use Rattle.container_limits.specs.Limits.{evicted, limits_of}
use Rattle.tree_model.proofs.StepLemmas.{not_not}
use Rattle.entity_model.specs.Entity.{EntityData}
use Rattle.entity_model.specs.Places.{Effect}
use Rattle.entity_model.specs.Sound.{IsSoundEntity}
use Rattle.request_rules.specs.Order.{fault_at, fault_on}
use Rattle.create_delete.specs.Changes.{changes_at, changes_by, created, creation_changes, deleted, deletion_changes, named_attrs, only_in, update_changes, update_made, updated}
use Rattle.create_delete.specs.Changing.{after_joining, is_numbered_in, nodes_updated, effect_at, pushed_by, with_new_resource, without_all}
use Rattle.create_delete.specs.Joining.{gone_by, MayJoin}
use Rattle.create_delete.specs.NewResource.{IsNewInstance, IsNewResource, IsReplacement}
use Rattle.create_delete.specs.Telling.{gone_numbers, numbers_below}
use Rattle.create_delete.specs.declared.joining.ContainerUpdate.{ContainerUpdate}
use Rattle.create_delete.proofs.GrownLemmas.{grown_by, picked_never}
use Rattle.create_delete.proofs.InstanceLemmas.{limits_restamped, pruning as filling_pruning}
use Rattle.create_delete.proofs.JoiningLemmas.{filled_is, pushes_named}
use Rattle.create_delete.proofs.LeftLemmas.{all_but_out, filter_found, has_left}
use Rattle.create_delete.proofs.EffectLemmas.{done_at}
use Rattle.create_delete.proofs.PushingLemmas.{by_pushing, nothing_removed}
use Rattle.create_delete.proofs.ReplacedLemmas.{replaced_by}
use Rattle.create_delete.proofs.RightCreateLemmas.{container_there, lacks, nodes_filled, not_out, older_there, same_filled, stamped_there}
use Rattle.create_delete.proofs.RightUpdateLemmas.{now_there, turned_tree, updated_in, updated_left}
use Rattle.create_delete.proofs.ThoseLemmas.{numbers_evicted, numbers_pushed, those_evicted, those_pushed}
use Rattle.create_delete.proofs.UpdatedLemmas.{pruning}
use Rattle.tree_model.proofs.RowLemmas.{filter_swap}

-- ---- what is gone

-- a number is picked whatever has it
numbered_alike : (out : List ℕ) (x r : ResourceData) → x.number ≡ r.number → is_numbered_in out x ≡ is_numbered_in out r
numbered_alike out x r same = ap (λ (m : ℕ). list_any (nat_eq m) out) same

pub gone_are : (picks : ResourceData → Bool) (nodes left : List ResourceData) → is_tree nodes ≡ true → ((r : ResourceData) → at r.number nodes ≡ Some r → has r.number left ≡ not (picks r)) → only_in nodes left ≡ filter picks nodes
gone_are picks nodes left tree each = filter_found (λ r. not (has r.number left)) picks nodes tree (λ r found. ap not (each r found) ∙ not_not (picks r))

pub nothing_apart : (nodes : List ResourceData) → only_in nodes nodes ≡ []
nothing_apart nodes = filter_among (λ s. not (has s.number nodes)) (λ s. false) nodes (λ s there. ap not there) ∙ picked_never nodes

-- ---- a Delete

pub only_below : (n : ℕ) (nodes : List ResourceData) → is_tree nodes ≡ true → only_in nodes (without (has_number n) nodes) ≡ filter (is_at_or_below n nodes) nodes
only_below n nodes tree =
    gone_are (λ r. list_any (has_number n) (line_of r.number nodes)) nodes (without (has_number n) nodes) tree (λ r found.
    has-without (has_number n) r.number nodes tree
    ∙ ap (λ (b : Bool). b && is_spared (has_number n) nodes r.number) (at_has r.number nodes r found))

pub delete_changes : (e : EntityData) (request : RequestParts) (n : ℕ) → IsSoundEntity e → changes_by Delete request n e (record { home = e.home; nodes = without (has_number n) e.nodes; next = e.next; last = e.last; items = e.items; numbered = e.numbered }) ≡ deletion_changes e.nodes n
delete_changes e request n sound = ap (map deleted) (only_below n e.nodes (tree_from_well_formed e.nodes sound.tree))

pub delete_gone : (e : EntityData) (n : ℕ) → IsSoundEntity e → gone_numbers e (record e { nodes = without (has_number n) e.nodes }) ≡ numbers_below n e.nodes
delete_gone e n sound = ap numbers_of (only_below n e.nodes (tree_from_well_formed e.nodes sound.tree))

-- ---- an Update

module _ (e : EntityData) (sound : IsSoundEntity e) (c : ResourceData) (new : IsReplacement e c) where
  abbrev turned : List ResourceData
  turned = replaced c e.nodes

  turned_left : (s : ResourceData) → at s.number turned ≡ Some s → has s.number (nodes_updated e c) ≡ not (is_numbered_in (pushed_by e c) s)
  turned_left s found =
      by_pushing (λ (gone : List ℕ). has s.number (without_all gone turned) ≡ not (is_numbered_in gone s)) e c
      (λ t. has_left c.number (replaced_by e c) c None (instances_of c.number e.nodes) [] (pruning e c sound new) s found)
      (λ f. ap (has s.number) (nothing_removed turned (turned_tree e sound c new)) ∙ at_has s.number turned s found)

  each_left : (r : ResourceData) → at r.number e.nodes ≡ Some r → has r.number (nodes_updated e c) ≡ not (is_numbered_in (pushed_by e c) r)
  each_left r found = elim (cases_eq r.number c.number) [
    | inl same ↦
        ap (λ (m : ℕ). has m (nodes_updated e c)) same ∙ turned_left c (now_there e sound c new)
        ∙ ap not (numbered_alike (pushed_by e c) c r (sym same))
    | inr apart ↦ turned_left r (at-replaced_other r.number c e.nodes apart ∙ found)
  ]

  -- it isn't pushed out itself
  pub c_left : at c.number (nodes_updated e c) ≡ Some c
  c_left = by_left (at c.number (nodes_updated e c)) refl
    where
      by_left : (x : Option ResourceData) → at c.number (nodes_updated e c) ≡ x → x ≡ Some c
      by_left None is = absurd (both_ways _ new.plain (kin_parts ContentInstance c.number c ((updated_left e sound c new).gone c (now_there e sound c new) is)).kind)
      by_left (Some s) is = sym ((updated_left e sound c new).stood c.number s is) ∙ now_there e sound c new

  gone_left : only_in e.nodes (nodes_updated e c) ≡ filter (is_numbered_in (pushed_by e c)) e.nodes
  gone_left = gone_are (is_numbered_in (pushed_by e c)) e.nodes (nodes_updated e c) (tree_from_well_formed e.nodes sound.tree) each_left

  pub updating_gone : gone_numbers e (updated_in e c) ≡ pushed_by e c
  updating_gone = ap numbers_of gone_left ∙ numbers_pushed e c (tree_from_well_formed e.nodes sound.tree)

  pub updating_changes : (request : RequestParts) (old : ResourceData) → at c.number e.nodes ≡ Some old → changes_by Update request c.number e (updated_in e c) ≡ update_changes e.nodes old c (named_attrs request old) (pushed_by e c)
  updating_changes request old found =
      ap (λ (x : Option ResourceData). update_made request x (at c.number (nodes_updated e c)) ++ map deleted (only_in e.nodes (nodes_updated e c))) found
      ∙ ap (λ (x : Option ResourceData). update_made request (Some old) x ++ map deleted (only_in e.nodes (nodes_updated e c))) c_left
      ∙ ap (λ (rs : List ResourceData). updated old c (named_attrs request old) ∷ map deleted rs)
      (gone_left
      ∙ sym (those_pushed e c (tree_from_well_formed e.nodes sound.tree)))

-- ---- a Create

-- what comes last is what is new
pub only_last : (e : EntityData) (r : ResourceData) → IsSoundEntity e → IsNewResource e r → only_in (e.nodes ++ r ∷ []) e.nodes ≡ r ∷ []
only_last e r sound new =
    filter-append (λ s. not (has s.number e.nodes)) e.nodes (r ∷ [])
    ∙ ap (λ (rs : List ResourceData). rs ++ filter (λ s. not (has s.number e.nodes)) (r ∷ [])) (nothing_apart e.nodes)
    ∙ ap (λ (b : Bool). cond (not b) (r ∷ []) []) (has_from_at r.number e.nodes (lacks e sound r new))

-- what isn't an instance takes nothing
none_gone : (e : EntityData) (r : ResourceData) → IsSoundEntity e → IsNewResource e r → only_in e.nodes (e.nodes ++ r ∷ []) ≡ []
none_gone e r sound new =
    gone_are (λ s. false) e.nodes (e.nodes ++ r ∷ []) (tree_from_well_formed e.nodes sound.tree) (λ s found. at_has s.number (e.nodes ++ r ∷ []) s (older_there e sound r new s.number s found))
    ∙ picked_never e.nodes

join_changes : (e : EntityData) (r : ResourceData) (request : RequestParts) (n : ℕ) → IsSoundEntity e → IsNewResource e r → changes_by Create request n e (with_new_resource e r) ≡ created r ∷ []
join_changes e r request n sound new =
    ap (λ (rs : List ResourceData). map created rs ++ map deleted (only_in e.nodes (e.nodes ++ r ∷ []))) (only_last e r sound new)
    ∙ ap (λ (rs : List ResourceData). created r ∷ map deleted rs) (none_gone e r sound new)

module _ (e : EntityData) (sound : IsSoundEntity e) (r c : ResourceData) (st : ℕ) (filling : IsNewInstance e r c st) where
  abbrev all : List ResourceData
  all = e.nodes ++ r ∷ []

  abbrev stamped : ResourceData
  stamped = restamped e.last st c

  abbrev with_stamped : List ResourceData
  with_stamped = replaced stamped all

  abbrev before : List ResourceData
  before = instances_of r.parent e.nodes

  abbrev out_stamped : List ℕ
  out_stamped = evicted (limits_of stamped) (Some (instance_size r)) e.last before

  abbrev out : List ℕ
  out = evicted (limits_of c) (Some (instance_size r)) e.last before

  abbrev left : List ResourceData
  left = nodes_filled e sound r c st filling

  outs : out_stamped ≡ out
  outs = ap (λ l. evicted l (Some (instance_size r)) e.last before) (limits_restamped e.last st c)

  stamped_has : (s : ResourceData) → at s.number with_stamped ≡ Some s → has s.number left ≡ not (is_numbered_in out s)
  stamped_has s found =
      ap (has s.number) (sym (same_filled e sound r c st filling))
      ∙ has_left r.parent (replaced_by (grown_by e r) stamped) stamped (Some (instance_size r)) before (r ∷ []) (filling_pruning e r c st sound filling) s found
      ∙ ap (λ (gone : List ℕ). not (is_numbered_in gone s)) outs

  each_has : (s : ResourceData) → at s.number e.nodes ≡ Some s → has s.number left ≡ not (is_numbered_in out s)
  each_has s found = elim (cases_eq s.number c.number) [
    | inl is ↦
        ap (λ (m : ℕ). has m left) is ∙ stamped_has stamped (stamped_there e sound r c st filling)
        ∙ ap not (numbered_alike out stamped s (sym is))
    | inr other ↦ stamped_has s (at-replaced_other s.number stamped all other ∙ older_there e sound r filling.new s.number s found)
  ]

  -- only the new one is new
  stays_known : filter (λ s. not (has s.number e.nodes)) with_stamped ≡ filter (λ s. not (has s.number e.nodes)) all
  stays_known = unpicked-replaced (λ s. not (has s.number e.nodes)) stamped all
      (λ s found. ap (λ (m : ℕ). not (has m e.nodes)) (at_number stamped.number all s found))
      (ap not (at_has c.number e.nodes c (container_there e sound r c st filling)))

  pub fresh : only_in left e.nodes ≡ r ∷ []
  fresh =
      ap (λ (rs : List ResourceData). only_in rs e.nodes) (sym (same_filled e sound r c st filling) ∙ all_but_out r.parent (replaced_by (grown_by e r) stamped) stamped (Some (instance_size r)) before (r ∷ []) (filling_pruning e r c st sound filling))
      ∙ filter_swap (λ s. not (has s.number e.nodes)) (λ s. not (is_numbered_in out_stamped s)) with_stamped
      ∙ ap (filter (λ s. not (is_numbered_in out_stamped s))) (stays_known ∙ only_last e r sound filling.new)
      ∙ ap (λ (b : Bool). cond (not b) (r ∷ []) []) (not_out e sound r c st filling)

  gone_filled : only_in e.nodes left ≡ filter (is_numbered_in out) e.nodes
  gone_filled = gone_are (is_numbered_in out) e.nodes left (tree_from_well_formed e.nodes sound.tree) each_has

  pub fill_gone : numbers_of (only_in e.nodes left) ≡ out
  fill_gone = ap numbers_of gone_filled ∙ numbers_evicted (limits_of c) (Some (instance_size r)) e.last r.parent e.nodes (tree_from_well_formed e.nodes sound.tree)

  fill_changes : (request : RequestParts) (n : ℕ) → changes_by Create request n e (record { home = e.home; nodes = left; next = e.next + 1; last = e.last; items = e.items; numbered = e.numbered }) ≡ creation_changes e.nodes r out
  fill_changes request n =
      ap (λ (rs : List ResourceData). map created rs ++ map deleted (only_in e.nodes left)) fresh
      ∙ ap (λ (rs : List ResourceData). created r ∷ map deleted rs)
      (gone_filled
      ∙ sym (those_evicted (limits_of c) (Some (instance_size r)) e.last r.parent e.nodes (tree_from_well_formed e.nodes sound.tree)))

pub join_makes_changes : (e : EntityData) (r : ResourceData) (f : Option ContainerUpdate) (request : RequestParts) (n : ℕ) → IsSoundEntity e → MayJoin e r f → changes_by Create request n e (after_joining e r f) ≡ creation_changes e.nodes r (gone_by f)
join_makes_changes e r None request n sound may = join_changes e r request n sound may.0
join_makes_changes e r (Some f) request n sound may =
    ap (changes_by Create request n e) (sym (filled_is e r f may))
    ∙ fill_changes e sound r may.parent f.state may.joins request n
    ∙ ap (creation_changes e.nodes r) (pushes_named e r may.parent f.state may.joins ∙ sym may.gone)

pub join_gone : (e : EntityData) (r : ResourceData) (f : Option ContainerUpdate) → IsSoundEntity e → MayJoin e r f → gone_numbers e (after_joining e r f) ≡ gone_by f
join_gone e r None sound may = ap numbers_of (none_gone e r sound may.0)
join_gone e r (Some f) sound may =
    ap (gone_numbers e) (sym (filled_is e r f may))
    ∙ fill_gone e sound r may.parent f.state may.joins
    ∙ pushes_named e r may.parent f.state may.joins ∙ sym may.gone

-- ---- what an operation prepares

-- those of an operation that no place refuses
made : (op : Op) (e : EntityData) (o : List ℕ) (request : RequestParts) (n : ℕ) → fault_at op e o request n ≡ None → changes_at op e o request n ≡ changes_by op request n e (effect_at op e o request n).after
made op e o request n allowed = ap (λ (x : Option Rsc). option_map_or (λ fault. []) x (changes_by op request n e (effect_at op e o request n).after)) allowed

pub created_are : (e : EntityData) (o : List ℕ) (request : RequestParts) (n : ℕ) (r : ResourceData) (f : Option ContainerUpdate) → IsSoundEntity e → fault_at Create e o request n ≡ None → MayJoin e r f → after_joining e r f ≡ (effect_at Create e o request n).after → creation_changes e.nodes r (gone_by f) ≡ changes_at Create e o request n
created_are e o request n r f sound allowed may after =
    sym (join_makes_changes e r f request n sound may) ∙ ap (changes_by Create request n e) after
    ∙ sym (made Create e o request n allowed)

pub updated_are : (e : EntityData) (o : List ℕ) (request : RequestParts) (n : ℕ) (r s : ResourceData) (gone : List ℕ) → IsSoundEntity e → fault_at Update e o request n ≡ None → at n e.nodes ≡ Some r → s.number ≡ n → IsReplacement e s → gone ≡ pushed_by e s → record e { nodes = nodes_updated e s } ≡ (effect_at Update e o request n).after → update_changes e.nodes r s (named_attrs request r) gone ≡ changes_at Update e o request n
updated_are e o request n r s gone sound allowed found same new out after =
    ap (update_changes e.nodes r s (named_attrs request r)) out
    ∙ sym (updating_changes e sound s new request r (ap (λ (m : ℕ). at m e.nodes) same ∙ found))
    ∙ ap (λ (m : ℕ). changes_by Update request m e (record e { nodes = nodes_updated e s })) same
    ∙ ap (changes_by Update request n e) after
    ∙ sym (made Update e o request n allowed)

pub deleted_are : (e : EntityData) (o : List ℕ) (request : RequestParts) (n : ℕ) → IsSoundEntity e → fault_at Delete e o request n ≡ None → changes_at Delete e o request n ≡ deletion_changes e.nodes n
deleted_are e o request n sound allowed = by_target (at n e.nodes) refl
  where
    by_target : (x : Option ResourceData) → at n e.nodes ≡ x → changes_at Delete e o request n ≡ deletion_changes e.nodes n
    by_target None is = (let told : Some NotFound ≡ None = sym (ap (λ (x : Option ResourceData). option_map_or (fault_on Delete e o request) x (Some NotFound)) is) ∙ allowed in cc)
    by_target (Some r) is =
        made Delete e o request n allowed
        ∙ ap (λ (x : Effect). changes_by Delete request n e x.after) (done_at Delete e o request n r is allowed)
        ∙ ap (λ (m : ℕ). changes_by Delete request n e (record e { nodes = without (has_number m) e.nodes })) (at_number n e.nodes r is)
        ∙ delete_changes e request n sound
