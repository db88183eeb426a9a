-- What a Create, an Update, a Delete and an expiry do and tell is an operation by which copies
-- follow.
use Rattle.std.specs.Prelude.{nat_eq, ◌&&◌}
use Rattle.std.proofs.Common.{◌≡◌, ℕ, List, [], ◌∷◌, ◌++◌, Bool, true, false, not, Some, None, inl, inr, refl, sym, ap, ◌∙◌, subst}
use Rattle.std.proofs.lemmas.Bool.{cases_Bool, eqb-true}
use Rattle.std.proofs.lemmas.Option.{same_Some}
use Rattle.std.specs.List.{filter, list_all, list_any}
use Rattle.m2m_names.proofs.ListLemmas.{filter_same}
use Rattle.m2m_names.specs.declared.attributes.Attr.{Attr}
use Rattle.m2m_names.specs.declared.attributes.Attr.TheVariants.{Mid}
use Rattle.m2m_names.specs.declared.types.Ty.{Ty}
use Rattle.m2m_names.specs.declared.types.Ty.TheVariants.{ContentInstance}
use Rattle.resource_model.specs.Attributes.{is_attr}
use Rattle.resource_model.specs.Home.{HomeData}
use Rattle.resource_model.specs.Resource.{ResourceData, has_number, is_ty}
use Rattle.subscription_match.specs.Spending.{nodes_spent}
use Rattle.subscription_match.specs.declared.drafts.DraftParts.{DraftParts}
use Rattle.tree_model.specs.Changes.{those_of}
use Rattle.tree_model.specs.Tree.{at, has, instance_size, is_at_or_below, is_due, is_numbered_in, is_spared, is_well_formed, line_of, live, overdue_numbers, replaced, restamped, restamped_at, without, without_all}
use Rattle.tree_model.proofs.GrowthLemmas.{fits_parts, has-without, next_above_parent, next_fits, tree_from_well_formed}
use Rattle.tree_model.proofs.OrderLemmas.{placed_stands}
use Rattle.tree_model.proofs.StampLemmas.{restamped_is}
use Rattle.tree_model.proofs.StepLemmas.{not_not}
use Rattle.tree_model.proofs.TreeLemmas.{at_number, filter_among}
use Rattle.attribute_rules.specs.Kinds.{are_kinds}
use Rattle.container_limits.specs.Limits.{limits_of}
use Rattle.announce_copy.specs.Announced.{does_renew}
use Rattle.copy_laws.specs.Following.{IsOperation, Lead, changed, does_lead, made, nothing, taken_with, value_in_copy}
use Rattle.copy_laws.proofs.LeadLemmas.{joining_operates, replacing_operates}
use Rattle.copy_laws.proofs.OperationLemmas.{operation_stays}
use Rattle.copy_changes.specs.Quiet.{PushesOut}
use Rattle.copy_changes.proofs.PushingLemmas.{told_change}
use Rattle.copy_changes.proofs.RemovingLemmas.{told_removal}
use Rattle.copy_changes.proofs.SpendingLemmas.{spending_quiet}
use Rattle.copy_changes.proofs.StampingLemmas.{restamping_quiet}
use Rattle.entity_model.specs.Entity.{EntityData}
use Rattle.entity_model.specs.Sound.{IsSoundEntity}
use Rattle.entity_model.proofs.ExpiryLemmas.{those_all}
use Rattle.entity_model.proofs.SoundLemmas.{IsFramed, framed_from}
use Rattle.request_rules.specs.Creation.{Creation, new_resource, new_size, next_state}
use Rattle.create_delete.specs.Changing.{container_update_of, nodes_joined, nodes_updated, pushed_by, pushed_out}
use Rattle.create_delete.specs.Joining.{MayJoin, MayJoinContainer, gone_by}
use Rattle.create_delete.specs.NewResource.{IsNewInstance, IsNewResource, IsReplacement}
use Rattle.create_delete.proofs.GrownLemmas.{framed_grown, grown_by}
use Rattle.create_delete.proofs.InstanceLemmas.{grown_tree, pruning, there as container_grown}
use Rattle.create_delete.proofs.PushingLemmas.{by_pushing}
use Rattle.create_delete.proofs.ReplacedLemmas.{framed_replaced, replaced_by}
use Rattle.create_delete.proofs.RightCreateLemmas.{lacks, last_there, older_there}
use Rattle.copy_histories.proofs.KeptLemmas.{are_kept, framed_kept}
use Rattle.copy_histories.proofs.PlacedLemmas.{IsInstanceAt, evicted_stood, itself, same_type_there, still_stands}

-- ---- what is spent behind an operation

spent_behind : (home : HomeData) (before middle : List ResourceData) (lead : Lead) (gone : List ResourceData) (drafts : List DraftParts) → is_well_formed middle ≡ true → list_all are_kinds middle ≡ true → IsOperation home before lead gone middle → IsOperation home before lead gone (nodes_spent drafts middle)
spent_behind home before middle lead gone drafts formed kinds op =
    operation_stays home before middle (nodes_spent drafts middle) (spending_quiet drafts middle formed kinds home op.left) lead gone op

-- ---- a new resource

module _ (e : EntityData) (sound : IsSoundEntity e) (r : ResourceData) (new : IsNewResource e r) where
  abbrev grown : List ResourceData
  grown = e.nodes ++ r ∷ []

  frame : IsFramed (grown_by e r)
  frame = framed_grown e r (framed_from e sound) new

  pub joins : IsOperation e.home e.nodes (made r) [] grown
  joins =
      joining_operates e.home e.nodes r sound.tree (lacks e sound r new)
      (next_above_parent e.nodes r (next_fits e.nodes r (fits_parts e.nodes r new.fits).stands))
      (framed_kept (grown_by e r) frame r (last_there e sound r new)) (are_kept e sound)

  pub plain_operates : (drafts : List DraftParts) → IsOperation e.home e.nodes (made r) [] (nodes_spent drafts grown)
  plain_operates drafts = spent_behind e.home e.nodes grown (made r) [] drafts frame.tree frame.kinds joins

-- ---- an instance

module _ (e : EntityData) (sound : IsSoundEntity e) (r c : ResourceData) (st : ℕ) (filling : IsNewInstance e r c st) (n : ℕ) (above : n ≡ r.parent) (gone : List ℕ) (out : gone ≡ pushed_out e c (Some (instance_size r))) where
  abbrev all : List ResourceData
  all = e.nodes ++ r ∷ []

  abbrev stamped : ResourceData
  stamped = restamped e.last st c

  abbrev turned : List ResourceData
  turned = restamped_at n e.last st all

  in_container : at r.parent all ≡ Some c
  in_container = container_grown e r c st sound filling

  named : c.number ≡ r.parent
  named = at_number r.parent all c in_container

  turned_is : turned ≡ replaced stamped all
  turned_is =
      ap (λ (m : ℕ). restamped_at m e.last st all) above
      ∙ restamped_is all r.parent e.last st c (grown_tree e r c st sound filling) in_container

  -- it is a tree of kept resources
  placed_frame : IsFramed (replaced_by (grown_by e r) stamped)
  placed_frame = (pruning e r c st sound filling).sound.frame

  formed : is_well_formed turned ≡ true
  formed = ap is_well_formed turned_is ∙ placed_frame.tree

  kinds : list_all are_kinds turned ≡ true
  kinds = ap (list_all are_kinds) turned_is ∙ placed_frame.kinds

  -- the container stood there, so did each other
  container_there : at stamped.number all ≡ Some c
  container_there = ap (λ (m : ℕ). at m all) named ∙ in_container

  at_turned : (m : ℕ) → at m turned ≡ at m (replaced stamped all)
  at_turned m = ap (at m) turned_is

  stays_there : (m : ℕ) (s : ResourceData) → at m all ≡ Some s → (t : ResourceData) × (at m turned ≡ Some t)
  stays_there m s found =
      let left = still_stands stamped c all container_there m s found in
      (left.0, at_turned m ∙ left.1)

  -- who is pushed out is an instance that stood
  out_stood : (m : ℕ) → list_any (nat_eq m) gone ≡ true → IsInstanceAt m e.nodes
  out_stood m any =
      evicted_stood (limits_of c) (Some (instance_size r)) e.last c.number m e.nodes (tree_from_well_formed e.nodes sound.tree)
      (sym (ap (list_any (nat_eq m)) out) ∙ any)

  pushes : PushesOut e.nodes turned (made r) gone
  pushes = record {
    stays = λ s found. stays_there s.number s (older_there e sound r filling.new s.number s found);
    instances = λ s found any.
        let was = out_stood s.number any in
        let grew : at s.number all ≡ Some was.instance = older_there e sound r filling.new s.number was.instance was.there in
        let same : s.ty ≡ was.instance.ty = same_type_there stamped c all container_there refl s.number was.instance s grew (sym (at_turned s.number) ∙ found) in
        ap (λ (t : Ty). is_ty t ContentInstance) same ∙ was.is;
    others = λ s found leads. not_new s leads (is_numbered_in gone s) refl;
    there = λ m leads none.
        let number : r.number ≡ m = eqb-true r.number m leads in
        let left = stays_there r.number r (last_there e sound r filling.new) in
        let bad : Some left.0 ≡ None = sym left.1 ∙ ap (λ (k : ℕ). at k turned) number ∙ none in
        cc;
  }
    where
      not_new : (s : ResourceData) → does_lead (made r) s.number ≡ true → (b : Bool) → is_numbered_in gone s ≡ b → b ≡ false
      not_new s leads false is = refl
      not_new s leads true is =
          let was = out_stood s.number is in
          let number : r.number ≡ s.number = eqb-true r.number s.number leads in
          let bad : None ≡ Some was.instance = sym (lacks e sound r filling.new) ∙ ap (λ (m : ℕ). at m e.nodes) number ∙ was.there in
          cc

  stamps : IsOperation e.home e.nodes (made r) [] turned
  stamps =
      let op = joins e sound r filling.new in
      operation_stays e.home e.nodes all turned (restamping_quiet e.home n e.last st all op.left) (made r) [] op

  pub instance_operates : (drafts : List DraftParts) → IsOperation e.home e.nodes (made r) (those_of gone e.nodes) (nodes_spent drafts (without_all gone turned))
  instance_operates drafts = told_change e.home drafts e.nodes turned (made r) gone formed kinds stamps pushes

-- ---- what joins

pub joining_told : (c : Creation) (drafts : List DraftParts) → IsSoundEntity c.e → MayJoin c.e (new_resource c) (container_update_of c) → IsOperation c.e.home c.e.nodes (made (new_resource c)) (those_of (gone_by (container_update_of c)) c.e.nodes) (nodes_spent drafts (nodes_joined c.e.last c.e.nodes (new_resource c) (container_update_of c)))
joining_told c drafts sound may = elim (cases_Bool (is_ty c.ty ContentInstance)) [
  | inl t ↦
      let fills : MayJoinContainer c.e (new_resource c) (record { container = c.parent.number; state = next_state c.parent; gone = pushed_out c.e c.parent (Some (new_size c)) }) = rw t at may in
      rw t (instance_operates c.e sound (new_resource c) fills.parent (next_state c.parent) fills.joins c.parent.number fills.container (pushed_out c.e c.parent (Some (new_size c))) fills.gone drafts)
  | inr none ↦
      let joins : IsNewResource c.e (new_resource c) × (is_ty c.ty ContentInstance ≡ false) = rw none at may in
      rw none (plain_operates c.e sound (new_resource c) joins.0 drafts)
]

-- ---- one in the place of another

module _ (e : EntityData) (sound : IsSoundEntity e) (old now : ResourceData) (new : IsReplacement e now) (stood : at now.number e.nodes ≡ Some old) where
  abbrev placed : List ResourceData
  placed = replaced now e.nodes

  placing : IsFramed (replaced_by e now)
  placing = framed_replaced e now (framed_from e sound) new

  number : old.number ≡ now.number
  number = at_number now.number e.nodes old stood

  old_there : at old.number e.nodes ≡ Some old
  old_there = ap (λ (n : ℕ). at n e.nodes) number ∙ stood

  pushed_stood : (n : ℕ) → list_any (nat_eq n) (pushed_by e now) ≡ true → IsInstanceAt n e.nodes
  pushed_stood n =
      by_pushing (λ (gone : List ℕ). list_any (nat_eq n) gone ≡ true → IsInstanceAt n e.nodes) e now
      (λ t any. evicted_stood (limits_of now) None e.last now.number n e.nodes (tree_from_well_formed e.nodes sound.tree) any)
      (λ f any. (let bad : false ≡ true = any in cc))

  pushing : (named : List Attr) → old.ty ≡ now.ty → PushesOut e.nodes placed (changed old now named) (pushed_by e now)
  pushing named ty = record {
    stays = λ s found. still_stands now old e.nodes stood s.number s found;
    instances = λ s found out.
        let was = pushed_stood s.number out in
        let same : s.ty ≡ was.instance.ty = same_type_there now old e.nodes stood (sym ty) s.number was.instance s was.there found in
        ap (λ (t : Ty). is_ty t ContentInstance) same ∙ was.is;
    others = λ s found leads. not_it s leads (is_numbered_in (pushed_by e now) s) refl;
    there = λ n leads none.
        let same : old.number ≡ n = eqb-true old.number n leads in
        let bad : Some now ≡ None = sym (itself now old e.nodes stood) ∙ ap (λ (m : ℕ). at m placed) (sym number ∙ same) ∙ none in
        cc;
  }
    where
      not_it : (s : ResourceData) → does_lead (changed old now named) s.number ≡ true → (b : Bool) → is_numbered_in (pushed_by e now) s ≡ b → b ≡ false
      not_it s leads false is = refl
      not_it s leads true is =
          let was = pushed_stood s.number is in
          let same : old.number ≡ s.number = eqb-true old.number s.number leads in
          let one : old ≡ was.instance = same_Some old was.instance (sym old_there ∙ ap (λ (m : ℕ). at m e.nodes) same ∙ was.there) in
          let bad : true ≡ false =
          sym was.is ∙ sym (ap (λ (x : ResourceData). is_ty x.ty ContentInstance) one) ∙ ap (λ (t : Ty). is_ty t ContentInstance) ty ∙ new.plain in
          cc

  pub updating_told : (named : List Attr) (drafts : List DraftParts) → old.ty ≡ now.ty → old.parent ≡ now.parent → (does_renew named now ≡ false → (attr : Attr) → is_attr attr Mid ≡ false → value_in_copy e.home old attr ≡ value_in_copy e.home now attr) → IsOperation e.home e.nodes (changed old now named) (those_of (pushed_by e now) e.nodes) (nodes_spent drafts (nodes_updated e now))
  updating_told named drafts ty parent unnamed =
      told_change e.home drafts e.nodes placed (changed old now named) (pushed_by e now) placing.tree placing.kinds
      (replacing_operates e.home e.nodes old now named sound.tree old_there number ty parent new.plain unnamed
      (framed_kept (replaced_by e now) placing now (itself now old e.nodes stood)) (are_kept e sound))
      (pushing named ty)

-- ---- removals

pub deleting_told : (e : EntityData) (n : ℕ) (drafts : List DraftParts) → IsSoundEntity e → IsOperation e.home e.nodes nothing (filter (is_at_or_below n e.nodes) e.nodes) (nodes_spent drafts (without (has_number n) e.nodes))
deleting_told e n drafts sound =
    subst (λ (gone : List ResourceData). IsOperation e.home e.nodes nothing gone (nodes_spent drafts (without (has_number n) e.nodes)))
    (filter_same (λ (r : ResourceData). not (is_spared (has_number n) e.nodes r.number)) (is_at_or_below n e.nodes)
    (λ r. not_not (list_any (has_number n) (line_of r.number e.nodes))) e.nodes)
    (told_removal e.home (has_number n) drafts e.nodes sound.tree sound.kinds (are_kept e sound))

pub expiring_told : (moment : ℕ) (e : EntityData) (drafts : List DraftParts) → IsSoundEntity e → IsOperation e.home e.nodes nothing (those_of (overdue_numbers moment e.nodes) e.nodes) (nodes_spent drafts (live moment e.nodes))
expiring_told moment e drafts sound =
    let tree = tree_from_well_formed e.nodes sound.tree in
    let picks : ResourceData → Bool = is_due e.nodes moment in
    let gone : ResourceData → Bool = λ r. not (has r.number (live moment e.nodes)) in
    let same : filter gone e.nodes ≡ taken_with picks e.nodes =
    filter_among gone (λ r. not (is_spared picks e.nodes r.number)) e.nodes (λ r there. ap not (has-without picks r.number e.nodes tree ∙ ap (λ (b : Bool). b && is_spared picks e.nodes r.number) there)) in
    let those : those_of (overdue_numbers moment e.nodes) e.nodes ≡ filter gone e.nodes =
    those_all e.nodes (filter gone e.nodes) (λ k s got. placed_stands gone e.nodes k s tree got) in
    subst (λ (rs : List ResourceData). IsOperation e.home e.nodes nothing rs (nodes_spent drafts (live moment e.nodes))) (sym (those ∙ same))
    (told_removal e.home picks drafts e.nodes sound.tree sound.kinds (are_kept e sound))
