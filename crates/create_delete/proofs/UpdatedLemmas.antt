-- Soundness where a resource is updated.
use Rattle.std.proofs.Common.{◌≡◌, ℕ, List, [], true, false, not, ◌||◌, Option, Some, None, refl, sym, ap, ◌∙◌, subst, arith}
use Rattle.std.proofs.lemmas.Bool.{and_from, or_left, or_right, both_ways, not_from_false, eqb-true, false_from_ne_true}
use Rattle.std.proofs.lemmas.List.{append-nil}
use Rattle.std.proofs.lemmas.Option.{same_Some}
use Rattle.std.specs.Option.{option_map_or}
use Rattle.m2m_names.specs.Types.{does_take}
use Rattle.m2m_names.specs.declared.attributes.Attr.TheVariants.{Mbs, Mni}
use Rattle.m2m_names.specs.declared.types.Ty.TheVariants.{Container, ContentInstance}
use Rattle.resource_model.specs.Attributes.{count_at}
use Rattle.resource_model.specs.Resource.{ResourceData, is_ty}
use Rattle.tree_model.specs.Tree.{at, replaced, is_instance, instances_of, is_due, is_taken, is_tree}
use Rattle.tree_model.proofs.GrowthLemmas.{tree_from_well_formed}
use Rattle.tree_model.proofs.QuietLemmas.{all_by_number, number_passes}
use Rattle.tree_model.proofs.TreeLemmas.{at-replaced, kin_parts}
use Rattle.container_limits.specs.Limits.{limits_of}
use Rattle.container_limits.proofs.LimitLemmas.{fits_totals}
use Rattle.tree_model.proofs.OrderLemmas.{ascend_filter, tree_ascends}
use Rattle.entity_model.specs.Entity.{EntityData}
use Rattle.entity_model.specs.Sound.{IsSoundEntity}
use Rattle.entity_model.proofs.SoundLemmas.{framed_from}
use Rattle.create_delete.specs.Changing.{nodes_updated, pushed_by, without_all}
use Rattle.create_delete.specs.NewResource.{IsReplacement}
use Rattle.create_delete.proofs.GrownLemmas.{is_within_but, nothing_within, within_by}
use Rattle.create_delete.proofs.InstanceLemmas.{instance_type, takes_is_container}
use Rattle.create_delete.proofs.PrunedLemmas.{IsPruning, IsSoundBut, restored, sound_pruned}
use Rattle.create_delete.proofs.PushingLemmas.{by_pushing, nothing_removed}
use Rattle.create_delete.proofs.ReplacedLemmas.{framed_replaced, instances_replaced, quiet_but_replaced, replaced_by, still_there, within_but_replaced}
use Rattle.m2m_names.proofs.ListLemmas.{all_weaker}
use Rattle.tree_model.proofs.TakenLemmas.{all_taken}

-- ---- an update

module _ (e : EntityData) (c : ResourceData) (sound : IsSoundEntity e) (new : IsReplacement e c) where
  abbrev n : ℕ
  n = c.number

  abbrev now : List ResourceData
  now = replaced c e.nodes

  tree : is_tree e.nodes ≡ true
  tree = tree_from_well_formed e.nodes sound.tree

  there : at n now ≡ Some c
  there = at-replaced c e.nodes (still_there e.nodes c new.stood)

  but : IsSoundBut n (replaced_by e c)
  but = record {
    frame = framed_replaced e c (framed_from e sound) new;
    limits = within_but_replaced e.nodes c new.stood new.plain (all_weaker _ (is_within_but n e.nodes) (λ s held. or_right _ _ held) e.nodes sound.limits);
    quiet = quiet_but_replaced e.nodes c e.last tree new.stood new.plain new.later sound.due;
  }

  -- a container keeps what fits
  pub pruning : IsPruning n (replaced_by e c) c None (instances_of n e.nodes) []
  pruning = record {
    sound = but;
    found = there;
    order = ascend_filter (is_instance n) e.nodes (tree_ascends e.nodes tree);
    instances = instances_replaced e.nodes c new.stood new.plain n ∙ sym (append-nil (instances_of n e.nodes));
    few = omega arith;
    small = omega arith;
    young = refl;
    fits = sym (fits_totals (limits_of c) None [] 0 0 (omega arith) (omega arith)) ∙ and_from _ _ (nothing_within (count_at Mni c.attrs)) (nothing_within (count_at Mbs c.attrs));
  }

  -- nothing else has instances
  none_under : is_ty c.ty Container ≡ false → (s : ResourceData) → at s.number now ≡ Some s → is_instance n s ≡ false
  none_under other s found = false_from_ne_true _ (λ t.
      let kin = kin_parts ContentInstance n s t in
      let taken : is_taken now s ≡ true = number_passes (is_taken now) s.number now s (all_taken now but.frame.tree) found in
      let up : at s.parent now ≡ Some c = ap (λ (m : ℕ). at m now) kin.under ∙ there in
      let takes : does_take c.ty s.ty ≡ true = sym (ap (λ (o : Option ResourceData). option_map_or (λ p. does_take p.ty s.ty) o true) up) ∙ taken in
      both_ways _ other (takes_is_container c.ty (ap (does_take c.ty) (sym (instance_type s.ty kin.kind)) ∙ takes)))

  plain_sound : is_ty c.ty Container ≡ false → IsSoundEntity (replaced_by e c)
  plain_sound other = restored n (replaced_by e c) but
      (λ s found here.
      let is : c ≡ s = same_Some c s (sym there ∙ ap (λ (m : ℕ). at m now) (sym (eqb-true s.number n here)) ∙ found) in
      subst (λ (x : ResourceData). within_by x (instances_of x.number now) ≡ true) is (or_left _ _ (not_from_false _ other)))
      (all_by_number (λ s. not (is_instance n s) || not (is_due now e.last s)) now (tree_from_well_formed now but.frame.tree) (λ s found. or_left _ _ (not_from_false _ (none_under other s found))))

  pub sound_updated : IsSoundEntity (record { home = e.home; nodes = without_all (pushed_by e c) (replaced c e.nodes); next = e.next; last = e.last; items = e.items; numbered = e.numbered })
  sound_updated =
      let entity : List ℕ → EntityData = λ gone. record { home = e.home; nodes = without_all gone now; next = e.next; last = e.last; items = e.items; numbered = e.numbered } in
      let keep : List ResourceData → EntityData = λ nodes. record { home = e.home; nodes = nodes; next = e.next; last = e.last; items = e.items; numbered = e.numbered } in
      by_pushing (λ (gone : List ℕ). IsSoundEntity (entity gone)) e c
      (λ t. sound_pruned n (replaced_by e c) c None (instances_of n e.nodes) [] pruning)
      (λ f. subst IsSoundEntity (sym (ap keep (nothing_removed now (tree_from_well_formed now but.frame.tree)))) (plain_sound f))

-- what the steps leave
pub updated_after : (e : EntityData) (c : ResourceData) (gone : List ℕ) (turned left : List ResourceData) → turned ≡ replaced c e.nodes → gone ≡ pushed_by e c → left ≡ without_all gone turned → left ≡ nodes_updated e c
updated_after e c gone turned left first which second =
    second ∙ ap (λ (numbers : List ℕ). without_all numbers turned) which ∙ ap (without_all (pushed_by e c)) first
