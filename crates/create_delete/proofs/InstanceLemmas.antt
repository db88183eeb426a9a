-- Soundness where an instance joins a container, which is stamped anew and pushes out what doesn't fit.
use Rattle.std.specs.Prelude.{nat_le, sum_by}
use Rattle.std.proofs.Common.{◌≡◌, ℕ, ◌+◌, ◌^◌, ◌<◌, ◌≤◌, List, [], ◌∷◌, ◌++◌, Bool, true, false, not, ◌&&◌, Option, Some, None, is_some, option_map, pos, refl, sym, ap, ◌∙◌, subst, arith}
use Rattle.std.proofs.lemmas.Bool.{and_from, or_right, both_ways, lt-ltb, leb-false, ltb-true, le-leb, eq-eqb, eqb-true, not_from_false}
use Rattle.std.specs.List.{list_all}
use Rattle.std.specs.Option.{option_map_or}
use Rattle.m2m_names.specs.Types.{does_take}
use Rattle.m2m_names.specs.declared.attributes.Attr.{Attr}
use Rattle.m2m_names.specs.declared.attributes.Attr.TheVariants.{Acpi, Macp, Mbs, Mia, Mni, St}
use Rattle.m2m_names.specs.declared.types.Ty.{Ty}
use Rattle.m2m_names.specs.declared.types.Ty.TheVariants.{Container, ContentInstance, CseBase}
use Rattle.m2m_names.proofs.TypeLemmas.{same_type}
use Rattle.m2m_value.specs.Data.{Data, number}
use Rattle.resource_model.specs.Attributes.{is_attr, value_of, count_at}
use Rattle.resource_model.specs.Resource.{ResourceData, is_ty}
use Rattle.resource_model.proofs.AttributeLemmas.{value-with_value_same, value-with_value_other}
use Rattle.tree_model.specs.Tree.{at, restamped, restamped_at, is_instance, instances_of, instance_size, due_under, is_due, is_taken, is_tree, standing}
use Rattle.tree_model.proofs.ChangeLemmas.{picked-append}
use Rattle.tree_model.proofs.GrowthLemmas.{tree_from_well_formed, fits_parts}
use Rattle.tree_model.proofs.QuietLemmas.{number_passes}
use Rattle.tree_model.proofs.StampLemmas.{standing-restamped, restamped_is}
use Rattle.tree_model.proofs.TreeLemmas.{at-append, at-replaced, at_number}
use Rattle.attribute_rules.specs.Kinds.{is_attr_kind, are_kinds}
use Rattle.attribute_rules.proofs.KindLemmas.{kinds-with_value}
use Rattle.policy_eval.specs.Rules.{listed_in, ids_at}
use Rattle.container_limits.specs.Limits.{do_fit, evicted, is_due_by, is_within, lasts, limits_of}
use Rattle.container_limits.proofs.LimitLemmas.{fits_totals}
use Rattle.tree_model.proofs.OrderLemmas.{ascend_filter, tree_ascends}
use Rattle.entity_model.specs.Entity.{EntityData}
use Rattle.entity_model.specs.Sound.{is_known_id, has_known_ids, has_state_tag, keeps_order, IsSoundEntity}
use Rattle.entity_model.proofs.OrderLemmas.{order-with_value}
use Rattle.entity_model.proofs.SoundLemmas.{IsFramed, framed_from}
use Rattle.create_delete.specs.Changing.{without_all}
use Rattle.request_rules.specs.Creation.{is_below}
use Rattle.create_delete.specs.NewResource.{IsNewInstance, IsReplacement}
use Rattle.create_delete.proofs.GrownLemmas.{grown_by, framed_grown, is_within_but, quiet_grown, within_but_grown, none_all}
use Rattle.create_delete.proofs.PrunedLemmas.{IsPruning, IsSoundBut, instance_due, sound_pruned}
use Rattle.create_delete.proofs.ReplacedLemmas.{framed_replaced, instances_replaced, quiet_but_replaced, replaced_by, still_there, within_but_replaced}
use Rattle.request_rules.proofs.RoomLemmas.{takes_parts}

-- ---- types

-- a container alone takes an instance
pub takes_is_container : (t : Ty) → does_take t ContentInstance ≡ true → is_ty t Container ≡ true
takes_is_container Container taken = refl
takes_is_container _ taken = absurd (both_ways _ refl taken)

-- a type by its number
container_type : (t : Ty) → is_ty t Container ≡ true → t ≡ Container
container_type t is = same_type t Container (eqb-true _ _ is)

pub instance_type : (t : Ty) → is_ty t ContentInstance ≡ true → t ≡ ContentInstance
instance_type t is = same_type t ContentInstance (eqb-true _ _ is)

-- ---- a container that is stamped anew

other_value : (a : Attr) (lt st : ℕ) (c : ResourceData) → is_attr a St ≡ false → is_attr a a ≡ true → value_of a (restamped lt st c).attrs ≡ value_of a c.attrs
other_value a lt st c apart itself = value-with_value_other St a (number (pos st)) c.attrs (λ e. both_ways _ apart (ap (is_attr a) (sym e) ∙ itself))

pub limits_restamped : (lt st : ℕ) (c : ResourceData) → limits_of (restamped lt st c) ≡ limits_of c
limits_restamped lt st c = rw (other_value Mni lt st c refl refl, other_value Mbs lt st c refl refl, other_value Mia lt st c refl refl) refl

ids_restamped : (next lt st : ℕ) (c : ResourceData) → has_known_ids next (restamped lt st c) ≡ has_known_ids next c
ids_restamped next lt st c =
    ap (λ (o : Option Data). list_all (is_known_id next) (listed_in o ++ ids_at Macp (restamped lt st c))) (other_value Acpi lt st c refl refl)
    ∙ ap (λ (o : Option Data). list_all (is_known_id next) (ids_at Acpi c ++ listed_in o)) (other_value Macp lt st c refl refl)

tag_restamped : (lt st : ℕ) (c : ResourceData) → has_state_tag (restamped lt st c) ≡ true
tag_restamped lt st c = or_right _ _ (ap is_some (value-with_value_same St (number (pos st)) c.attrs))

state_kind : (st : ℕ) → st < 2 ^ 63 → is_attr_kind Container (St, number (pos st)) ≡ true
state_kind st small = lt-ltb st (2 ^ 63) small

kinds_restamped : (lt st : ℕ) (c : ResourceData) → is_ty c.ty Container ≡ true → st < 2 ^ 63 → are_kinds c ≡ true → are_kinds (restamped lt st c) ≡ true
kinds_restamped lt st c container small kinds =
    kinds-with_value c.ty (St, number (pos st)) c.attrs (ap (λ t. is_attr_kind t (St, number (pos st))) (container_type c.ty container) ∙ state_kind st small) kinds

-- what isn't due expires later
expires_later : (o : Option ResourceData) (c : ResourceData) (moment : ℕ) → is_ty c.ty Container ≡ true → option_map_or (λ at. nat_le at moment) (due_under o c) false ≡ false → moment < c.et
expires_later o c moment container quiet =
    let is : c.ty ≡ Container = container_type c.ty container in
    let other : is_ty c.ty CseBase ≡ false = ap (λ t. is_ty t CseBase) is in
    let plain : is_ty c.ty ContentInstance ≡ false = ap (λ t. is_ty t ContentInstance) is in
    leb-false c.et moment (rw (other, plain) at quiet)

-- ---- what joins

module _ (e : EntityData) (r c : ResourceData) (st : ℕ) (sound : IsSoundEntity e) (filling : IsNewInstance e r c st) where
  abbrev n : ℕ
  n = r.parent

  abbrev grown : List ResourceData
  grown = e.nodes ++ r ∷ []

  abbrev stamped : ResourceData
  stamped = restamped e.last st c

  abbrev after : EntityData
  after = replaced_by (grown_by e r) stamped

  tree : is_tree e.nodes ≡ true
  tree = tree_from_well_formed e.nodes sound.tree

  frame : IsFramed (grown_by e r)
  frame = framed_grown e r (framed_from e sound) filling.new

  named : c.number ≡ n
  named = at_number n e.nodes c filling.container

  pub is_container : is_ty c.ty Container ≡ true
  is_container =
      let taken : is_taken e.nodes r ≡ true = (fits_parts e.nodes r filling.new.fits).taken in
      let takes : does_take c.ty r.ty ≡ true = sym (ap (λ (o : Option ResourceData). option_map_or (λ p. does_take p.ty r.ty) o true) filling.container) ∙ taken in
      takes_is_container c.ty (ap (does_take c.ty) (sym (instance_type r.ty filling.instance)) ∙ takes)

  plain : is_ty c.ty ContentInstance ≡ false
  plain = ap (λ t. is_ty t ContentInstance) (container_type c.ty is_container)

  pub there : at n grown ≡ Some c
  there = at-append n e.nodes (r ∷ []) ∙ rw filling.container refl

  stood : option_map standing (at stamped.number grown) ≡ Some (standing stamped)
  stood = ap (λ (m : ℕ). option_map standing (at m grown)) named ∙ ap (option_map standing) there ∙ ap Some (sym (standing-restamped e.last st c))

  known : has_known_ids (e.next + 1) c ≡ true
  known = number_passes (has_known_ids (e.next + 1)) n grown c frame.ids there

  quiet : is_due grown e.last c ≡ false
  quiet = found_quiet (is_due grown e.last c) refl
    where
      found_quiet : (b : Bool) → is_due grown e.last c ≡ b → b ≡ false
      found_quiet false is = refl
      found_quiet true is = absurd (both_ways _ (ap not is) (number_passes (λ s. not (is_due grown e.last s)) n grown c (none_all (is_due grown e.last) grown (quiet_grown e r sound filling.new)) there))

  replacement : IsReplacement (grown_by e r) stamped
  replacement = record {
    stood = stood;
    ids = ids_restamped (e.next + 1) e.last st c ∙ known;
    kinds = kinds_restamped e.last st c is_container filling.small (number_passes are_kinds n grown c frame.kinds there);
    order = order-with_value St (number (pos st)) c.attrs (number_passes keeps_order n grown c frame.order there);
    tag = tag_restamped e.last st c;
    plain = plain;
    later = expires_later (at c.parent grown) c e.last is_container quiet;
  }

  pub grown_tree : is_tree grown ≡ true
  grown_tree = tree_from_well_formed grown frame.tree

  but : IsSoundBut n after
  but = subst (λ (m : ℕ). IsSoundBut m after) named (record {
    frame = framed_replaced (grown_by e r) stamped frame replacement;
    limits = within_but_replaced grown stamped stood plain (ap (λ (m : ℕ). list_all (is_within_but m grown) grown) named ∙ within_but_grown e r sound filling.new);
    quiet = quiet_but_replaced grown stamped e.last grown_tree stood plain replacement.later (quiet_grown e r sound filling.new);
  })

  -- the instances are those before, and the new one
  is_new : is_instance n r ≡ true
  is_new = and_from _ _ (eq-eqb r.parent n refl) filling.instance

  instances : instances_of n after.nodes ≡ instances_of n e.nodes ++ r ∷ []
  instances = instances_replaced grown stamped stood plain n ∙ picked-append (is_instance n) e.nodes r ∙ rw is_new refl

  one_fits : (o : Option ℕ) → is_below 0 o ≡ true → is_within 1 o ≡ true
  one_fits None t = refl
  one_fits (Some most) t = (let some : 0 < most = ltb-true 0 most t in le-leb 1 most (omega arith))

  fit : do_fit (limits_of stamped) (Some (instance_size r)) [] ≡ true
  fit =
      let takes = takes_parts c (instance_size r) filling.takes in
      sym (fits_totals (limits_of stamped) (Some (instance_size r)) [] 1 (instance_size r) (omega arith) (omega arith))
      ∙ ap (λ l. is_within 1 l.mni && is_within (instance_size r) l.mbs) (limits_restamped e.last st c)
      ∙ and_from _ _ (one_fits (count_at Mni c.attrs) takes.count) takes.bytes

  -- it lasts
  not_past : is_due e.nodes e.last r ≡ false → lasts (count_at Mia stamped.attrs) e.last r ≡ true
  not_past later =
      let mia : count_at Mia stamped.attrs ≡ count_at Mia c.attrs = ap (λ l. l.mia) (limits_restamped e.last st c) in
      not_from_false _ (ap (λ (o : Option ℕ). is_due_by o e.last r) mia ∙ sym (instance_due n e.last e.nodes c r filling.container is_new) ∙ later)

  pub pruning : IsPruning n after stamped (Some (instance_size r)) (instances_of n e.nodes) (r ∷ [])
  pruning = record {
    sound = but;
    found = ap (λ (m : ℕ). at m after.nodes) (sym named) ∙ at-replaced stamped grown (still_there grown stamped stood);
    order = ascend_filter (is_instance n) e.nodes (tree_ascends e.nodes tree);
    instances = instances;
    few = omega arith;
    small = one_size;
    young = and_from _ _ (not_past filling.new.due) refl;
    fits = fit;
  }
    where
      one_size : sum_by instance_size (r ∷ []) ≤ instance_size r
      one_size = (let is : sum_by instance_size (r ∷ []) ≡ instance_size r = one_sum in omega arith)
        where
          one_sum : sum_by instance_size (r ∷ []) ≡ instance_size r
          one_sum = search arith

  pub sound_filled : IsSoundEntity (record { home = e.home; nodes = without_all (evicted (limits_of c) (Some (instance_size r)) e.last (instances_of n e.nodes)) (restamped_at n e.last st grown); next = e.next + 1; last = e.last; items = e.items; numbered = e.numbered })
  sound_filled =
      let entity : List ℕ → List ResourceData → EntityData = λ gone nodes. record { home = e.home; nodes = without_all gone nodes; next = e.next + 1; last = e.last; items = e.items; numbered = e.numbered } in
      let same_limits = ap (λ l. entity (evicted l (Some (instance_size r)) e.last (instances_of n e.nodes)) after.nodes) (limits_restamped e.last st c) in
      let same_nodes = ap (entity (evicted (limits_of c) (Some (instance_size r)) e.last (instances_of n e.nodes))) (restamped_is grown n e.last st c grown_tree there) in
      subst IsSoundEntity (same_limits ∙ sym same_nodes) (sound_pruned n after stamped (Some (instance_size r)) (instances_of n e.nodes) (r ∷ []) pruning)
