-- A resource that may join an entity: what the tree asks of it, and that the entity stays sound.
use Rattle.std.proofs.Common.{◌≡◌, ℕ, ◌+◌, List, [], ◌∷◌, ◌++◌, true, false, Option, Some, None, is_some, sym, ap, ◌∙◌, subst}
use Rattle.std.specs.Option.{option_map_or}
use Rattle.m2m_names.specs.declared.attributes.Attr.TheVariants.{St}
use Rattle.m2m_names.specs.declared.types.Ty.TheVariants.{Container}
use Rattle.resource_model.specs.Attributes.{value_of}
use Rattle.resource_model.specs.Resource.{ResourceData, is_ty}
use Rattle.tree_model.specs.Tree.{at, may_stand, has_state, instance_size, instances_of, restamped_at}
use Rattle.tree_model.proofs.QuietLemmas.{number_passes}
use Rattle.tree_model.proofs.TreeLemmas.{at_number}
use Rattle.container_limits.specs.Limits.{evicted, limits_of}
use Rattle.entity_model.specs.Entity.{EntityData}
use Rattle.entity_model.specs.Sound.{has_state_tag, IsSoundEntity}
use Rattle.create_delete.specs.Changing.{nodes_joined, with_new_instance, pushed_out, without_all}
use Rattle.create_delete.specs.Joining.{JoinsAt, MayJoinContainer}
use Rattle.create_delete.specs.NewResource.{IsNewInstance, IsNewResource}
use Rattle.create_delete.specs.declared.joining.ContainerUpdate.{ContainerUpdate}
use Rattle.create_delete.proofs.InstanceLemmas.{is_container, sound_filled, there}
use Rattle.tree_model.proofs.GrowthLemmas.{fits_parts}

pub newcomer_fits : (e : EntityData) (r : ResourceData) → IsNewResource e r → may_stand e.nodes r ≡ true
newcomer_fits e r new = (fits_parts e.nodes r new.fits).stands

-- whatever joins may stand
pub joining_fits : (moment : ℕ) (nodes : List ResourceData) (r : ResourceData) (f : Option ContainerUpdate) → JoinsAt moment nodes r f → may_stand nodes r ≡ true
joining_fits moment nodes r None joins = subst (λ (ns : List ResourceData). may_stand ns r ≡ true) joins.stand (newcomer_fits joins.entity r joins.may.0)
joining_fits moment nodes r (Some f) joins = subst (λ (ns : List ResourceData). may_stand ns r ≡ true) joins.stand (newcomer_fits joins.entity r joins.may.joins.new)

-- the container has a state tag
tagged : (c : ResourceData) → is_ty c.ty Container ≡ true → has_state_tag c ≡ true → is_some (value_of St c.attrs) ≡ true
tagged c is tag = rw is at tag

pub filling_state : (e : EntityData) (r : ResourceData) (f : ContainerUpdate) → IsSoundEntity e → MayJoinContainer e r f → has_state f.container (e.nodes ++ r ∷ []) ≡ true
filling_state e r f sound may =
    let c = may.parent in
    let found : at r.parent (e.nodes ++ r ∷ []) ≡ Some c = there e r c f.state sound may.joins in
    let tag : has_state_tag c ≡ true = number_passes has_state_tag r.parent e.nodes c sound.tags may.joins.container in
    ap (λ (n : ℕ). has_state n (e.nodes ++ r ∷ [])) may.container
    ∙ ap (λ (o : Option ResourceData). option_map_or (λ s. is_some (value_of St s.attrs)) o false) found
    ∙ tagged c (is_container e r c f.state sound may.joins) tag

-- a container is the resource of its number
pub pushes_named : (e : EntityData) (r c : ResourceData) (st : ℕ) → IsNewInstance e r c st → evicted (limits_of c) (Some (instance_size r)) e.last (instances_of r.parent e.nodes) ≡ pushed_out e c (Some (instance_size r))
pushes_named e r c st filling = ap (λ (n : ℕ). evicted (limits_of c) (Some (instance_size r)) e.last (instances_of n e.nodes)) (sym (at_number r.parent e.nodes c filling.container))

pub filled_is : (e : EntityData) (r : ResourceData) (f : ContainerUpdate) (may : MayJoinContainer e r f) → record { home = e.home; nodes = without_all (evicted (limits_of may.parent) (Some (instance_size r)) e.last (instances_of r.parent e.nodes)) (restamped_at r.parent e.last f.state (e.nodes ++ r ∷ [])); next = e.next + 1; last = e.last; items = e.items; numbered = e.numbered } ≡ with_new_instance e r f
filled_is e r f may =
    let after : List ℕ → ℕ → EntityData = λ gone n. record { home = e.home; nodes = without_all gone (restamped_at n e.last f.state (e.nodes ++ r ∷ [])); next = e.next + 1; last = e.last; items = e.items; numbered = e.numbered } in
    ap (λ (gone : List ℕ). after gone r.parent) (pushes_named e r may.parent f.state may.joins ∙ sym may.gone)
    ∙ ap (after f.gone) (sym may.container)

pub filling_sound : (e : EntityData) (r : ResourceData) (f : ContainerUpdate) → IsSoundEntity e → MayJoinContainer e r f → IsSoundEntity (with_new_instance e r f)
filling_sound e r f sound may = subst IsSoundEntity (filled_is e r f may) (sound_filled e r may.parent f.state sound may.joins)

-- what the steps leave
pub filling_after : (moment : ℕ) (nodes : List ResourceData) (r : ResourceData) (f : ContainerUpdate) (gone : List ℕ) (grown stamped left : List ResourceData) → grown ≡ nodes ++ r ∷ [] → stamped ≡ restamped_at f.container moment f.state grown → gone ≡ f.gone → left ≡ without_all gone stamped → left ≡ nodes_joined moment nodes r (Some f)
filling_after moment nodes r f gone grown stamped left first second which third =
    third ∙ ap (λ (ns : List ℕ). without_all ns stamped) which ∙ ap (without_all f.gone) (second ∙ ap (restamped_at f.container moment f.state) first)
