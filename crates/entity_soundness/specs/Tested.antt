-- What is tested of the resources and the items of an entity.
use Rattle.std.specs.Prelude.{ℕ, nat_eq, nat_le, nat_lt, Bool, true, false, not, ◌==◌, ◌&&◌, ◌||◌}
use Rattle.std.specs.Prelude.{List, [], ◌∷◌, length, bytes_eq, Option, option_and_then}
use Rattle.std.specs.Prelude.{if◌then◌else◌}
use Rattle.std.specs.List.{list_all}
use Rattle.std.specs.Option.{option_map_or}
use Rattle.m2m_names.specs.declared.types.Ty.TheVariants.{CseBase, PollingChannel}
use Rattle.m2m_value.specs.Data.{Data}
use Rattle.m2m_value.specs.Shapes.{largest_count}
use Rattle.m2m_value.specs.View.{as_text}
use Rattle.resource_model.specs.Home.{HomeData}
use Rattle.resource_model.specs.Resource.{ResourceData, cse_id, is_ty}
use Rattle.tree_model.specs.Tree.{channel_of, is_due}
use Rattle.attribute_rules.specs.Kinds.{are_kinds}
use Rattle.policy_eval.specs.Rules.{policy_number}
use Rattle.notify_outbox.specs.declared.item.Item.{Item}
use Rattle.entity_model.specs.Entity.{last_reading}
use Rattle.entity_model.specs.Sound.{begins_with_base, greatest_count, has_free_name, has_known_ids}
use Rattle.entity_model.specs.Sound.{has_size, has_state_tag, is_shallow, is_waiting}
use Rattle.entity_model.specs.Sound.{is_within_limits, keeps_order}

-- ---- a resource

-- the number of the policy whose id a value is
abbrev pub policy_number_of : Data → Option ℕ
policy_number_of id = option_and_then policy_number (as_text id)

-- a CSE-ID is the own one: a slash, and that of the home
abbrev pub is_own : HomeData → List ℕ → Bool
is_own home [] = false
is_own home (b ∷ name) = if b == 47 then bytes_eq home.csi name else false

-- the resource is the CSEBase, named as the home says
abbrev pub is_base : HomeData → ResourceData → Bool
is_base home r = is_ty r.ty CseBase && bytes_eq r.name home.base

-- its CSE-ID, where it has one, isn't the own one
abbrev pub has_other_cse_id : HomeData → ResourceData → Bool
has_other_cse_id home r = option_map_or (λ csi. not (is_own home csi)) (cse_id r) true

-- where it is a polling channel, it is the first of its parent
abbrev pub is_sole_channel : List ResourceData → ResourceData → Bool
is_sole_channel nodes r =
    not (is_ty r.ty PollingChannel)
    || option_map_or (λ n. nat_eq n r.number) (channel_of r.parent nodes) false

-- it keeps what its type keeps
abbrev pub is_formed : ResourceData → Bool
is_formed r = has_free_name r && are_kinds r && keeps_order r && has_state_tag r && has_size r

-- its numbers were given out, and its CSE-ID isn't the own one
abbrev pub is_identified : HomeData → ℕ → ResourceData → Bool
is_identified home next r =
    nat_lt r.number next && has_known_ids next r && has_other_cse_id home r

-- it stands where it may, and isn't due at a moment
abbrev pub is_located : List ResourceData → ℕ → ResourceData → Bool
is_located nodes last r =
    is_shallow nodes r && is_within_limits nodes r && is_sole_channel nodes r
    && not (is_due nodes last r)

-- it is as each of a sound entity
abbrev pub is_sound : HomeData → List ResourceData → ℕ → ℕ → ResourceData → Bool
is_sound home nodes next last r =
    is_formed r && is_identified home next r && is_located nodes last r

-- ---- all of them

-- the resources are those of a sound entity of a home that gives this number next, and whose last
-- moment is this one
abbrev pub are_sound : HomeData → List ResourceData → ℕ → ℕ → Bool
are_sound home nodes next last =
    nat_le next largest_count && nat_le last last_reading && nat_le (length nodes) greatest_count
    && begins_with_base home nodes && list_all (is_sound home nodes next last) nodes

-- ---- items

-- it may stand behind one of a number that was appended at a moment, where the last number is this
-- one
abbrev pub follows : ℕ → ℕ → ℕ → ℕ → Item → Bool
follows last most number since item =
    nat_lt number item.number && nat_le item.number most && nat_le since item.since
    && is_waiting last item

-- each of the items stands so behind the one before it, the first behind one of this number and
-- this moment
abbrev pub do_follow : ℕ → ℕ → ℕ → ℕ → List Item → Bool
do_follow last most number since [] = true
do_follow last most number since (item ∷ items) =
    follows last most number since item && do_follow last most item.number item.since items
