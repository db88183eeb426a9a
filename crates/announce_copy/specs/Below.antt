-- Whether the deletion of a resource may be announced.
use Rattle.std.specs.Prelude.{ℕ, Bool, false, ◌&&◌, not, ◌||◌, List, is_some}
use Rattle.std.specs.List.{list_any}
use Rattle.std.specs.Option.{option_map_or}
use Rattle.m2m_names.specs.declared.attributes.Attr.TheVariants.{At}
use Rattle.m2m_names.specs.declared.types.Ty.TheVariants.{ContentInstance}
use Rattle.m2m_value.specs.View.{as_text}
use Rattle.policy_eval.specs.Rules.{listed_in}
use Rattle.resource_model.specs.Attributes.{value_of}
use Rattle.resource_model.specs.Resource.{ResourceData, is_ty}
use Rattle.tree_model.specs.Tree.{at, is_at_or_below}

-- The resource lists a CSE in `at`.
abbrev pub lists_peers : ResourceData → Bool
lists_peers r = list_any (λ d. is_some (as_text d)) (listed_in (value_of At r.attrs))

-- So does its container, where it is an instance.
abbrev pub may_announce : List ResourceData → ResourceData → Bool
may_announce nodes r =
    lists_peers r
    && (not (is_ty r.ty ContentInstance) || option_map_or lists_peers (at r.parent nodes) false)

-- The resource of the number may be announced, or one that stands below it.
abbrev pub announces_below : ℕ → List ResourceData → Bool
announces_below n nodes =
    list_any (λ r. is_at_or_below n nodes r && may_announce nodes r) nodes
