-- What an originator may learn of a resource by its rights, and which attributes that shows.
use Rattle.std.specs.Prelude.{ℕ, ◌==◌, Bool, ◌&&◌, ◌||◌, List, unwrap_or}
use Rattle.std.specs.Prelude.{if◌then◌else◌}
use Rattle.m2m_names.specs.declared.attributes.Attr.{Attr}
use Rattle.resource_model.specs.Home.{HomeData}
use Rattle.resource_model.specs.Resource.{ResourceData}
use Rattle.tree_model.specs.Tree.{due}
use Rattle.policy_eval.specs.Rules.{is_attr_in}
use Rattle.policy_eval.specs.Rights.{has_bits}
use Rattle.equal_sights.specs.Alike.{shape_attrs}
use Rattle.equal_sights.specs.Seen.{create_bit, retrieve_bit, update_bit, discovery_bit, has_bit}
use Rattle.equal_sights.specs.Seen.{fills, is_filled_in, may_use, found_attrs, limit_attrs}
use Rattle.equal_sights.specs.Seen.{size_attrs, member_attrs}
use Rattle.sight_compare.specs.declared.looks.Look.{Look}

-- the bits let an originator add to a resource, or change it
abbrev pub lets_fill : ℕ → Bool
lets_fill bits = has_bits bits create_bit || has_bits bits update_bit

-- what the originator may learn of the resource
abbrev pub look_at : HomeData → List ResourceData → List ℕ → ResourceData → Look
look_at home nodes originator r = record {
  retrieves = has_bit home nodes originator retrieve_bit r;
  discovers = has_bit home nodes originator discovery_bit r;
  fills = fills home nodes originator r;
  is_inside = is_filled_in home nodes originator r;
  uses = may_use home nodes originator r;
}

-- the value of an attribute of the resource is shown to who may learn this of it
abbrev pub shows : Look → ResourceData → Attr → Bool
shows look r a =
    is_attr_in (shape_attrs r.ty) a
    || look.retrieves
    || (look.discovers && is_attr_in found_attrs a)
    || (look.fills && is_attr_in limit_attrs a)
    || (look.is_inside && is_attr_in size_attrs a)
    || (look.uses && is_attr_in member_attrs a)

-- The moments of a resource that are seen at such a look: of its creation, of its last change, and of
-- its expiry, or when it is due where that is hidden.
abbrev pub ct_at : Look → ResourceData → ℕ
ct_at look r = if look.retrieves || look.discovers || look.is_inside then r.ct else 0

abbrev pub lt_at : Look → ResourceData → ℕ
lt_at look r = if look.retrieves || look.discovers then r.lt else 0

abbrev pub et_at : List ResourceData → Look → ResourceData → ℕ
et_at nodes look r =
    if look.retrieves || look.is_inside then r.et else unwrap_or (due nodes r) 0

-- The moments that are seen at two looks are equal.
abbrev pub same_times :
    List ResourceData → Look → ResourceData → List ResourceData → Look → ResourceData → Bool
same_times nodes look r beside other s =
    (ct_at look r == ct_at other s)
    && (lt_at look r == lt_at other s)
    && (et_at nodes look r == et_at beside other s)
