-- What an originator sees of a list of resources whatever its rights: of each the number, type,
-- name and parent, when it is due, `acpi`, `macp` and whether it owns it; the `aei` of an AE; the
-- `csi` of a remote CSE and the first http URL of its `poa`; the `enc` and the `exc` of a
-- subscription; and of a policy the bits that it has by `pv` and by `pvs`. By this it is judged,
-- and by this subscriptions are told of what it does.
use Rattle.std.specs.Prelude.{ℕ, List, map, Option, Some, option_map, unwrap_or}
use Rattle.std.specs.Prelude.{if◌then◌else◌}
use Rattle.std.specs.List.{filter_map}
use Rattle.m2m_names.specs.declared.attributes.Attr.{Attr}
use Rattle.m2m_value.specs.Data.{Data}
use Rattle.resource_model.specs.Attributes.{Row}
use Rattle.resource_model.specs.Home.{HomeData}
use Rattle.resource_model.specs.Resource.{ResourceData}
use Rattle.tree_model.specs.Tree.{due}
use Rattle.policy_eval.specs.Rules.{is_attr_in}
use Rattle.equal_sights.specs.Alike.{shape_attrs}
use Rattle.equal_sights.specs.Seen.{hidden_value, seen_owner}

-- What the shape keeps of a value: all of it for an attribute by which the resource is judged,
-- named or told, and else what an originator sees of a value that isn't shown.
abbrev pub shape_value : HomeData → List ℕ → ResourceData → Attr → Data → Option Data
shape_value home originator r a d =
    if is_attr_in (shape_attrs r.ty) a then Some d else hidden_value home originator r a d

-- An attribute with what the shape keeps of its value.
abbrev pub shape_row : HomeData → List ℕ → ResourceData → Row → Option Row
shape_row home originator r row =
    option_map (λ d. (row.0, d)) (shape_value home originator r row.0 row.1)

-- The shape of a resource; its expiry is when it is due, and its other moments are hidden.
abbrev pub shape_of : HomeData → List ResourceData → List ℕ → ResourceData → ResourceData
shape_of home nodes originator r = record r {
  owner = seen_owner home originator r;
  ct = 0;
  lt = 0;
  et = unwrap_or (due nodes r) 0;
  attrs = filter_map (shape_row home originator r) r.attrs;
}

-- The shape of a list: that of each resource.
abbrev pub shape_list : HomeData → List ResourceData → List ℕ → List ResourceData
shape_list home nodes originator = map (shape_of home nodes originator) nodes
