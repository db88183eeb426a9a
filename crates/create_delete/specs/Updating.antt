-- When an update may be done (TS-0001, 10.2.4).
use Rattle.std.specs.Prelude.{◌≡◌, true, List, Some, IsTrue}
use Rattle.std.specs.Option.{option_map_or}
use Rattle.m2m_names.specs.declared.operations.Op.TheVariants.{Update}
use Rattle.m2m_value.specs.Data.{Entry}
use Rattle.m2m_value.specs.Node.{AreSorted}
use Rattle.resource_model.specs.Resource.{ResourceData}
use Rattle.tree_model.specs.Tree.{at}
use Rattle.attribute_rules.specs.Admission.{are_admitted}
use Rattle.attribute_rules.specs.declared.table.Writing.TheVariants.{Update as Updating}
use Rattle.entity_model.specs.Entity.{EntityData}
use Rattle.request_rules.specs.Groups.{are_few, membership_edited}
use Rattle.request_rules.specs.Order.{expires_later}
use Rattle.request_rules.specs.Policies.{links_live}
use Rattle.request_rules.specs.Requests.{is_for}

-- What holds of an update, which names these attributes, that no place refuses: the resource is
-- there and of a type that is updated, what is named stands in the order of names and is admitted,
-- and a group's members are few.
pub record IsUpdatable (e : EntityData) (es : List Entry) (r : ResourceData) : Type 0 where
  pub stands : at r.number e.nodes ≡ Some r
  pub kind : IsTrue (is_for Update r.ty)
  pub sorted : AreSorted es
  pub admitted : IsTrue (are_admitted Updating r.ty es)
  pub later : IsTrue (expires_later e es)
  pub live : IsTrue (links_live e es)
  pub few : IsTrue (option_map_or are_few (membership_edited r es) true)
