-- In which order a request is refused.
use Rattle.std.specs.Prelude.{◌≡◌, true, Some}
use Rattle.m2m_names.specs.declared.codes.Rsc.{Rsc}
use Rattle.m2m_names.specs.declared.operations.Op.TheVariants.{Retrieve}
use Rattle.primitive_json.specs.Form.{has_form}
use Rattle.primitive_json.specs.Laws.{IsOfKinds}
use Rattle.primitive_json.specs.declared.request.RequestParts.{RequestParts}
use Rattle.resource_model.specs.Resource.{ResourceData}
use Rattle.tree_model.specs.Tree.{at}
use Rattle.entity_model.specs.Entity.{EntityData}
use Rattle.entity_model.specs.Places.{refusal}
use Rattle.request_rules.specs.Order.{fault_on}
use Rattle.group_fanout.specs.Operations.{reading_reply}
use Rattle.group_fanout.specs.Rights.{claimed_originator}

-- A request of its kinds isn't refused for its form; so is each of them that is read from a value
-- or from a frame.
abbrev pub KindsHaveTheForm : Type 0
KindsHaveTheForm = (request : RequestParts) → IsOfKinds request → has_form request ≡ true

-- Where a place in the order of refusals refuses a Retrieve of a resource that is there, that is
-- its answer; what it is refused by besides, its conditions, comes behind.
abbrev pub RetrievesAreRefusedInOrder : Type 0
RetrievesAreRefusedInOrder =
    (e : EntityData) (request : RequestParts) (target : ResourceData) (fault : Rsc)
    → at target.number e.nodes ≡ Some target
    → fault_on Retrieve e (claimed_originator e.home request) request target ≡ Some fault
    → reading_reply e request target.number ≡ refusal request fault
