-- A request that no place refuses before its address is resolved (TS-0004, 7.3.3).
use Rattle.std.specs.Prelude.{◌≡◌, IsTrue, Ok}
use Rattle.m2m_names.specs.Name.{is_originator}
use Rattle.primitive_json.specs.Form.{has_form}
use Rattle.primitive_json.specs.declared.request.RequestParts.{RequestParts}
use Rattle.addressing.specs.Addresses.{address_of}
use Rattle.entity_model.specs.Entity.{EntityData}
use Rattle.group_fanout.specs.Rights.{claimed_originator}
use Rattle.cse_machine.specs.Answer.{has_address, has_originator, is_blocking, is_in_time}
use Rattle.cse_machine.specs.declared.machine.HeardRequest.{HeardRequest}

-- nothing speaks against the request, whatever its address names: it has its form, says who asks, has
-- an address, isn't too late, and waits for its answer
pub record MayBeHeard (e : EntityData) (request : RequestParts) : Type 0 where
  pub form : IsTrue (has_form request)
  pub originator : IsTrue (has_originator e.home request)
  pub address : IsTrue (has_address e.home request)
  pub time : IsTrue (is_in_time e request)
  pub blocking : IsTrue (is_blocking request)

-- whom it is judged as, which is an originator, and the address that it is sent to
pub record IsHeardAs (e : EntityData) (request : RequestParts) (heard : HeardRequest) : Type 0 where
  pub originator : IsTrue (is_originator heard.originator.now)
  pub claimed : claimed_originator e.home request ≡ heard.originator.now
  pub addressed : address_of e.home request.to ≡ Ok heard.addr
