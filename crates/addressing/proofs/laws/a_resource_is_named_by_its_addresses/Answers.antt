use Rattle.addressing.proofs.NameLemmas.{named_by_id, spot_named_structured}
use Rattle.addressing.proofs.laws.a_resource_is_named_by_its_addresses.Goals as goal

pub returns-clause-structured : goal.returns-clause-structured
returns-clause-structured c = spot_named_structured

pub returns-clause-id : goal.returns-clause-id
returns-clause-id c = named_by_id
