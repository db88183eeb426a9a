use Rattle.change_laws.proofs.ServedLemmas.{serves_create, serves_delete, serves_update}
use Rattle.change_laws.proofs.laws.what_no_place_refuses_is_served.Goals as goal

pub returns-clause-creates : goal.returns-clause-creates
returns-clause-creates c = serves_create

pub returns-clause-updates : goal.returns-clause-updates
returns-clause-updates c = serves_update

pub returns-clause-deletes : goal.returns-clause-deletes
returns-clause-deletes c = serves_delete
