use Rattle.change_laws.proofs.MayLemmas.{creation_served, deletion_served, update_served}
use Rattle.change_laws.proofs.laws.what_may_be_done_is_served.Goals as goal

pub returns-clause-creates : goal.returns-clause-creates
returns-clause-creates c = creation_served

pub returns-clause-updates : goal.returns-clause-updates
returns-clause-updates c = update_served

pub returns-clause-deletes : goal.returns-clause-deletes
returns-clause-deletes c = deletion_served
