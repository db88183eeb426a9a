use Rattle.change_laws.proofs.ServedLemmas.{creation_adds_one}
use Rattle.change_laws.proofs.laws.a_creation_adds_one_resource.Goals as goal

pub returns : goal.returns
returns c = creation_adds_one
