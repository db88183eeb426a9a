use Rattle.tree_model.proofs.IdLemmas.{resource_of_id-id_of}
use Rattle.tree_model.proofs.laws.a_resource_is_named_by_its_id.Goals as goal

pub returns : goal.returns
returns c = λ nodes r small found. resource_of_id-id_of nodes r small found
