use Rattle.tree_model.proofs.ApartLemmas.{names_apart, ae_ids_apart, cse_ids_apart}
use Rattle.tree_model.proofs.laws.no_two_resources_share_what_stands_once.Goals as goal

pub returns-clause-names : goal.returns-clause-names
returns-clause-names c = names_apart

pub returns-clause-ae_ids : goal.returns-clause-ae_ids
returns-clause-ae_ids c = ae_ids_apart

pub returns-clause-cse_ids : goal.returns-clause-cse_ids
returns-clause-cse_ids c = cse_ids_apart
