use Rattle.resource_lines.proofs.BackLemmas.{resource_back}
use Rattle.resource_lines.proofs.laws.resources_are_read_back.Goals as goal

pub returns : goal.returns
returns c = resource_back
