use Rattle.std.proofs.Common.{◌∙◌}
use Rattle.resource_list.proofs.AfterLemmas.{next_at}
use Rattle.resource_list.proofs.placing.found_after.Goals as goal

pub returns : goal.returns
returns c = c.at_place.ensures ∙ next_at c.args.number c.args.resources.now c.place_after.result c.place_after.ensures.value
