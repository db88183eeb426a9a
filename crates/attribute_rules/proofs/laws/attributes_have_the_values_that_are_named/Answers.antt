use Rattle.attribute_rules.proofs.ValueLemmas.{value_edited, value_wanted}
use Rattle.attribute_rules.proofs.laws.attributes_have_the_values_that_are_named.Goals as goal

pub returns-clause-created : goal.returns-clause-created
returns-clause-created c = value_wanted

pub returns-clause-updated : goal.returns-clause-updated
returns-clause-updated c = value_edited
