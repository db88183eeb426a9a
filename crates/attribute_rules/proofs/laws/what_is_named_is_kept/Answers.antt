use Rattle.attribute_rules.proofs.AdmittedLemmas.{named_policies, named_fan_policies, named_creator}
use Rattle.attribute_rules.proofs.laws.what_is_named_is_kept.Goals as goal

pub returns-clause-policies : goal.returns-clause-policies
returns-clause-policies c = named_policies

pub returns-clause-fan_policies : goal.returns-clause-fan_policies
returns-clause-fan_policies c = named_fan_policies

pub returns-clause-creator : goal.returns-clause-creator
returns-clause-creator c = named_creator
