use Rattle.attribute_rules.proofs.AdmittedLemmas.{admitted_sets, admitted_expiry, admitted_clears, admitted_others}
use Rattle.attribute_rules.proofs.laws.an_update_does_what_it_may.Goals as goal

pub returns-clause-sets : goal.returns-clause-sets
returns-clause-sets c = admitted_sets

pub returns-clause-expiry : goal.returns-clause-expiry
returns-clause-expiry c = admitted_expiry

pub returns-clause-clears : goal.returns-clause-clears
returns-clause-clears c = admitted_clears

pub returns-clause-others : goal.returns-clause-others
returns-clause-others c = admitted_others
