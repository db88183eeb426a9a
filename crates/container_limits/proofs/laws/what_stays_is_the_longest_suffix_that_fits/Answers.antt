use Rattle.container_limits.proofs.LimitLemmas.{longest_is_suffix, longest_fits, longest_longest}
use Rattle.container_limits.proofs.laws.what_stays_is_the_longest_suffix_that_fits.Goals as goal

pub returns-clause-suffix : goal.returns-clause-suffix
returns-clause-suffix c = longest_is_suffix

pub returns-clause-fits : goal.returns-clause-fits
returns-clause-fits c = longest_fits

pub returns-clause-longest : goal.returns-clause-longest
returns-clause-longest c = longest_longest
