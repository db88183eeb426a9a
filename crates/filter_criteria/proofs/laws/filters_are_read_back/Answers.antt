use Rattle.filter_criteria.proofs.FilterLemmas.{filter_back, filter_fits, filter_of_kinds}
use Rattle.filter_criteria.proofs.laws.filters_are_read_back.Goals as goal

pub returns-clause-kinds : goal.returns-clause-kinds
returns-clause-kinds c = filter_of_kinds

pub returns-clause-filter : goal.returns-clause-filter
returns-clause-filter c = filter_fits

pub returns-clause-back : goal.returns-clause-back
returns-clause-back c = filter_back
