use Rattle.later_replies.specs.Runs.{is_to_run}
use Rattle.later_laws.proofs.GoingLemmas.{ran_stands}
use Rattle.later_laws.proofs.ResultLemmas.{kept_results}
use Rattle.later_laws.proofs.laws.results_are_the_replies_of_runs.Goals as goal

pub returns-clause-results : goal.returns-clause-results
returns-clause-results c = λ before after e t r is has.
    ran_stands (is_to_run is.moment e.event) before.requests.entries t.ran is.left.entries r is.are_left has

pub returns-clause-alone : goal.returns-clause-alone
returns-clause-alone c = λ before after history turns x has there never. kept_results before after history turns x has there never
