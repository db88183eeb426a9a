use Rattle.copy_histories.proofs.HistoryLemmas.{copies_follow_from_openings, copies_follow_histories}
use Rattle.copy_histories.proofs.laws.copies_follow_histories.Goals as goal

pub returns-clause-histories : goal.returns-clause-histories
returns-clause-histories c = λ peer before e history cse sound empty none run.
    copies_follow_histories peer before e history cse sound empty none run

pub returns-clause-openings : goal.returns-clause-openings
returns-clause-openings c = λ peer home reading e history cse is_home run.
    copies_follow_from_openings peer home reading e history cse is_home run
