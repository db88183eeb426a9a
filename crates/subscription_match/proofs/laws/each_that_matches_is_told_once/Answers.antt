use Rattle.subscription_match.proofs.KeptLemmas.{told_match}
use Rattle.subscription_match.proofs.laws.each_that_matches_is_told_once.Goals as goal

pub returns : goal.returns
returns c home nodes going change = told_match home nodes going change nodes
