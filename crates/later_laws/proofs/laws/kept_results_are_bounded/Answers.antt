use Rattle.std.proofs.Common.{arith}
use Rattle.later_laws.proofs.WithinLemmas.{results_within}
use Rattle.later_laws.proofs.laws.kept_results_are_bounded.Goals as goal

pub returns-clause-opens : goal.returns-clause-opens
returns-clause-opens c = λ opening. omega arith

pub returns-clause-stay : goal.returns-clause-stay
returns-clause-stay c = λ before after history run within. results_within before after history run within
