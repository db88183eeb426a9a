use Rattle.create_delete.proofs.LeftLemmas.{keeps_all}
use Rattle.create_delete.proofs.RightCreateLemmas.{newest_filled}
use Rattle.create_delete.proofs.RightLemmas.{keeps_newest}
use Rattle.create_delete.proofs.guard.a_container_keeps_the_newest_that_fit.Goals as goal

pub returns-clause-always : goal.returns-clause-always
returns-clause-always c = keeps_all

pub returns-clause-updated : goal.returns-clause-updated
returns-clause-updated c = keeps_newest

pub returns-clause-filled : goal.returns-clause-filled
returns-clause-filled c = newest_filled
