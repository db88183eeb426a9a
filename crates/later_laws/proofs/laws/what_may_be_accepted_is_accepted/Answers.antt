use Rattle.later_replies.specs.Entries.{still_standing}
use Rattle.later_laws.proofs.GoingLemmas.{acceptance_adds}
use Rattle.later_laws.proofs.HeardLemmas.{acceptable_accepted}
use Rattle.later_laws.proofs.laws.what_may_be_accepted_is_accepted.Goals as goal

pub returns-clause-accepted : goal.returns-clause-accepted
returns-clause-accepted c = λ before after reading request told outcome t is inner status acceptable.
    acceptable_accepted before.inner.home (still_standing is.moment is.left) after.requests is.moment request told t.told outcome inner status acceptable is.answered

pub returns-clause-alone : goal.returns-clause-alone
returns-clause-alone c = λ before after e t x is has. acceptance_adds before after e t x is has
