use Rattle.later_replies.specs.Entries.{still_standing}
use Rattle.later_laws.proofs.GoingLemmas.{own_alone}
use Rattle.later_laws.proofs.HeardLemmas.{other_refused}
use Rattle.later_laws.proofs.TurnLemmas.{turn_comes}
use Rattle.later_laws.proofs.laws.an_accepted_request_is_shown_to_its_originator_alone.Goals as goal

pub returns-clause-comes : goal.returns-clause-comes
returns-clause-comes c = λ before after e t is. turn_comes before after e t is

pub returns-clause-own : goal.returns-clause-own
returns-clause-own c = λ before after e t reply is told.
    own_alone before.inner.home (still_standing is.moment is.left) is.moment e.event t.told e.outcome after.requests reply told (turn_comes before after e t is)

pub returns-clause-others : goal.returns-clause-others
returns-clause-others c = λ before after reading request told outcome t x is inner absent named other.
    let so = other_refused before.inner.home (still_standing is.moment is.left) after.requests is.moment request told t.told outcome x inner absent named other is.answered in
    (so.stays, so.told)
