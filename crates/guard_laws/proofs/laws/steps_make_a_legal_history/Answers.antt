use Rattle.guard_laws.proofs.Words.{refl}
use Rattle.guard_laws.proofs.HistoryLemmas.{one_more, sound_after}
use Rattle.guard_laws.proofs.laws.steps_make_a_legal_history.Goals as goal

pub returns-clause-begins : goal.returns-clause-begins
returns-clause-begins c = λ opening. refl

pub returns-clause-grows : goal.returns-clause-grows
returns-clause-grows c = one_more

pub returns-clause-sound : goal.returns-clause-sound
returns-clause-sound c = λ opening e history sound run. sound_after history opening e sound run
