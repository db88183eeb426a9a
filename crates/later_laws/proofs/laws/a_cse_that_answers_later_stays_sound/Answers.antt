use Rattle.later_laws.proofs.StaysLemmas.{opens_sound, stays_sound}
use Rattle.later_laws.proofs.laws.a_cse_that_answers_later_stays_sound.Goals as goal

pub returns-clause-opens : goal.returns-clause-opens
returns-clause-opens c = λ opening sound. opens_sound opening sound

pub returns-clause-stays : goal.returns-clause-stays
returns-clause-stays c = λ before after history sound run.
    let s = stays_sound history before after sound run in
    (s.sound, s.grew)
