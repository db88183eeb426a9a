use Rattle.entity_soundness.proofs.SoundnessLemmas.{passes, sound_from}
use Rattle.entity_soundness.proofs.laws.tests_decide_soundness.Goals as goal

pub returns-clause-passes : goal.returns-clause-passes
returns-clause-passes c = λ e s numbers. passes e s numbers

pub returns-clause-sound : goal.returns-clause-sound
returns-clause-sound c = λ e home well h follow. sound_from e home well h follow
