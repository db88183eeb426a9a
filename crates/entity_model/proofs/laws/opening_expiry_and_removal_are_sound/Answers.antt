use Rattle.entity_model.proofs.SoundLemmas.{sound_opening, sound_removed}
use Rattle.entity_model.proofs.TellingLemmas.{sound_swept}
use Rattle.entity_model.proofs.laws.opening_expiry_and_removal_are_sound.Goals as goal

pub returns-clause-opened : goal.returns-clause-opened
returns-clause-opened c = sound_opening

pub returns-clause-swept : goal.returns-clause-swept
returns-clause-swept c = sound_swept

pub returns-clause-removed : goal.returns-clause-removed
returns-clause-removed c = sound_removed
