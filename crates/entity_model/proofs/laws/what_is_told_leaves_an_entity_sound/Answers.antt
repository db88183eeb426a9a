use Rattle.entity_model.proofs.TellingLemmas.{sound_telling, nothing_told}
use Rattle.entity_model.proofs.laws.what_is_told_leaves_an_entity_sound.Goals as goal

pub returns-clause-sound : goal.returns-clause-sound
returns-clause-sound c = sound_telling

pub returns-clause-nothing : goal.returns-clause-nothing
returns-clause-nothing c = nothing_told
