use Rattle.create_delete.proofs.RightLemmas.{told_stays_sound}
use Rattle.create_delete.proofs.guard.an_entity_stays_sound.Goals as goal

pub returns : goal.returns
returns c = told_stays_sound
