use Rattle.entity_model.proofs.SoundLemmas.{one_base}
use Rattle.entity_model.proofs.laws.a_sound_entity_has_one_base.Goals as goal

pub returns : goal.returns
returns c = one_base
