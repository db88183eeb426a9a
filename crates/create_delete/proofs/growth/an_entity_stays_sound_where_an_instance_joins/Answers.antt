use Rattle.create_delete.proofs.JoiningLemmas.{filling_sound}
use Rattle.create_delete.proofs.growth.an_entity_stays_sound_where_an_instance_joins.Goals as goal

pub returns : goal.returns
returns c = filling_sound
