use Rattle.create_delete.proofs.UpdatedLemmas.{sound_updated}
use Rattle.create_delete.proofs.growth.an_entity_stays_sound_where_a_resource_is_updated.Goals as goal

pub returns : goal.returns
returns c = sound_updated
