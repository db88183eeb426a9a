use Rattle.create_delete.proofs.GrownLemmas.{sound_grown}
use Rattle.create_delete.proofs.growth.an_entity_stays_sound_where_a_resource_joins.Goals as goal

pub returns : goal.returns
returns c = sound_grown
