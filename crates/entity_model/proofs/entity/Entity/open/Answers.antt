use Rattle.std.proofs.Common.{subst}
use Rattle.resource_model.specs.Home.{IsHome}
use Rattle.entity_model.proofs.SoundLemmas.{sound_opened}
use Rattle.entity_model.proofs.entity.Entity.open.Goals as goal

pub invariant_of-result : goal.invariant_of-result
invariant_of-result g c = sound_opened c.args.home c.args.reading _ _ _ (subst IsHome c.home.view_is c.home.invariant) c.cut-moment.ensures c.in_ok-put_opening.ensures c.new.ensures
