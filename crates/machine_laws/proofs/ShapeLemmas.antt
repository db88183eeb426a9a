-- What an originator sees of a sound entity has the shape of that entity.
use Rattle.machine_laws.proofs.Words.{◌≡◌, List, sym, ap, ◌∙◌}
use Rattle.machine_laws.proofs.Terms.{ResourceData}
use Rattle.policy_laws.proofs.ShapeLemmas.{sight_shape}
use Rattle.machine_laws.specs.Sight.{EqualSightsHaveOneShape, SightHasItsShape, shape}

pub sight_has_shape : SightHasItsShape
sight_has_shape e o sound = ap (λ (ns : List ResourceData). record (shape o e) { nodes = ns }) (sight_shape e.home e.nodes o sound.tree)

pub one_shape : EqualSightsHaveOneShape
one_shape left right o sound sounds same =
    sym (sight_has_shape left o sound) ∙ ap (shape o) same ∙ sight_has_shape right o sounds
