use Rattle.cse_machine.proofs.OutcomeLemmas.{place_answers}
use Rattle.cse_machine.proofs.machine.turn_away.Goals as goal

-- the refusal of the place answers it
pub returns-in-Ok : goal.returns-in-Ok
returns-in-Ok g c =
    place_answers c.args.entity.now c.args.request.now c.args.fault _ c.requires.refused c.in-Ok.ensures
