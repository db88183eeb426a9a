use Rattle.cse_machine.proofs.OutcomeLemmas.{heard_answers}
use Rattle.cse_machine.proofs.machine.lead_elsewhere.Goals as goal

-- what comes of it by its address answers it
pub returns-in-Ok : goal.returns-in-Ok
returns-in-Ok g c =
    heard_answers c.args.entity.now _ c.args.request.now c.args.addr.now _ c.requires.heard c.requires.addressed
    c.in-Ok.ensures.gives.outcome c.in-Ok.ensures.gives.after
