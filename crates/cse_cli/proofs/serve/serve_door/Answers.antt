use Rattle.std.proofs.Common.{ℕ, List, Some, ap, subst, ◌∙◌}
use Rattle.m2m_io.specs.Told.{Tells}
use Rattle.workers.specs.Gate.{door_tells}
use Rattle.resource_model.specs.Home.{HomeData}
use Rattle.entity_model.specs.Opening.{opening}
use Rattle.cse_cli.proofs.ServeLemmas.{opens_starved, opens_none, opens_open}
use Rattle.cse_cli.proofs.serve.serve_door.Goals as goal

-- memory ran out before the door was opened
pub returns-in_default-clause-opens : goal.returns-in_default-clause-opens
returns-in_default-clause-opens g c = opens_starved c.now-reading.result c.now-reading.ensures

pub returns-in_default-opened-clause-opens : goal.returns-in_default-opened-clause-opens
returns-in_default-opened-clause-opens g c = opens_starved c.now-reading.result c.now-reading.ensures

pub returns-in_default-clone-clause-opens : goal.returns-in_default-clone-clause-opens
returns-in_default-clone-clause-opens g c = opens_starved c.now-reading.result c.now-reading.ensures

-- the door didn't open
pub returns-in-Err-clause-opens : goal.returns-in-Err-clause-opens
returns-in-Err-clause-opens g c = opens_none c.now-reading.result c.now-reading.ensures (record {
  opened = c.in-Err.ensures.err;
  given = c.open.ensures.given;
  ended = c.open.ensures.ended;
  fault = c.in-Err.ensures.faults.cause;
})

-- it opened, and was served
pub returns-clause-opens : goal.returns-clause-opens
returns-clause-opens g c =
    let opened = c.in_default-open.ensures in
    opens_open {between = door_tells g.D.Door.opened g.D.Door.given g.D.Door.ended g.D.Door.faults c.open.new.self} c.now-reading.result
    (c.in-Ok-opened.ensures ∙ ap (λ (h : HomeData). opening h c.now-reading.result) c.in-Ok.ensures) c.now-reading.ensures
    (subst (λ (at : List ℕ). Tells (λ _. Some at) (g.D.Door.opened c.args.door) (g.D.Door.opened c.open.new.self)) c.as_bytes.ensures.value opened.ok)
    opened.given opened.ended opened.faults.steady
    c.serve_entity.ensures.serves
