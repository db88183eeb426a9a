use Rattle.workers.specs.Jobs.{IsSeatedAt}
use Rattle.workers.specs.Rounds.{HasMadeRounds}
use Rattle.workers.proofs.serving.run_beside.Given as goal

abbrev pub invariant-loop : goal.invariant-loop
invariant-loop g l =
    IsSeatedAt g.O.Object.step l.desk.table.shared.table_id l.beside
    × HasMadeRounds g.N.Errand.does l.fn.beside l.beside
