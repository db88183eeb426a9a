use Rattle.std.proofs.Common.{◌≡◌, ◌++◌, ◌∷◌, [], refl, subst, rules}
use Rattle.turn_desk.specs.Seats.{known_to}
use Rattle.workers.specs.Gate.{door_tells}
use Rattle.workers.specs.Jobs.{known_to_all}
use Rattle.workers.specs.Shares.{AddUpTo, HasNone}
use Rattle.workers.proofs.JobsLemmas.{front_of, last_of, known_popped, benches_popped}
use Rattle.workers.proofs.ServingLemmas.{ends_shared}
use Rattle.workers.proofs.serving.serve_with.Goals as goal

-- the jobs but the last, and the last, have no entries yet
pub serve_jobs-requires-clause-fresh : goal.serve_jobs-requires-clause-fresh
serve_jobs-requires-clause-fresh g c κs within =
    let popped : c.in-Ok.jobs.items ≡ c.pop.new.self.items ++ c.in-Some.beside ∷ [] = search rules in
    front_of HasNone (known_to_all c.pop.new.self.items) (known_to c.in-Some.beside.seat)
    (known_popped c.pop.new.self.items c.in-Some.beside popped) c.in-Ok.ensures.fresh

pub serve_jobs-requires-clause-fresh_beside : goal.serve_jobs-requires-clause-fresh_beside
serve_jobs-requires-clause-fresh_beside g c κs within =
    let popped : c.in-Ok.jobs.items ≡ c.pop.new.self.items ++ c.in-Some.beside ∷ [] = search rules in
    last_of HasNone (known_to_all c.pop.new.self.items) (known_to c.in-Some.beside.seat)
    (known_popped c.pop.new.self.items c.in-Some.beside popped) c.in-Ok.ensures.fresh

pub returns-in-Some : goal.returns-in-Some
returns-in-Some g c =
    let jobs = c.in-Ok.ensures in
    let served = c.serve_jobs.ensures in
    let popped : c.in-Ok.jobs.items ≡ c.pop.new.self.items ++ c.in-Some.beside ∷ [] = search rules in
    let known = known_popped c.pop.new.self.items c.in-Some.beside popped in
    record {
      ends = ends_shared g.O.Object.step c.args.desk.now.table.shared.table_id
          (door_tells g.D.Door.opened g.D.Door.given g.D.Door.ended g.D.Door.faults) (g.V.Service.attends c.args.service.now) g.N.Errand.does
          c.serve_jobs.result refl refl jobs.on
          (subst (λ l. AddUpTo (known_to c.args.seat) (known_to c.in-Ok.seat ∷ l)) known jobs.parts) jobs.same
          (benches_popped c.pop.new.self.items c.in-Some.beside popped jobs.benches)
          served.comes served.gains served.ok served.fault served.cause;
    }
