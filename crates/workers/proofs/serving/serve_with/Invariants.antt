use Rattle.workers.specs.Gate.{door_tells}
use Rattle.workers.proofs.serving.serve_with.Given as goal

-- what the door told, and how many are to be accepted
abbrev pub ghosts-serve_jobs : goal.ghosts-serve_jobs
ghosts-serve_jobs g a = record {
  start = door_tells g.D.Door.opened g.D.Door.given g.D.Door.ended g.D.Door.faults a.door;
  accept = a.accept;
}
