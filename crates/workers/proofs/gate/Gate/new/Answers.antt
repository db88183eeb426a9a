use Rattle.workers.specs.Gate.{door_tells}
use Rattle.workers.proofs.GateLemmas.{guards-start}
use Rattle.workers.proofs.gate.Gate.new.Goals as goal

pub invariant_of-result : goal.invariant_of-result
invariant_of-result g c =
    let told = door_tells g.D.Door.opened g.D.Door.given g.D.Door.ended g.D.Door.faults in
    guards-start g.J.Entrance.accept c.args.accept g.J.Entrance.start (told c.args.door) c.requires.start c.requires.accept
