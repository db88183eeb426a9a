use Rattle.std.proofs.Common.{rules, ◌≡◌, None, Some, subst}
use Rattle.workers.specs.Gate.{Guards, door_tells}
use Rattle.workers.proofs.GateLemmas.{guards-enough}
use Rattle.workers.proofs.gate.Gate.next.Goals as goal

pub invariant_of-self : goal.invariant_of-self
invariant_of-self g c =
    let told = door_tells g.D.Door.opened g.D.Door.given g.D.Door.ended g.D.Door.faults in
    let now = told c.self.inside.door in
    let accept = g.J.Entrance.accept in
    let start = g.J.Entrance.start in
    let going : c.self.inside.ending ≡ None = search rules in
    let none : c.self.inside.left ≡ Some 0 = search rules in
    let kept : Guards accept start now c.self.inside.left None =
    subst (λ e. Guards accept start now c.self.inside.left e) going c.self.invariant in
    guards-enough accept c.self.inside.left start now kept none
