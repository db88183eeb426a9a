use Rattle.std.proofs.Common.{rules, ◌≡◌, ℕ, ◌+◌, Bool, true, None, Some, sym, subst}
use Rattle.m2m_io.specs.Told.{Tells}
use Rattle.workers.specs.Gate.{Guards, IsOneLess, door_tells}
use Rattle.workers.proofs.GateLemmas.{guards-more, guards-over, guards-fault}
use Rattle.workers.proofs.gate.Gate.take.Goals as goal

pub invariant_of-self : goal.invariant_of-self
invariant_of-self g c =
    let told = door_tells g.D.Door.opened g.D.Door.given g.D.Door.ended g.D.Door.faults in
    let before = told c.self.inside.door in
    let now = told c.next.new.self in
    let accept = g.J.Entrance.accept in
    let start = g.J.Entrance.start in
    let going : c.self.inside.ending ≡ None = search rules in
    let left : c.args.self.now.left ≡ c.self.inside.left = search rules in
    let less : IsOneLess c.self.inside.left c.args.left = subst (λ l. IsOneLess l c.args.left) left c.requires.less in
    let kept : Guards accept start before c.self.inside.left None =
    subst (λ e. Guards accept start before c.self.inside.left e) going c.self.invariant in
    let next = c.in-Ok-Some.ensures in
    let some : c.in-Ok-Some.field-0 ≡ Some c.in-Ok-Some.conn = search rules in
    let given : Tells (λ k. k + 1) before.given now.given =
    subst (λ o. Tells (elim o as (λ _. ℕ → ℕ) [ None ↦ λ k. k | Some conn ↦ λ k. k + 1 ]) before.given now.given) some next.given in
    let ended : Tells (λ k. k) before.ended now.ended =
    subst (λ o. Tells (elim o as (λ _. Bool → Bool) [ None ↦ λ _. true | Some conn ↦ λ k. k ]) before.ended now.ended) some next.ended in
    subst (λ e. Guards accept start now c.args.left e) (sym going)
    (guards-more accept c.self.inside.left c.args.left start before now kept less given next.opened ended next.faults.steady)

pub invariant_of-self-in-Ok-None : goal.invariant_of-self-in-Ok-None
invariant_of-self-in-Ok-None g c =
    let told = door_tells g.D.Door.opened g.D.Door.given g.D.Door.ended g.D.Door.faults in
    let before = told c.self.inside.door in
    let now = told c.next.new.self in
    let accept = g.J.Entrance.accept in
    let start = g.J.Entrance.start in
    let left = c.self.inside.left in
    let going : c.self.inside.ending ≡ None = search rules in
    let kept : Guards accept start before left None = subst (λ e. Guards accept start before left e) going c.self.invariant in
    let next = c.in-Ok-None.ensures in
    let none : c.in-Ok-None.field-0 ≡ None = c.in-Ok-None.field-0-is in
    let given : Tells (λ k. k) before.given now.given =
    subst (λ o. Tells (elim o as (λ _. ℕ → ℕ) [ None ↦ λ k. k | Some conn ↦ λ k. k + 1 ]) before.given now.given) none next.given in
    let ended : Tells (λ _. true) before.ended now.ended =
    subst (λ o. Tells (elim o as (λ _. Bool → Bool) [ None ↦ λ _. true | Some conn ↦ λ k. k ]) before.ended now.ended) none next.ended in
    guards-over accept left start before now kept given next.opened ended next.faults.steady

pub invariant_of-self-in-Err : goal.invariant_of-self-in-Err
invariant_of-self-in-Err g c =
    let told = door_tells g.D.Door.opened g.D.Door.given g.D.Door.ended g.D.Door.faults in
    let before = told c.self.inside.door in
    let now = told c.next.new.self in
    let accept = g.J.Entrance.accept in
    let start = g.J.Entrance.start in
    let left = c.self.inside.left in
    let going : c.self.inside.ending ≡ None = search rules in
    let kept : Guards accept start before left None = subst (λ e. Guards accept start before left e) going c.self.invariant in
    let next = c.in-Err.ensures in
    guards-fault accept left start before now kept next.given next.opened next.ended next.faults.cause
