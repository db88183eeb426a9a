use Rattle.std.proofs.Common.{ℕ, List, refl, sym, ap, ◌∙◌}
use Rattle.std.proofs.lemmas.Option.{same_Some}
use Rattle.accepted_requests.specs.Effects.{taken_up_if_room}
use Rattle.accepted_requests.proofs.AskedLemmas.{none_said}
use Rattle.accepted_requests.proofs.EffectLemmas.{acceptable_as, accepted_effect, gives_equal, none_accepted}
use Rattle.accepted_requests.proofs.list.LaterRequests.take_up.Goals as goal

pub returns-in_err-originator : goal.returns-in_err-originator
returns-in_err-originator c = rw c.from_residual.ensures (λ home who is. none_said _ _ (rw c.in_err-originator.was at is.originator))

pub returns-then-is_acceptable : goal.returns-then-is_acceptable
returns-then-is_acceptable c = λ home who is.
    let old = c.args.self.now in
    let request = c.args.request.now in
    let fits = sym (acceptable_as home old request c.args.asked.is_here c.args.asked.number c.is_acceptable.result c.is_acceptable.ensures is.here is.number) ∙ c.if-is_acceptable.true in
    let same = same_Some _ _ (rw c.in_ok-originator.was at is.originator) in
    let effect = taken_up_if_room old c.in_ok-originator.originator.now request c.args.moment in
    gives_equal c.accept_if_room.result old c.accept_if_room.new.self effect _
    (accepted_effect home who old c.args.moment request effect fits (ap (λ (o : List ℕ). taken_up_if_room old o request c.args.moment) same)) c.accept_if_room.ensures

pub returns-else-is_acceptable : goal.returns-else-is_acceptable
returns-else-is_acceptable c = λ home who is.
    let other = sym (acceptable_as home c.args.self.now c.args.request.now c.args.asked.is_here c.args.asked.number c.is_acceptable.result c.is_acceptable.ensures is.here is.number) ∙ c.if-is_acceptable.false in
    rw (sym (none_accepted home who c.args.self.now c.args.moment c.args.request.now other)) refl
