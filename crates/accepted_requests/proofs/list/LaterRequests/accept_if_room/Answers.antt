use Rattle.std.proofs.Common.{sym, subst, ◌∙◌}
use Rattle.entity_model.specs.Places.{refusal}
use Rattle.m2m_names.specs.declared.codes.Rsc.TheVariants.{NotAcceptable}
use Rattle.accepted_requests.specs.Effects.{ComesToLater, LaterEffect}
use Rattle.accepted_requests.proofs.EffectLemmas.{comes_alone, full_effect, room_effect}
use Rattle.accepted_requests.proofs.list.LaterRequests.accept_if_room.Goals as goal

pub accept-requires-clause-room : goal.accept-requires-clause-room
accept-requires-clause-room c = sym c.is_full.ensures ∙ c.if-is_full.false

pub returns-then-is_full : goal.returns-then-is_full
returns-then-is_full c =
    let old = c.args.self.now in
    let full = full_effect old c.args.originator.now c.args.request.now c.args.moment (sym c.is_full.ensures ∙ c.if-is_full.true) in
    subst (λ (x : LaterEffect). ComesToLater c.refuse.result old old x) full
    (comes_alone c.refuse.result old (refusal c.args.request.now NotAcceptable) c.refuse.ensures)

pub returns-else-is_full : goal.returns-else-is_full
returns-else-is_full c =
    let old = c.args.self.now in
    let room = room_effect old c.args.originator.now c.args.request.now c.args.moment (sym c.is_full.ensures ∙ c.if-is_full.false) in
    subst (λ (x : LaterEffect). ComesToLater c.accept.result old c.accept.new.self x) room c.accept.ensures
