use Rattle.std.proofs.Common.{inl, inr, sym, ap, ◌∙◌}
use Rattle.m2m_names.specs.declared.operations.Op.{Op}
use Rattle.primitive_json.specs.declared.request.RequestParts.{RequestParts}
use Rattle.request_rules.proofs.OrderLemmas.{told_as}
use Rattle.accepted_requests.specs.Effects.{own_effect}
use Rattle.accepted_requests.proofs.answering.own_reply.Goals as goal

pub returns-in-Create : goal.returns-in-Create
returns-in-Create c = λ requests.
    let request = c.args.request.now in
    let op = sym (sym (ap (λ (r : RequestParts). r.op) c.parts.ensures.same) ∙ c.in-Create.is) in
    told_as c.refuse.result _ _ (ap (λ (o : Op). (own_effect o requests request c.args.entry.now).reply) op) c.refuse.ensures

pub returns-in-Retrieve : goal.returns-in-Retrieve
returns-in-Retrieve c = λ requests.
    let request = c.args.request.now in
    let op = sym (sym (ap (λ (r : RequestParts). r.op) c.parts.ensures.same) ∙ c.in-Retrieve.is) in
    told_as c.show.result _ _ (ap (λ (o : Op). (own_effect o requests request c.args.entry.now).reply) op) c.show.ensures

pub returns-in-Delete : goal.returns-in-Delete
returns-in-Delete c = λ requests.
    let request = c.args.request.now in
    let op = sym (sym (ap (λ (r : RequestParts). r.op) c.parts.ensures.same) ∙ c.in-Delete.is) in
    told_as c.reply_to.result _ _ (ap (λ (o : Op). (own_effect o requests request c.args.entry.now).reply) op) c.reply_to.ensures

pub returns-in-Update : goal.returns-in-Update
returns-in-Update c = λ requests.
    let request = c.args.request.now in
    let same = sym (ap (λ (r : RequestParts). r.op) c.parts.ensures.same) in
    elim c.in-Update.is [
      | inl is ↦ told_as c.refuse-in-Update.result _ _ (ap (λ (o : Op). (own_effect o requests request c.args.entry.now).reply) (sym (same ∙ is))) c.refuse-in-Update.ensures
      | inr is ↦ told_as c.refuse-in-Update.result _ _ (ap (λ (o : Op). (own_effect o requests request c.args.entry.now).reply) (sym (same ∙ is))) c.refuse-in-Update.ensures
    ]
