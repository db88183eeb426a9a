use Rattle.std.proofs.Common.{Bool, sym, ap}
use Rattle.request_rules.proofs.OrderLemmas.{told_as}
use Rattle.accepted_requests.specs.Effects.{entry_effect}
use Rattle.accepted_requests.proofs.answering.entry_reply.Goals as goal

pub returns-then-is_own : goal.returns-then-is_own
returns-then-is_own c = λ requests.
    told_as c.own_reply.result _ _ (ap (λ (b : Bool). (entry_effect b requests c.args.request.now c.args.entry.now).reply) (sym c.if-is_own.true)) (c.own_reply.ensures requests)

pub returns-else-is_own : goal.returns-else-is_own
returns-else-is_own c = λ requests.
    told_as c.refuse.result _ _ (ap (λ (b : Bool). (entry_effect b requests c.args.request.now c.args.entry.now).reply) (sym c.if-is_own.false)) c.refuse.ensures
