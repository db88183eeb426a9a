use Rattle.std.proofs.Common.{ℕ, Global, Vec, ◌∙◌}
use Rattle.http_forwarding.specs.Carries.{link_told}
use Rattle.http_forwarding.proofs.CarryLemmas.{answered, nothing_sent, unanswered}
use Rattle.http_forwarding.proofs.sending.send_request.Goals as goal

pub returns-in_default : goal.returns-in_default
returns-in_default g c =
    nothing_sent c.args.request.now c.args.url.now c.args.aim
    (link_told (g.L.Link.exchanges c.args.link.now) (g.L.Link.faults c.args.link.now))

pub returns-in-Ok-exchange : goal.returns-in-Ok-exchange
returns-in-Ok-exchange g c =
    answered (λ (answer : Vec ℕ Global). answer.items) c.exchange.new.reply c.in-Ok-exchange.field-0 c.args.request.now c.args.url.now c.args.aim
    c.host_of.result.now c.deref.result.now c.new-answer.result.items
    (link_told (g.L.Link.exchanges c.args.link.now) (g.L.Link.faults c.args.link.now))
    (link_told (g.L.Link.exchanges c.exchange.new.self) (g.L.Link.faults c.exchange.new.self))
    c.host_of.ensures (c.deref.ensures.value ∙ c.in-Ok.ensures) c.new-answer.ensures.items
    c.in-Ok-exchange.ensures.ok c.in-Ok-exchange.ensures.faults

pub returns : goal.returns
returns g c =
    unanswered (λ (answer : Vec ℕ Global). answer.items) c.in-Err.fault c.args.request.now c.args.url.now c.args.aim
    c.host_of.result.now c.deref.result.now
    (link_told (g.L.Link.exchanges c.args.link.now) (g.L.Link.faults c.args.link.now))
    (link_told (g.L.Link.exchanges c.exchange.new.self) (g.L.Link.faults c.exchange.new.self))
    c.host_of.ensures (c.deref.ensures.value ∙ c.in-Ok.ensures)
    c.in-Err.ensures.fails c.in-Err.ensures.memory c.in-Err.ensures.faults
