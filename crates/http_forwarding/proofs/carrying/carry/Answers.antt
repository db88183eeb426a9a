use Rattle.std.proofs.Common.{ℕ, Global, Vec}
use Rattle.http_client_binding.specs.declared.target.Aim.TheVariants.{Peer}
use Rattle.http_forwarding.specs.Carries.{link_told}
use Rattle.http_forwarding.proofs.CarryLemmas.{nothing_sent, replied}
use Rattle.http_forwarding.proofs.carrying.carry.Goals as goal

pub returns-in_default : goal.returns-in_default
returns-in_default g c =
    nothing_sent c.args.request.now c.args.url.now Peer
    (link_told (g.L.Link.exchanges c.args.link.now) (g.L.Link.faults c.args.link.now))

pub returns-in-Ok-send_request : goal.returns-in-Ok-send_request
returns-in-Ok-send_request g c =
    replied (λ (answer : Vec ℕ Global). answer.items) c.in-Ok-send_request.answer c.in-Ok.rqi c.args.request.now.rqi
    c.carried_by.result c.args.request.now c.args.url.now Peer
    (link_told (g.L.Link.exchanges c.args.link.now) (g.L.Link.faults c.args.link.now))
    (link_told (g.L.Link.exchanges c.send_request.new.link) (g.L.Link.faults c.send_request.new.link))
    c.in-Ok-send_request.ensures c.in-Ok.ensures.value c.carried_by.ensures
