use Rattle.std.specs.Prelude.{if◌then◌else◌}
use Rattle.std.proofs.Common.{Bool, sym, ap, ◌∙◌}
use Rattle.accepted_requests.specs.Entries.{without}
use Rattle.accepted_requests.proofs.list.LaterRequests.remove_if.Goals as goal

pub returns-then-goes : goal.returns-then-goes
returns-then-goes c =
    let old = c.args.self.now in
    c.remove.ensures ∙ sym (ap (λ (b : Bool). if b then without c.args.number old else old) c.if-goes.true)

pub returns-else-goes : goal.returns-else-goes
returns-else-goes c =
    let old = c.args.self.now in
    sym (ap (λ (b : Bool). if b then without c.args.number old else old) c.if-goes.false)
