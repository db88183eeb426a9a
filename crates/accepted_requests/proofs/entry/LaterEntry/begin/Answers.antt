use Rattle.std.proofs.Common.{refl, ap, ◌∙◌}
use Rattle.accepted_requests.specs.Entries.{LaterEntryData}
use Rattle.accepted_requests.proofs.KeptLemmas.{begins, keeps_ready}
use Rattle.accepted_requests.proofs.entry.LaterEntry.begin.Goals as goal

pub invariant_of-self : goal.invariant_of-self
invariant_of-self c =
    let old = c.self.inside in
    keeps_ready old.originator old.accepted old.request _ old.has_run _ old.reply _ old.size _ c.self.invariant refl c.self.invariant.sized

pub returns-clause-request : goal.returns-clause-request
returns-clause-request c = c.replace.ensures.value ∙ ap (λ (e : LaterEntryData). e.request) c.self.view_is

pub returns-clause-begun : goal.returns-clause-begun
returns-clause-begun c =
    let old = c.self.inside in
    begins old.number old.originator old.accepted old.request _ old.has_run old.reply old.size c.args.self.now c.self.invariant c.self.view_is c.requires
    (c.replace.ensures.after ∙ c.no_request.ensures)
