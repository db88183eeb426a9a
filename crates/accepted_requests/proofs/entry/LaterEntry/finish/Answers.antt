use Rattle.accepted_requests.proofs.KeptLemmas.{finishes, keeps_ready, was_run}
use Rattle.accepted_requests.proofs.entry.LaterEntry.finish.Goals as goal

pub invariant_of-self : goal.invariant_of-self
invariant_of-self c =
    let old = c.self.inside in
    keeps_ready old.originator old.accepted old.request _ old.has_run _ old.reply _ old.size _ c.self.invariant
    (was_run old.number old.originator old.accepted old.request old.has_run old.reply c.args.self.now c.self.view_is c.requires) c.content_size-self-inside.ensures

pub returns : goal.returns
returns c =
    let old = c.self.inside in
    finishes old.number old.originator old.accepted old.request c.args.request old.has_run old.reply c.put.new.kept c.args.told c.args.self.now c.self.view_is c.requires c.put.ensures
