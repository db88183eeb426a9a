use Rattle.std.proofs.Common.{ap, ◌∙◌}
use Rattle.accepted_requests.proofs.KeptLemmas.{size_kept}
use Rattle.accepted_requests.specs.Sizes.{result_size}
use Rattle.accepted_requests.proofs.entry.LaterEntry.result_size.Goals as goal

pub returns : goal.returns
returns c =
    let e = c.self.inside in
    size_kept e.originator e.accepted e.request e.has_run e.reply e.size c.self.invariant ∙ ap result_size c.self.view_is
