use Rattle.std.proofs.Common.{◌∙◌}
use Rattle.journaled_cli.proofs.RunLemmas.{kept_same}
use Rattle.journaled_cli.proofs.observed.observe_runs.Goals as goal

pub returns : goal.returns
returns g c =
    let apart = c.into_parts-later.ensures in
    let again = c.with_recorder.ensures in
    kept_same _ _ (again.object ∙ (c.new.ensures ∙ apart.object)) (again.journal ∙ apart.journal) (again.pending ∙ apart.pending)
