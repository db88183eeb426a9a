use Rattle.std.proofs.Common.{ap, ◌∙◌}
use Rattle.accepted_requests.specs.Entries.{as_run}
use Rattle.accepted_requests.proofs.entry.as_run.Goals as goal

pub returns : goal.returns
returns c = c.of.ensures ∙ ap as_run (c.into_parts-parts.ensures.same ∙ c.in_ok-copy.ensures)
