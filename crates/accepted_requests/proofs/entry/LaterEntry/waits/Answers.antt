use Rattle.std.proofs.Common.{ap, ◌∙◌}
use Rattle.accepted_requests.specs.Entries.{does_wait}
use Rattle.accepted_requests.proofs.KeptLemmas.{waits_until}
use Rattle.accepted_requests.proofs.entry.LaterEntry.waits.Goals as goal

pub returns : goal.returns
returns c = waits_until c.self.inside.has_run c.self.inside.reply ∙ ap does_wait c.self.view_is
