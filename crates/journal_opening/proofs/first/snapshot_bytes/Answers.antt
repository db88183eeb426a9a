use Rattle.std.proofs.Common.{rules}
use Rattle.journal_opening.proofs.first.snapshot_bytes.Goals as goal

pub returns-clause-snapshot : goal.returns-clause-snapshot
returns-clause-snapshot g c = record { text = c.in_ok-text.text.items; spells = c.in_ok-text.ensures.spells; rest = search rules }
