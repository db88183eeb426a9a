use Rattle.std.proofs.Common.{sym, ◌∙◌}
use Rattle.later_lines.proofs.KindLemmas.{kept_entry, on_any}
use Rattle.later_lines.proofs.keeping.accepted_value.Goals as goal

pub accepted_members-requires : goal.accepted_members-requires
accepted_members-requires c = (kept_entry c.args.entry.now (sym c.in_ok-is_kept.ensures.kept ∙ c.if-not-is_kept.false)).number

pub returns-clause-kinds : goal.returns-clause-kinds
returns-clause-kinds c = on_any _ c.shallow.result (c.in_ok-is_kept.ensures.kinds c.if-not-is_kept.false)
