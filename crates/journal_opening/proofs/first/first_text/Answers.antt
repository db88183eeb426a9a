use Rattle.std.proofs.Common.{◌<◌, sym, subst}
use Rattle.journal_lines.specs.Lines.{moment_bound}
use Rattle.journal_opening.proofs.FirstLemmas.{moment_short, opening_again}
use Rattle.journal_opening.proofs.first.first_text.Goals as goal

pub push_header-requires : goal.push_header-requires
push_header-requires c = subst (λ m. m < moment_bound) (sym c.event_moment.ensures) (moment_short c.args.reading)

pub returns-clause-opens : goal.returns-clause-opens
returns-clause-opens c = opening_again c.args.home.now c.args.reading
