use Rattle.journal_lines.proofs.LineLemmas.{deeds_back}
use Rattle.journal_lines.proofs.laws.deeds_are_read_back.Goals as goal

pub returns : goal.returns
returns c = deeds_back
