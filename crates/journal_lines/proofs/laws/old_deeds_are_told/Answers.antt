use Rattle.journal_lines.proofs.SpelledLemmas.{unmarked_told}
use Rattle.journal_lines.proofs.laws.old_deeds_are_told.Goals as goal

pub returns : goal.returns
returns c = unmarked_told
