use Rattle.later_lines.proofs.SpelledLemmas.{no_deed}
use Rattle.later_lines.proofs.laws.words_are_no_deeds.Goals as goal

pub returns : goal.returns
returns c = no_deed
