use Rattle.later_lines.proofs.SpelledLemmas.{words_back}
use Rattle.later_lines.proofs.laws.words_are_read_back.Goals as goal

pub returns : goal.returns
returns c = words_back
