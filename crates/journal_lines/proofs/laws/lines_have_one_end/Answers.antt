use Rattle.journal_lines.proofs.LineLemmas.{inner_moment, inner_word}
use Rattle.journal_lines.proofs.laws.lines_have_one_end.Goals as goal

pub returns : goal.returns
returns c = λ moment deed short. (inner_moment moment, inner_word deed)
