use Rattle.later_lines.proofs.SpelledLemmas.{word_begins, word_read, words_spelled}
use Rattle.later_lines.proofs.laws.what_is_read_is_spelled.Goals as goal

pub returns-clause-words : goal.returns-clause-words
returns-clause-words c = record { read = word_read; spelled = λ word text. word_begins text word }

pub returns-clause-lines : goal.returns-clause-lines
returns-clause-lines c = words_spelled
