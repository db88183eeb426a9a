use Rattle.journal_lines.proofs.HeaderLemmas.{headers_spelled}
use Rattle.journal_lines.proofs.LineLemmas.{dated_spelled, deeds_spelled}
use Rattle.journal_lines.proofs.SpelledLemmas.{dated_begins, dated_read, deed_begins, deed_read, header_begins, header_read}
use Rattle.journal_lines.proofs.laws.what_is_read_is_spelled.Goals as goal

pub returns-clause-headers : goal.returns-clause-headers
returns-clause-headers c = record { read = header_read; spelled = header_begins }

pub returns-clause-dated : goal.returns-clause-dated
returns-clause-dated c = record { read = dated_read; spelled = λ dated text. dated_begins text dated }

pub returns-clause-deeds : goal.returns-clause-deeds
returns-clause-deeds c = record { read = deed_read; spelled = λ dated text. deed_begins text dated }

pub returns-clause-header_lines : goal.returns-clause-header_lines
returns-clause-header_lines c = headers_spelled

pub returns-clause-dated_lines : goal.returns-clause-dated_lines
returns-clause-dated_lines c = dated_spelled

pub returns-clause-deed_lines : goal.returns-clause-deed_lines
returns-clause-deed_lines c = deeds_spelled
