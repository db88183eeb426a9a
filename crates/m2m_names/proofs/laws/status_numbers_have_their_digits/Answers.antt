use Rattle.m2m_names.proofs.StatusLemmas.{number_in_range, http_in_range}
use Rattle.m2m_names.proofs.laws.status_numbers_have_their_digits.Goals as goal

pub returns-clause-number : goal.returns-clause-number
returns-clause-number c = number_in_range

pub returns-clause-http : goal.returns-clause-http
returns-clause-http c = http_in_range
