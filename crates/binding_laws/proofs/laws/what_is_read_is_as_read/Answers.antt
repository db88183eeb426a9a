use Rattle.binding_laws.proofs.AsReadLemmas.{bound_as_read, line_as_read}
use Rattle.binding_laws.proofs.laws.what_is_read_is_as_read.Goals as goal

pub returns-clause-message : goal.returns-clause-message
returns-clause-message c = bound_as_read

pub returns-clause-line : goal.returns-clause-line
returns-clause-line c = line_as_read
