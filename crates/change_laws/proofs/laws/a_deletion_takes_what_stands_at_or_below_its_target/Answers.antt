use Rattle.change_laws.proofs.Facts.{deletion_takes, deletion_keeps}
use Rattle.change_laws.proofs.laws.a_deletion_takes_what_stands_at_or_below_its_target.Goals as goal

pub returns-clause-gone : goal.returns-clause-gone
returns-clause-gone c = deletion_takes

pub returns-clause-kept : goal.returns-clause-kept
returns-clause-kept c = deletion_keeps
