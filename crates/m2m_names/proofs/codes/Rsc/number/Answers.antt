use Rattle.std.proofs.Common.{ap, ◌∙◌}
use Rattle.m2m_names.specs.StatusCodes.{rsc_of_number}
use Rattle.m2m_names.proofs.StatusLemmas.{rsc_again}
use Rattle.m2m_names.proofs.codes.Rsc.number.Goals as goal

pub returns-clause-back : goal.returns-clause-back
returns-clause-back c = ap rsc_of_number c.row.ensures.number ∙ rsc_again c.args.self
