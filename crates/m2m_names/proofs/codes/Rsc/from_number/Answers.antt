use Rattle.std.proofs.Common.{◌∙◌, sym, refl}
use Rattle.m2m_names.proofs.StatusLemmas.{other_again}
use Rattle.m2m_names.proofs.codes.Rsc.from_number.Goals as goal

pub returns-in-None-clause-value : goal.returns-in-None-clause-value
returns-in-None-clause-value c = sym (other_again _ c.args.n refl (sym c.named.ensures ∙ c.in-None.is))
