use Rattle.m2m_names.specs.Types.{ty_row, ty_of_number}
use Rattle.m2m_names.proofs.LookupLemmas.{none_at}
use Rattle.m2m_names.proofs.TypeLemmas.{ty_again}
use Rattle.m2m_names.proofs.types.Ty.from_number.Goals as goal

pub returns-clause-none : goal.returns-clause-none
returns-clause-none c = none_at (λ ty. (ty_row ty).number) ty_of_number ty_again c.args.n c.find.result c.find.ensures
