use Rattle.std.proofs.Common.{◌≡◌, rules}
use Rattle.m2m_names.specs.Operations.{op_row, op_of_number}
use Rattle.m2m_names.proofs.LookupLemmas.{none_at}
use Rattle.m2m_names.proofs.OperationLemmas.{op_again}
use Rattle.m2m_names.proofs.operations.Op.from_number.Goals as goal

pub returns-clause-none : goal.returns-clause-none
returns-clause-none c =
    let found : c.find.result ≡ op_of_number c.args.n = search rules in
    none_at (λ op. (op_row op).number) op_of_number op_again c.args.n c.find.result found
