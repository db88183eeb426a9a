use Rattle.copy_laws.proofs.RemovalLemmas.{removal_operates}
use Rattle.copy_laws.proofs.laws.removals_are_operations.Goals as goal

pub returns : goal.returns
returns c = λ home picks nodes formed kept. removal_operates home picks nodes formed kept
