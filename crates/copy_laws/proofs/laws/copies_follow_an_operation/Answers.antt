use Rattle.copy_laws.proofs.FollowingLemmas.{operation_follows}
use Rattle.copy_laws.proofs.laws.copies_follow_an_operation.Goals as goal

pub returns : goal.returns
returns c = λ home peer before lead gone after stood keeps is op stands old.
    operation_follows home peer before after gone lead stood keeps op stands old
