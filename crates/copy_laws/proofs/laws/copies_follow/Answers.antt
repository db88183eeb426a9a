use Rattle.copy_laws.proofs.FollowingLemmas.{copies_follow}
use Rattle.copy_laws.proofs.laws.copies_follow.Goals as goal

pub returns : goal.returns
returns c = λ home peer before run after is none along. copies_follow home peer before run after none along
