use Rattle.copy_changes.proofs.UpdatingLemmas.{unfollowed_stays}
use Rattle.copy_changes.proofs.laws.what_is_not_followed_stays.Goals as goal

pub returns : goal.returns
returns c = λ home e es r sorted kinds unfollowed attr other. unfollowed_stays home e es r sorted kinds unfollowed attr other
