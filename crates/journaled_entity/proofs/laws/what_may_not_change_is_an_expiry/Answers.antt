use Rattle.journaled_entity.proofs.SendingLemmas.{kept_expiry_alone}
use Rattle.journaled_entity.proofs.laws.what_may_not_change_is_an_expiry.Goals as goal

pub returns : goal.returns
returns c = kept_expiry_alone
