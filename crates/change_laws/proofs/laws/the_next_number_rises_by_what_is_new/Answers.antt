use Rattle.change_laws.proofs.ServedLemmas.{next_rises}
use Rattle.change_laws.proofs.laws.the_next_number_rises_by_what_is_new.Goals as goal

pub returns : goal.returns
returns c = next_rises
