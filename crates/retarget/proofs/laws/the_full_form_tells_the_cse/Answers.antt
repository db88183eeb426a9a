use Rattle.retarget.proofs.RouteLemmas.{full_form_tells}
use Rattle.retarget.proofs.laws.the_full_form_tells_the_cse.Goals as goal

pub returns : goal.returns
returns c = full_form_tells
