use Rattle.refusal_reasons.proofs.PrintedLemmas.{all_printed}
use Rattle.refusal_reasons.proofs.laws.what_is_told_is_printed.Goals as goal

pub returns : goal.returns
returns c = all_printed
