use Rattle.attribute_rules.proofs.KindLemmas.{created_kinds}
use Rattle.attribute_rules.proofs.laws.created_attributes_have_their_kinds.Goals as goal

pub returns : goal.returns
returns c = created_kinds
