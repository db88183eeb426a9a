use Rattle.attribute_rules.proofs.KindLemmas.{updated_kinds}
use Rattle.attribute_rules.proofs.laws.updated_attributes_have_their_kinds.Goals as goal

pub returns : goal.returns
returns c = updated_kinds
