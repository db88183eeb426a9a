use Rattle.attribute_rules.proofs.AdmittedLemmas.{name_free}
use Rattle.attribute_rules.proofs.contents.wanted_in.Goals as goal

pub returns-clause-name : goal.returns-clause-name
returns-clause-name c =
    name_free c.args.ty c.args.members.now c.in_ok-copied_name.field-0 c.requires c.in_ok-copied_name.ensures.value
