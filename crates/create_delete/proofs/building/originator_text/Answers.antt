use Rattle.request_rules.proofs.NamingLemmas.{text_of_originator}
use Rattle.create_delete.proofs.building.originator_text.Goals as goal

pub returns-clause-utf8 : goal.returns-clause-utf8
returns-clause-utf8 c = text_of_originator c.args.originator.now c.from_slice.result c.requires c.from_slice.ensures
