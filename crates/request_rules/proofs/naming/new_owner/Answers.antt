use Rattle.request_rules.proofs.NamingLemmas.{text_of_originator}
use Rattle.request_rules.proofs.naming.new_owner.Goals as goal

pub returns-else-number-clause-utf8 : goal.returns-else-number-clause-utf8
returns-else-number-clause-utf8 c = text_of_originator c.args.originator.now c.from_slice.result c.requires c.from_slice.ensures
