use Rattle.request_rules.proofs.NamingLemmas.{text_of_originator}
use Rattle.request_rules.proofs.naming.new_ae_id.Goals as goal

pub returns-then-is_ae_id-clause-utf8 : goal.returns-then-is_ae_id-clause-utf8
returns-then-is_ae_id-clause-utf8 c = text_of_originator c.args.originator.now c.from_slice.result c.requires c.from_slice.ensures
