use Rattle.std.proofs.Common.{sym}
use Rattle.attribute_rules.proofs.FaultLemmas.{con_named}
use Rattle.attribute_rules.proofs.admission.attribute_at.Goals as goal

pub returns-then-is_con : goal.returns-then-is_con
returns-then-is_con c = con_named c.args.key.now (sym c.if-is_con.ensures)
