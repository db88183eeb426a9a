use Rattle.std.proofs.Common.{sym}
use Rattle.retrieve_discover.proofs.AskedLemmas.{no_label}
use Rattle.retrieve_discover.proofs.conditions.is_asked.Goals as goal

pub returns-in-None : goal.returns-in-None
returns-in-None c = sym (no_label c.args.asked.now.lbl c.args.value.now (sym c.in-None.ensures.value))
