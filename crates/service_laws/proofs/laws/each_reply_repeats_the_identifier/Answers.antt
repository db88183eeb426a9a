use Rattle.service_laws.proofs.RepeatLemmas.{each_repeats, of_kinds, rules_keep}
use Rattle.service_laws.proofs.laws.each_reply_repeats_the_identifier.Goals as goal

pub returns-clause-repeats : goal.returns-clause-repeats
returns-clause-repeats c = each_repeats

pub returns-clause-kinds : goal.returns-clause-kinds
returns-clause-kinds c = of_kinds

pub returns-clause-rules : goal.returns-clause-rules
returns-clause-rules c = rules_keep
