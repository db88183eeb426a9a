use Rattle.entity_lines.proofs.SpelledLemmas.{head_begins, head_read, item_begins, item_read, resource_begins, resource_read}
use Rattle.entity_lines.proofs.laws.what_is_read_is_spelled.Goals as goal

pub returns-clause-heads : goal.returns-clause-heads
returns-clause-heads c = record { read = head_read; spelled = head_begins }

pub returns-clause-resources : goal.returns-clause-resources
returns-clause-resources c = record { read = resource_read; spelled = resource_begins }

pub returns-clause-items : goal.returns-clause-items
returns-clause-items c = record { read = item_read; spelled = item_begins }
