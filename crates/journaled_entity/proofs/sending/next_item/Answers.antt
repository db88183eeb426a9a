use Rattle.std.proofs.Common.{ap, ◌∙◌}
use Rattle.journal_events.specs.Steps.{next_item}
use Rattle.journaled_entity.proofs.sending.next_item.Goals as goal

pub returns : goal.returns
returns g c = c.first_to_send.ensures ∙ ap next_item c.entity.view_is
