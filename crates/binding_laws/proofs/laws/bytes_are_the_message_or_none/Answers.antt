use Rattle.binding_laws.proofs.OneMessageLemmas.{message_or_none}
use Rattle.binding_laws.proofs.laws.bytes_are_the_message_or_none.Goals as goal

pub returns : goal.returns
returns c = message_or_none
