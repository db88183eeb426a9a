use Rattle.resource_names.proofs.NameLemmas.{forgotten}
use Rattle.resource_names.proofs.named.forget_names.Goals as goal

pub returns : goal.returns
returns c p name = forgotten c.args.children.now c.remove-empty.new.self c.args.parent c.requires c.remove-empty.ensures.updates.0 p name
