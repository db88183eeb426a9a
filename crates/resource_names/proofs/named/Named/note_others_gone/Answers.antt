use Rattle.resource_names.proofs.NameLemmas.{named_left}
use Rattle.resource_names.proofs.named.Named.note_others_gone.Goals as goal

pub returns : goal.returns
returns c is = named_left c.args.list.now c.args.self.now _ c.let_go_children.ensures c.note_gone.ensures c.note_gone-2.ensures is
