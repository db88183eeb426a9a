use Rattle.resource_names.proofs.NameLemmas.{named_left}
use Rattle.resource_names.proofs.named.Named.note_child_gone.Goals as goal

pub returns-then-not-note_gone_child : goal.returns-then-not-note_gone_child
returns-then-not-note_gone_child c is = named_left c.args.list.now c.args.self.now _ c.note_gone_child.ensures.kept (λ name k found there. found) (λ name k found there. found) is

pub returns-else-not-note_gone_child : goal.returns-else-not-note_gone_child
returns-else-not-note_gone_child c is = named_left c.args.list.now c.args.self.now _ c.note_gone_child.ensures.kept (λ name k found there. found) (λ name k found there. found) is
