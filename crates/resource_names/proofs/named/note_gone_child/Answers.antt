use Rattle.std.proofs.Common.{◌∙◌}
use Rattle.resource_names.proofs.named.note_gone_child.Goals as goal

pub returns-then-is_empty-clause-kept : goal.returns-then-is_empty-clause-kept
returns-then-is_empty-clause-kept c p name n found there = c.forget_names.ensures p name ∙ c.notes_child_gone.ensures.kept p name n found there
