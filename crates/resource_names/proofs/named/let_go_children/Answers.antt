use Rattle.std.proofs.Common.{◌∙◌}
use Rattle.resource_names.proofs.named.let_go_children.Goals as goal

pub returns-then-lets_names_go : goal.returns-then-lets_names_go
returns-then-lets_names_go c p name n found there = c.forget_names.ensures p name ∙ c.lets_names_go.ensures.kept p name n found there
