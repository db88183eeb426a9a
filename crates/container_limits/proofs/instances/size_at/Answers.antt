use Rattle.std.proofs.Common.{Option, option_to_list, ap, ◌∙◌}
use Rattle.std.specs.List.{sum_by}
use Rattle.resource_model.specs.Resource.{ResourceData}
use Rattle.tree_model.specs.Tree.{instance_size}
use Rattle.container_limits.proofs.instances.size_at.Goals as goal

pub returns : goal.returns
returns g c = c.size_if_any.ensures ∙ ap (λ (o : Option ResourceData). sum_by instance_size (option_to_list o)) c.instance_at.ensures
