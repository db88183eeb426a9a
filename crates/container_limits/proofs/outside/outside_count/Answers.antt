use Rattle.std.proofs.Common.{◌-◌, length, drop, option_to_list, sym, ap, ◌∙◌}
use Rattle.std.specs.Option.{option_map_or}
use Rattle.tree_model.specs.Tree.{instances_of}
use Rattle.container_limits.proofs.OutsideLemmas.{outside_counted}
use Rattle.container_limits.proofs.outside.outside_count.Goals as goal

pub returns-in-None : goal.returns-in-None
returns-in-None g c =
    let rs = instances_of c.args.container (g.T.Tree.nodes c.args.tree.now) in
    let is = c.excess.ensures ∙ ap (λ n. option_map_or (λ most. n - (most - length (option_to_list c.args.new_size))) c.args.limits.mni 0) c.instance_count.ensures in
    outside_counted c.args.limits c.args.new_size rs c.in-None.is ∙ ap (λ n. drop n rs) (sym is)
