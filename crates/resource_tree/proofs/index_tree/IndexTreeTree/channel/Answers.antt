use Rattle.std.proofs.Common.{List, ℕ, ap, ◌∙◌}
use Rattle.std.specs.List.{slice_get}
use Rattle.m2m_names.specs.declared.types.Ty.TheVariants.{PollingChannel}
use Rattle.resource_model.specs.Resource.{ResourceData}
use Rattle.tree_model.specs.Tree.{channel_of, is_kin}
use Rattle.resource_tree.proofs.IndexLemmas.{first_passes}
use Rattle.resource_tree.proofs.index_tree.IndexTreeTree.channel.Goals as goal

pub returns : goal.returns
returns c =
    c.kin_at.ensures ∙ ap (λ (ns : List ℕ). slice_get ns 0) (c.self.invariant.queues.types.channels c.args.parent)
    ∙ first_passes (is_kin PollingChannel c.args.parent) c.self.inside.list
    ∙ ap (λ (ns : List ResourceData). channel_of c.args.parent ns) c.self.view_is
