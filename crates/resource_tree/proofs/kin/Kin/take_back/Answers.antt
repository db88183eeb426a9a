use Rattle.resource_tree.proofs.IndexLemmas.{kin_back}
use Rattle.resource_tree.proofs.kin.Kin.take_back.Goals as goal

pub returns : goal.returns
returns c = kin_back c.args.list.now c.args.resource.now c.row_of.result c.args.self.now _ c.requires.next c.row_of.ensures c.requires.kin (record { children = c.take.ensures.children; instances = c.take.ensures.instances; subs = c.take.ensures.subs; channels = c.take.ensures.channels; sums = c.take.ensures.sums })
