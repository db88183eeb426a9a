use Rattle.std.proofs.Common.{sym, ◌∙◌}
use Rattle.resource_tree.proofs.IndexLemmas.{kin_gone, kin_stays}
use Rattle.resource_tree.proofs.kin.Kin.remove.Goals as goal

pub returns-in-Some-clause-kin : goal.returns-in-Some-clause-kin
returns-in-Some-clause-kin c nodes tree has_it told =
    kin_gone nodes c.args.number c.in-Some.row c.args.self.now c.take.new.self tree (sym c.in-Some.is ∙ told) has_it (record { children = c.take.ensures.children; instances = c.take.ensures.instances; subs = c.take.ensures.subs; channels = c.take.ensures.channels; sums = c.take.ensures.sums })

pub returns-in-None-clause-kin : goal.returns-in-None-clause-kin
returns-in-None-clause-kin c nodes tree has_it told = kin_stays nodes c.args.number c.args.self.now (sym c.in-None.is ∙ told) has_it
