use Rattle.std.proofs.Common.{sym, ◌∙◌}
use Rattle.addressing.proofs.BaseLemmas.{child_of_first, child_of_none, without_any}
use Rattle.addressing.proofs.resolving.first_by_name.Goals as goal

pub returns-then-len-eq0 : goal.returns-then-len-eq0
returns-then-len-eq0 g c =
    sym (without_any c.args.name.now (g.T.Tree.nodes c.args.tree.now) (sym c.len.ensures.value ∙ c.if-len-eq0.true))

pub returns-in-None : goal.returns-in-None
returns-in-None g c = sym (child_of_none c.args.name.now (g.T.Tree.nodes c.args.tree.now) (sym c.in-None.ensures))

pub returns-in-Some : goal.returns-in-Some
returns-in-Some g c =
    c.number_by_name.ensures
    ∙ sym (child_of_first c.args.name.now (g.T.Tree.nodes c.args.tree.now) c.in-Some.base.now c.len.ensures.tree (sym c.in-Some.ensures))
