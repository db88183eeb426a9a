use Rattle.std.specs.Prelude.{nat_lt}
use Rattle.std.proofs.Common.{◌≡◌, ◌<◌, ◌-◌, ap, sym, ◌∙◌, arith}
use Rattle.tree_model.specs.Tree.{level_of}
use Rattle.entity_soundness.proofs.DepthLemmas.{less_deep_nowhere, less_deep_up}
use Rattle.entity_soundness.proofs.resources.+is_less_deep.Goals as goal

pub returns-in-Some : goal.returns-in-Some
returns-in-Some g t c =
    let nodes = g.T.Tree.nodes c.args.tree.now in
    let some : 0 < c.args.bound = omega (arith, c.if-bound-eq0.false) in
    c.is_less_deep.ensures ∙ ap (λ n. nat_lt (level_of n nodes) (c.args.bound - 1)) c.parent.ensures.value
    ∙ less_deep_up nodes c.args.number c.args.bound c.in-Some.resource.now c.get.ensures.tree (sym c.in-Some.ensures.value) some

pub returns-in-None : goal.returns-in-None
returns-in-None g t c =
    let nodes = g.T.Tree.nodes c.args.tree.now in
    let some : 0 < c.args.bound = omega (arith, c.if-bound-eq0.false) in
    sym (less_deep_nowhere nodes c.args.number c.args.bound c.get.ensures.tree (sym c.in-None.ensures.value) some)
