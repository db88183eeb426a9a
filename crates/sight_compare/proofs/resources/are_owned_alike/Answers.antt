use Rattle.policy_eval.specs.Originators.{is_same}
use Rattle.sight_compare.proofs.SeenLemmas.{owned, unowned}
use Rattle.sight_compare.proofs.resources.are_owned_alike.Goals as goal

pub returns-then-owns : goal.returns-then-owns
returns-then-owns g c =
    owned c.args.left.now.originator.now c.args.right.now.originator.now
    (is_same c.args.left.now.home.now c.args.left.now.originator.now c.args.resource.now.owner)
    (is_same c.args.right.now.home.now c.args.right.now.originator.now c.args.other.now.owner)
    c.owns.result c.owns-then-owns.result c.requires c.owns.ensures c.if-owns.true c.owns-then-owns.ensures

pub returns-else-owns : goal.returns-else-owns
returns-else-owns g c =
    unowned c.args.left.now.originator.now c.args.right.now.originator.now
    (is_same c.args.left.now.home.now c.args.left.now.originator.now c.args.resource.now.owner)
    (is_same c.args.right.now.home.now c.args.right.now.originator.now c.args.other.now.owner)
    c.owns.result c.owns-else-owns.result c.requires c.owns.ensures c.if-owns.false c.owns-else-owns.ensures
