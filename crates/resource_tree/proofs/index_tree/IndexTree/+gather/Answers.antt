use Rattle.std.proofs.Common.{◌≡◌, ◌<◌, ◌≤◌, length, true, sym, ◌∙◌, subst, arith, rules}
use Rattle.tree_model.specs.Tree.{children_of, has}
use Rattle.tree_model.proofs.ChildLemmas.{child_above, child_there, children_few, no_place}
use Rattle.tree_model.proofs.GatheringLemmas.{gathers_all, gathers_none, gathers_one, GathersUpTo}
use Rattle.resource_tree.proofs.index_tree.IndexTree.+gather.Goals as goal

pub loop-place-init : goal.loop-place-init
loop-place-init t c =
    let nodes = c.args.self.now in
    subst (GathersUpTo nodes c.args.number 0 c.args.numbers.now.items) (sym c.in_ok-push.ensures.items)
    (gathers_none nodes c.len-place-end.ensures.tree c.args.number c.requires c.args.numbers.now.items)

pub gather-requires : goal.gather-requires
gather-requires t c =
    let nodes = c.args.self.now in
    let tree = c.in-Some.ensures.tree in
    let lower : c.args.number < c.in-Some.kid = child_above nodes tree c.args.number c.loop-place.place c.in-Some.kid c.in-Some.ensures.value in
    let there : has c.in-Some.kid nodes ≡ true = child_there nodes tree c.args.number c.loop-place.place c.in-Some.kid c.in-Some.ensures.value in
    search rules

pub loop-place-preserved : goal.loop-place-preserved
loop-place-preserved t c =
    let nodes = c.args.self.now in
    gathers_one nodes c.in-Some.ensures.tree c.args.number c.requires c.args.numbers.now.items c.loop-place.place c.in-Some.kid _ _ c.in-Some.ensures.value c.loop-place.invariant c.in_ok-gather.ensures

pub returns-in_default : goal.returns-in_default
returns-in_default t c =
    let nodes = c.args.self.now in
    gathers_all nodes c.kid.ensures.tree c.args.number c.requires c.args.numbers.now.items c.loop-place.place _ (no_place c.loop-place.place (children_of c.args.number nodes) (sym c.in_default.is ∙ c.kid.ensures.value)) c.loop-place.invariant

pub returns : goal.returns
returns t c =
    let nodes = c.args.self.now in
    let few : length (children_of c.args.number nodes) ≤ length nodes = children_few c.args.number nodes in
    let all : c.len-place-end.result ≤ c.loop-place.place = c.loop-place-test.false in
    let is : c.len-place-end.result ≡ length nodes = c.len-place-end.ensures.value in
    gathers_all nodes c.len-place-end.ensures.tree c.args.number c.requires c.args.numbers.now.items c.loop-place.place _ (omega (arith, few, all, is)) c.loop-place.invariant
