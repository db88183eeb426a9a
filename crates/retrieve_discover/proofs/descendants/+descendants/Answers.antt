use Rattle.std.proofs.Common.{◌≡◌, ◌<◌, ◌≤◌, ◌-◌, Some, length, drop, sym, ap, ◌∙◌, arith, rules}
use Rattle.std.specs.Prelude.{slice_get}
use Rattle.tree_model.specs.Tree.{at, children_of}
use Rattle.retrieve_discover.specs.Contents.{may_retrieve, members, with_forest}
use Rattle.retrieve_discover.specs.Descendants.{cut_forest, forest_size}
use Rattle.retrieve_discover.proofs.ForestLemmas.{chain, ended, forest_of_by_kids, sizes, stopped, turned}
use Rattle.retrieve_discover.proofs.PathLemmas.{above_child}
use Rattle.retrieve_discover.proofs.WalkLemmas.{drop_none, kids_past}
use Rattle.retrieve_discover.proofs.descendants.+descendants.Goals as goal

pub add_descendants-loop-k-init : goal.add_descendants-loop-k-init
add_descendants-loop-k-init g t c =
    let look = c.args.look.now in
    let nodes = g.T.Tree.nodes look.tree.now in
    let show = members look.asker.now.home nodes in
    let all = sym (forest_of_by_kids (may_retrieve look.asker.now.home nodes look.asker.now.originator) c.args.parent nodes c.requires.tree) in
    record {
      shown = ap (λ f. with_forest show (cut_forest f c.args.left.now) c.args.members.now) all;
      left = ap (λ f. c.args.left.now - forest_size f) all;
      keys = λ h. h;
      known = c.requires.known;
    }

pub add_descendants-loop-k-preserved : goal.add_descendants-loop-k-preserved
add_descendants-loop-k-preserved g t c =
    let look = c.args.look.now in
    let nodes = g.T.Tree.nodes look.tree.now in
    let show = members look.asker.now.home nodes in
    let goes = may_retrieve look.asker.now.home nodes look.asker.now.originator in
    let kids = children_of c.args.parent nodes in
    let r = c.in-Some.child.now in
    let kid : slice_get kids c.loop-k.k ≡ Some r = sym c.in-Some.ensures.value in
    let some : 0 < c.loop-k.left = omega arith in
    record {
      shown = sym (turned goes show nodes kids c.loop-k.k c.loop-k.left c.add_child.new.left r c.loop-k.members c.add_child.new.members kid some c.in_ok-add_child-in-Some.ensures.left c.in_ok-add_child-in-Some.ensures.members) ∙ c.loop-k.invariant.shown;
      left = sym (sizes goes nodes kids c.loop-k.k c.loop-k.left c.add_child.new.left r kid c.in_ok-add_child-in-Some.ensures.left) ∙ c.loop-k.invariant.left;
      keys = λ h. c.in_ok-add_child-in-Some.ensures.keys (c.loop-k.invariant.keys h);
      known = c.in_ok-add_child-in-Some.ensures.known;
    }

pub add_descendants-returns-then-left-eq0-clause-members : goal.add_descendants-returns-then-left-eq0-clause-members
add_descendants-returns-then-left-eq0-clause-members g t c =
    let look = c.args.look.now in
    let nodes = g.T.Tree.nodes look.tree.now in
    let goes = may_retrieve look.asker.now.home nodes look.asker.now.originator in
    let left = chain goes nodes (drop c.loop-k.k (children_of c.args.parent nodes)) in
    (stopped goes (members look.asker.now.home nodes) left c.loop-k.left _ c.loop-k.members _ c.if-left-eq0.true c.loop-k.invariant.shown c.loop-k.invariant.left).0

pub add_descendants-returns-in-None-clause-members : goal.add_descendants-returns-in-None-clause-members
add_descendants-returns-in-None-clause-members g t c =
    let look = c.args.look.now in
    let nodes = g.T.Tree.nodes look.tree.now in
    let goes = may_retrieve look.asker.now.home nodes look.asker.now.originator in
    let kids = children_of c.args.parent nodes in
    (ended goes (members look.asker.now.home nodes) nodes kids c.loop-k.k c.loop-k.left _ c.loop-k.members _ (drop_none kids c.loop-k.k (sym c.in-None.ensures.value)) c.loop-k.invariant.shown c.loop-k.invariant.left).0

pub add_descendants-returns-in-None-clause-left : goal.add_descendants-returns-in-None-clause-left
add_descendants-returns-in-None-clause-left g t c =
    let look = c.args.look.now in
    let nodes = g.T.Tree.nodes look.tree.now in
    let goes = may_retrieve look.asker.now.home nodes look.asker.now.originator in
    let kids = children_of c.args.parent nodes in
    (ended goes (members look.asker.now.home nodes) nodes kids c.loop-k.k c.loop-k.left _ c.loop-k.members _ (drop_none kids c.loop-k.k (sym c.in-None.ensures.value)) c.loop-k.invariant.shown c.loop-k.invariant.left).1

pub add_descendants-returns-clause-members : goal.add_descendants-returns-clause-members
add_descendants-returns-clause-members g t c =
    let look = c.args.look.now in
    let nodes = g.T.Tree.nodes look.tree.now in
    let goes = may_retrieve look.asker.now.home nodes look.asker.now.originator in
    let kids = children_of c.args.parent nodes in
    let past : length nodes ≤ c.loop-k.k = omega arith in
    (ended goes (members look.asker.now.home nodes) nodes kids c.loop-k.k c.loop-k.left _ c.loop-k.members _ (kids_past nodes c.args.parent c.loop-k.k past) c.loop-k.invariant.shown c.loop-k.invariant.left).0

pub add_descendants-returns-clause-left : goal.add_descendants-returns-clause-left
add_descendants-returns-clause-left g t c =
    let look = c.args.look.now in
    let nodes = g.T.Tree.nodes look.tree.now in
    let goes = may_retrieve look.asker.now.home nodes look.asker.now.originator in
    let kids = children_of c.args.parent nodes in
    let past : length nodes ≤ c.loop-k.k = omega arith in
    (ended goes (members look.asker.now.home nodes) nodes kids c.loop-k.k c.loop-k.left _ c.loop-k.members _ (kids_past nodes c.args.parent c.loop-k.k past) c.loop-k.invariant.shown c.loop-k.invariant.left).1

pub add_descendants-add_child-requires : goal.add_descendants-add_child-requires
add_descendants-add_child-requires g t c κs within =
    let nodes = g.T.Tree.nodes c.args.look.now.tree.now in
    let r = c.in-Some.child.now in
    let found : at r.number nodes ≡ Some r = c.in-Some.ensures.stands in
    let under : r.parent ≡ c.args.parent = c.in-Some.ensures.under in
    let some : 0 < c.loop-k.left = omega arith in
    search rules

pub add_child-add_descendants-requires : goal.add_child-add_descendants-requires
add_child-add_descendants-requires g t c κs within =
    let nodes = g.T.Tree.nodes c.args.look.now.tree.now in
    let r = c.args.child.now in
    let higher : r.parent < r.number = above_child nodes r c.requires.tree c.requires.child in
    search rules
