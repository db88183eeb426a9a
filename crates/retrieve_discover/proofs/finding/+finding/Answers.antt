use Rattle.std.proofs.Common.{◌≡◌, ◌≤◌, ◌<◌, ◌++◌, List, Some, None, true, length, take, refl, sym, ap, ◌∙◌, subst, arith, rules}
use Rattle.std.specs.Prelude.{slice_get}
use Rattle.std.specs.Str.{IsUtf8}
use Rattle.m2m_value.specs.Data.{Data}
use Rattle.tree_model.specs.Tree.{at, children_of, has, number_at}
use Rattle.tree_model.proofs.TreeLemmas.{at_has}
use Rattle.addressing.specs.Names.{structured_of}
use Rattle.retrieve_discover.specs.Descendants.{below}
use Rattle.retrieve_discover.specs.Findings.{address, is_found}
use Rattle.retrieve_discover.proofs.PathLemmas.{above_child, path_down}
use Rattle.retrieve_discover.proofs.TakeLemmas.{take-short}
use Rattle.retrieve_discover.proofs.WalkLemmas.{drop_none, kept, kept_all, kept_leaf, kept_more, kept_one, kept_start, kids_past, one_fits}
use Rattle.retrieve_discover.proofs.finding.+finding.Goals as goal

pub find_below-loop-k-init : goal.find_below-loop-k-init
find_below-loop-k-init g t c =
    let w = c.args.wanted.now in
    let nodes = g.T.Tree.nodes w.tree.now in
    record {
      told = kept_start (address w.by_id nodes) (is_found w.asker.now.home nodes w.asker.now.originator w.filter.now) w.limit nodes c.args.parent c.args.found.now.items c.requires.tree;
      room = c.requires.room;
      path = refl;
      known = c.requires.known;
    }

pub find_below-loop-k-preserved : goal.find_below-loop-k-preserved
find_below-loop-k-preserved g t c =
    let w = c.args.wanted.now in
    let nodes = g.T.Tree.nodes w.tree.now in
    let show = address w.by_id nodes in
    let test = is_found w.asker.now.home nodes w.asker.now.originator w.filter.now in
    let kid : slice_get (children_of c.args.parent nodes) c.loop-k.k ≡ Some c.in-Some.child.now = sym c.in-Some.ensures.value in
    let all : List Data = take w.limit (c.args.found.now.items ++ kept show test (below c.args.parent nodes)) in
    record {
      told = kept_more show test w.limit nodes (children_of c.args.parent nodes) c.loop-k.k c.in-Some.child.now c.loop-k.found.items c.visit.new.found.items all kid c.in_ok-visit-in-Some.ensures.found c.loop-k.invariant.told;
      room = subst (λ (ds : List Data). length ds ≤ w.limit) (sym c.in_ok-visit-in-Some.ensures.found) (take-short w.limit _);
      path = c.in_ok-visit-in-Some.ensures.path ∙ c.loop-k.invariant.path;
      known = c.in_ok-visit-in-Some.ensures.known;
    }

-- no child is left
pub find_below-returns-in-None-clause-found : goal.find_below-returns-in-None-clause-found
find_below-returns-in-None-clause-found g t c =
    let w = c.args.wanted.now in
    let nodes = g.T.Tree.nodes w.tree.now in
    let show = address w.by_id nodes in
    let test = is_found w.asker.now.home nodes w.asker.now.originator w.filter.now in
    let kids = children_of c.args.parent nodes in
    kept_all show test w.limit nodes kids c.loop-k.k c.loop-k.found.items _ (drop_none kids c.loop-k.k (sym c.in-None.ensures.value)) c.loop-k.invariant.room c.loop-k.invariant.told

pub find_below-returns-clause-found : goal.find_below-returns-clause-found
find_below-returns-clause-found g t c =
    let w = c.args.wanted.now in
    let nodes = g.T.Tree.nodes w.tree.now in
    let show = address w.by_id nodes in
    let test = is_found w.asker.now.home nodes w.asker.now.originator w.filter.now in
    let past : length nodes ≤ c.loop-k.k = omega arith in
    kept_all show test w.limit nodes (children_of c.args.parent nodes) c.loop-k.k c.loop-k.found.items _ (kids_past nodes c.args.parent c.loop-k.k past) c.loop-k.invariant.room c.loop-k.invariant.told

pub find_below-visit-requires : goal.find_below-visit-requires
find_below-visit-requires g t c κs within =
    let nodes = g.T.Tree.nodes c.args.wanted.now.tree.now in
    let r = c.in-Some.child.now in
    let found : at r.number nodes ≡ Some r = c.in-Some.ensures.stands in
    let under : r.parent ≡ c.args.parent = c.in-Some.ensures.under in
    let parent : has r.parent nodes ≡ true = ap (λ n. has n nodes) under ∙ c.requires.parent in
    let path : c.loop-k.path.items ≡ structured_of r.parent nodes = c.loop-k.invariant.path ∙ c.requires.path ∙ ap (λ n. structured_of n nodes) (sym under) in
    let utf8 : IsUtf8 c.loop-k.path.items = subst IsUtf8 (sym c.loop-k.invariant.path) c.requires.utf8 in
    search rules

pub visit-find_below-requires : goal.visit-find_below-requires
visit-find_below-requires g t c κs within =
    let w = c.args.wanted.now in
    let nodes = g.T.Tree.nodes w.tree.now in
    let r = c.args.child.now in
    let show = address w.by_id nodes in
    let test = is_found w.asker.now.home nodes w.asker.now.originator w.filter.now in
    let there : has r.number nodes ≡ true = at_has r.number nodes r c.requires.child in
    let above : c.add_found.new.path.items ≡ structured_of r.parent nodes = c.in_ok-add_found.ensures.path ∙ c.requires.path in
    let path : c.go_down.new.path.items ≡ structured_of r.number nodes = path_down nodes r c.add_found.new.path.items c.go_down.new.path.items c.requires.tree c.requires.child c.requires.parent above c.in_ok-go_down.ensures.path in
    let utf8 : IsUtf8 c.go_down.new.path.items = c.in_ok-go_down.ensures.utf8 (subst IsUtf8 (sym c.in_ok-add_found.ensures.path) c.requires.utf8) in
    let room : length c.add_found.new.found.items ≤ w.limit = one_fits show test w.limit r c.args.found.now.items c.add_found.new.found.items c.requires.room c.in_ok-add_found.ensures.found in
    let higher : r.parent < r.number = above_child nodes r c.requires.tree c.requires.child in
    search rules

pub visit-returns-clause-found : goal.visit-returns-clause-found
visit-returns-clause-found g t c =
    let w = c.args.wanted.now in
    let nodes = g.T.Tree.nodes w.tree.now in
    let r = c.args.child.now in
    let show = address w.by_id nodes in
    let test = is_found w.asker.now.home nodes w.asker.now.originator w.filter.now in
    let all = c.in_ok-find_below.ensures.found ∙ ap (λ n. take w.limit (c.add_found.new.found.items ++ kept show test (below n nodes))) c.number-2.ensures.value in
    kept_one show test w.limit nodes r c.args.found.now.items c.add_found.new.found.items c.find_below.new.found.items c.in_ok-add_found.ensures.found all

-- nothing stands below it
pub visit-returns-in_default-clause-found : goal.visit-returns-in_default-clause-found
visit-returns-in_default-clause-found g t c =
    let w = c.args.wanted.now in
    let nodes = g.T.Tree.nodes w.tree.now in
    let r = c.args.child.now in
    let show = address w.by_id nodes in
    let test = is_found w.asker.now.home nodes w.asker.now.originator w.filter.now in
    let none : number_at 0 (children_of r.number nodes) ≡ None = ap (λ n. number_at 0 (children_of n nodes)) (sym c.number.ensures.value) ∙ sym c.kid.ensures.value ∙ c.in_default.is in
    let room : length c.add_found.new.found.items ≤ w.limit = one_fits show test w.limit r c.args.found.now.items c.add_found.new.found.items c.requires.room c.in_ok-add_found.ensures.found in
    kept_leaf show test w.limit nodes r c.args.found.now.items c.add_found.new.found.items c.requires.tree none room c.in_ok-add_found.ensures.found
