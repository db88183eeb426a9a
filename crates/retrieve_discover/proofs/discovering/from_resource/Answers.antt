use Rattle.std.proofs.Common.{ℕ, List, ◌++◌, ap, sym, ◌∙◌, map, take}
use Rattle.m2m_value.specs.Data.{Data}
use Rattle.addressing.specs.Names.{structured_of}
use Rattle.tree_model.specs.Tree.{has}
use Rattle.tree_model.proofs.TreeLemmas.{at_has}
use Rattle.retrieve_discover.specs.Findings.{address, all_found}
use Rattle.retrieve_discover.proofs.discovering.from_resource.Goals as goal

pub find_below-requires-clause-parent : goal.find_below-requires-clause-parent
find_below-requires-clause-parent g c =
    let nodes = g.T.Tree.nodes c.args.wanted.now.tree.now in
    ap (λ n. has n nodes) c.number.ensures.value ∙ at_has c.args.target.now.number nodes c.args.target.now c.requires.target

pub find_below-requires-clause-path : goal.find_below-requires-clause-path
find_below-requires-clause-path g c =
    c.in_ok-path.ensures.value ∙ ap (λ n. structured_of n (g.T.Tree.nodes c.args.wanted.now.tree.now)) (sym c.number.ensures.value)

pub returns : goal.returns
returns g c =
    let w = c.args.wanted.now in
    let nodes = g.T.Tree.nodes w.tree.now in
    let found = λ (n : ℕ). map (address w.by_id nodes) (all_found w.asker.now.home nodes w.asker.now.originator w.filter.now n) in
    c.in_ok-find_below.ensures.found
    ∙ ap (λ (ds : List Data). take w.limit (ds ++ found c.number.result)) c.new-found.ensures.items
    ∙ ap (λ n. take w.limit (found n)) c.number.ensures.value

pub find_below-requires-clause-known : goal.find_below-requires-clause-known
find_below-requires-clause-known g c =
    let w = c.args.wanted.now in
    c.nothing-known.ensures w.asker.now.home (g.T.Tree.nodes w.tree.now) w.asker.now.originator
