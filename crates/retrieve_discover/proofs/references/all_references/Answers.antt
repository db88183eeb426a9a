use Rattle.std.proofs.Common.{◌≡◌, ◌≤◌, ◌<◌, Some, None, drop, filter, length, sym, ap, ◌∙◌, subst, arith, rules}
use Rattle.std.specs.Prelude.{slice_get}
use Rattle.std.specs.Str.{IsUtf8}
use Rattle.std.proofs.lemmas.List.{take-map}
use Rattle.tree_model.specs.Tree.{children_of, has}
use Rattle.tree_model.proofs.TreeLemmas.{at_has}
use Rattle.addressing.specs.Names.{structured_of}
use Rattle.retrieve_discover.specs.Contents.{may_retrieve, reference}
use Rattle.retrieve_discover.specs.Findings.{most_listed}
use Rattle.retrieve_discover.proofs.WalkLemmas.{drop_none, kept_done, kept_full, kept_next, kids_past, one_fits}
use Rattle.retrieve_discover.proofs.references.all_references.Goals as goal

pub add_reference-requires-clause-parent : goal.add_reference-requires-clause-parent
add_reference-requires-clause-parent g c =
    let nodes = g.T.Tree.nodes c.args.look.now.tree.now in
    let under : c.in-Some.child.now.parent ≡ c.args.target.now.number = c.in-Some.ensures.under ∙ c.number.ensures.value in
    ap (λ n. has n nodes) under ∙ at_has c.args.target.now.number nodes c.args.target.now c.requires.target

pub add_reference-requires-clause-path : goal.add_reference-requires-clause-path
add_reference-requires-clause-path g c =
    let nodes = g.T.Tree.nodes c.args.look.now.tree.now in
    let under : c.in-Some.child.now.parent ≡ c.args.target.now.number = c.in-Some.ensures.under ∙ c.number.ensures.value in
    c.loop-k.invariant.path ∙ ap (λ n. structured_of n nodes) (sym under)

pub loop-k-init : goal.loop-k-init
loop-k-init g c =
    let look = c.args.look.now in
    record {
      told = search rules;
      room = search rules;
      path = search rules;
      utf8 = search rules;
      known = c.nothing-known.ensures look.asker.now.home (g.T.Tree.nodes look.tree.now) look.asker.now.originator;
    }

pub loop-k-preserved : goal.loop-k-preserved
loop-k-preserved g c =
    let look = c.args.look.now in
    let nodes = g.T.Tree.nodes look.tree.now in
    let show = reference look.by_id nodes in
    let test = may_retrieve look.asker.now.home nodes look.asker.now.originator in
    let kids = children_of c.args.target.now.number nodes in
    let r = c.in-Some.child.now in
    let kid : slice_get kids c.loop-k.k ≡ Some r = ap (λ n. slice_get (children_of n nodes) c.loop-k.k) (sym c.number.ensures.value) ∙ sym c.in-Some.ensures.value in
    let some : length c.loop-k.references.items < most_listed = omega arith in
    record {
      told = kept_next show test most_listed kids c.loop-k.k r c.loop-k.references.items c.add_reference.new.references.items _ kid c.in_ok-add_reference-in-Some.ensures.value c.loop-k.invariant.told;
      room = one_fits show test most_listed r c.loop-k.references.items c.add_reference.new.references.items some c.in_ok-add_reference-in-Some.ensures.value;
      path = c.in_ok-add_reference-in-Some.ensures.path ∙ c.loop-k.invariant.path;
      utf8 = subst IsUtf8 (sym c.in_ok-add_reference-in-Some.ensures.path) c.loop-k.invariant.utf8;
      known = c.in_ok-add_reference-in-Some.ensures.known;
    }

-- as many as are given
pub returns-then-len-ge-MOST_LISTED : goal.returns-then-len-ge-MOST_LISTED
returns-then-len-ge-MOST_LISTED g c =
    let look = c.args.look.now in
    let nodes = g.T.Tree.nodes look.tree.now in
    let show = reference look.by_id nodes in
    let test = may_retrieve look.asker.now.home nodes look.asker.now.originator in
    let kids = children_of c.args.target.now.number nodes in
    let full : most_listed ≤ length c.loop-k.references.items = omega arith in
    kept_full show test most_listed (drop c.loop-k.k kids) c.loop-k.references.items _ full c.loop-k.invariant.room c.loop-k.invariant.told
    ∙ take-map show most_listed (filter test kids)

-- no child is left
pub returns-in-None : goal.returns-in-None
returns-in-None g c =
    let look = c.args.look.now in
    let nodes = g.T.Tree.nodes look.tree.now in
    let show = reference look.by_id nodes in
    let test = may_retrieve look.asker.now.home nodes look.asker.now.originator in
    let kids = children_of c.args.target.now.number nodes in
    let none : slice_get kids c.loop-k.k ≡ None = ap (λ n. slice_get (children_of n nodes) c.loop-k.k) (sym c.number.ensures.value) ∙ sym c.in-None.ensures.value in
    kept_done show test most_listed kids c.loop-k.k c.loop-k.references.items _ (drop_none kids c.loop-k.k none) c.loop-k.invariant.room c.loop-k.invariant.told
    ∙ take-map show most_listed (filter test kids)

pub returns : goal.returns
returns g c =
    let look = c.args.look.now in
    let nodes = g.T.Tree.nodes look.tree.now in
    let show = reference look.by_id nodes in
    let test = may_retrieve look.asker.now.home nodes look.asker.now.originator in
    let kids = children_of c.args.target.now.number nodes in
    let past : length nodes ≤ c.loop-k.k = omega arith in
    kept_done show test most_listed kids c.loop-k.k c.loop-k.references.items _ (kids_past nodes c.args.target.now.number c.loop-k.k past) c.loop-k.invariant.room c.loop-k.invariant.told
    ∙ take-map show most_listed (filter test kids)
