use Rattle.std.proofs.Common.{◌≡◌, ◌≢◌, ℕ, List, [], IfOk, OnErr, sym, subst}
use Rattle.std.proofs.lemmas.Bool.{OnTrue_at}
use Rattle.tree_model.specs.Tree.{is_instance, instances_of}
use Rattle.tree_model.proofs.OrderLemmas.{tree_ascends, ascend_filter}
use Rattle.container_limits.proofs.OutsideLemmas.{gone_outside}
use Rattle.container_limits.proofs.evicting.gone.Goals as goal

pub returns-then-quiet-clause-value : goal.returns-then-quiet-clause-value
returns-then-quiet-clause-value g c =
    let nodes = g.T.Tree.nodes c.args.tree.now in
    let rs = instances_of c.args.container nodes in
    let is = gone_outside c.args.limits c.args.new_size c.args.moment rs c.outside_count-outside.result (ascend_filter (is_instance c.args.container) nodes (tree_ascends nodes c.requires.tree)) (OnTrue_at c.if-quiet.true c.requires.quiet) c.outside_count-outside.ensures in
    subst (λ (ns : List ℕ). IfOk c.oldest_numbers.result (λ v. v.items ≡ ns)) (sym is) c.oldest_numbers.ensures.value

pub returns-then-quiet-clause-memory : goal.returns-then-quiet-clause-memory
returns-then-quiet-clause-memory g c =
    let nodes = g.T.Tree.nodes c.args.tree.now in
    let rs = instances_of c.args.container nodes in
    let is = gone_outside c.args.limits c.args.new_size c.args.moment rs c.outside_count-outside.result (ascend_filter (is_instance c.args.container) nodes (tree_ascends nodes c.requires.tree)) (OnTrue_at c.if-quiet.true c.requires.quiet) c.outside_count-outside.ensures in
    subst (λ (ns : List ℕ). OnErr c.oldest_numbers.result (ns ≢ [])) (sym is) c.oldest_numbers.ensures.memory
