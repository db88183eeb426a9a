use Rattle.std.proofs.Common.{ℕ, List, Option, IfSome, true, ◌≡◌, ap, sym, ◌∙◌, subst}
use Rattle.resource_model.specs.Resource.{ResourceData}
use Rattle.tree_model.specs.Tree.{is_tree}
use Rattle.subscription_match.specs.Watching.{by_number, subs_under}
use Rattle.subscription_match.proofs.WatchingLemmas.{watched_by}
use Rattle.subscription_match.proofs.watching.over_watching.Goals as goal

pub returns-clause-all : goal.returns-clause-all
returns-clause-all g c =
    let nodes = g.T.Tree.nodes c.args.tree.now in
    let tree = subst (λ (o : Option ℕ). IfSome o (λ _. is_tree nodes ≡ true)) c.unless_same.ensures c.of-2.ensures.tree in
    ap (λ (rs : List ResourceData). by_number rs c.of-2.result) c.of.ensures.all
    ∙ ap (by_number (subs_under c.args.own nodes)) (c.of-2.ensures.all ∙ ap (λ (o : Option ℕ). subs_under o nodes) c.unless_same.ensures)
    ∙ sym (watched_by c.args.own c.args.above nodes c.of.ensures.tree tree)
