use Rattle.std.proofs.Common.{ℕ, List}
use Rattle.resource_model.specs.Resource.{ResourceData}
use Rattle.tree_model.specs.Changes.{change_of}
use Rattle.subscription_match.specs.Matching.{own_of}
use Rattle.subscription_match.proofs.HeardLemmas.{heard_where_sought}
use Rattle.subscription_match.proofs.noting.add_told.Goals as goal

pub returns-clause-found : goal.returns-clause-found
returns-clause-found g c =
    let nodes : List ResourceData = g.T.Tree.nodes c.args.tree.now in
    let going : List ℕ = c.args.going.now in
    heard_where_sought going (own_of (change_of c.args.change)) c.args.above nodes c.subs.subs c.if-is_deletion.is_sought c.subs.hears c.found_of.result c.in_default.ensures.taken.0 c.subs.invariant.1 c.found_of.ensures
