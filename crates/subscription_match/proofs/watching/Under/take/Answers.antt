use Rattle.std.proofs.Common.{◌≡◌, [], sym, ◌∙◌, subst}
use Rattle.std.specs.Prelude.{◌∷◌, MatchOption}
use Rattle.subscription_match.specs.Watching.{subs_under}
use Rattle.subscription_match.proofs.WatchingLemmas.{none_left, some_left}
use Rattle.subscription_match.proofs.watching.Under.take.Goals as goal

pub returns-in_err-first-clause-taken : goal.returns-in_err-first-clause-taken
returns-in_err-first-clause-taken g c =
    let under = subs_under c.self.inside.parent (g.T.Tree.nodes c.self.inside.tree.now) in
    let end : c.args.self.now ≡ [] = sym c.self.view_is ∙ none_left under c.self.inside.place c.self.inside.first c.self.invariant.0 c.in_err-first.was in
    subst (λ r. MatchOption r ((c.args.self.now ≡ []) × (c.args.self.now ≡ [])) (λ x. c.args.self.now ≡ x.now ∷ c.args.self.now)) (sym c.from_residual.ensures) (end, end)

pub returns-clause-taken : goal.returns-clause-taken
returns-clause-taken g c =
    let under = subs_under c.self.inside.parent (g.T.Tree.nodes c.self.inside.tree.now) in
    sym c.self.view_is ∙ some_left under c.self.inside.place c.self.inside.first c.in_ok-first.first c.self.invariant.0 c.in_ok-first.was
