use Rattle.std.proofs.Common.{List, ap, sym, ◌∙◌}
use Rattle.std.specs.List.{slice_get}
use Rattle.resource_model.specs.Resource.{ResourceData}
use Rattle.subscription_match.specs.Watching.{subs_under}
use Rattle.subscription_match.proofs.WatchingLemmas.{head_dropped}
use Rattle.subscription_match.proofs.watching.Under.first.Goals as goal

pub returns : goal.returns
returns g c =
    let under = subs_under c.self.inside.parent (g.T.Tree.nodes c.self.inside.tree.now) in
    c.self.invariant.0 ∙ sym (head_dropped under c.self.inside.place)
    ∙ ap (λ (rs : List ResourceData). slice_get rs 0) c.self.view_is
