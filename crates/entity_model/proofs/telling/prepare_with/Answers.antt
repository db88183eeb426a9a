use Rattle.std.proofs.Common.{◌≡◌, List, [], sym, ◌∙◌}
use Rattle.resource_model.specs.Home.{HomeData}
use Rattle.resource_model.specs.Resource.{ResourceData}
use Rattle.subscription_match.specs.Notices.{notes_of_all}
use Rattle.entity_model.specs.Entity.{copy_requests}
use Rattle.entity_model.proofs.telling.prepare_with.Goals as goal

pub returns-then-is_nothing-clause-told : goal.returns-then-is_nothing-clause-told
returns-then-is_nothing-clause-told g c =
    let nodes : List ResourceData = g.T.Tree.nodes c.args.tree.now in
    let home : HomeData = c.args.home.now in
    let none_told : notes_of_all home nodes c.args.going.now c.args.changes ≡ [] =
    sym c.in_ok-drafts.ensures ∙ sym c.deref.ensures.value ∙ c.is_nothing.ensures.drafts c.if-is_nothing.true in
    let none_sent : copy_requests home nodes c.args.changes ≡ [] =
    sym c.requires.requests ∙ sym c.deref-2.ensures.value ∙ c.is_nothing.ensures.requests c.if-is_nothing.true in
    c.nothing_told.ensures.told home nodes c.args.going.now c.args.changes none_told none_sent
