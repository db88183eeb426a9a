use Rattle.std.proofs.Common.{◌≡◌, IfOk, inl, inr, refl, sym, ap, ◌∙◌, subst}
use Rattle.m2m_names.specs.declared.codes.Rsc.TheVariants.{NotFound, NotReachable}
use Rattle.entity_model.specs.Entity.{EntityData}
use Rattle.retarget.specs.Routes.{routed}
use Rattle.retarget.specs.declared.routing.Route.TheVariants.{Forward, NoHop, NoPoint, Unknown}
use Rattle.cse_machine.specs.Answer.{EventEffect}
use Rattle.cse_machine.proofs.RouteLemmas.{by_route, goes_stays, on_ok, turned_down}
use Rattle.cse_machine.proofs.machine.lead_away.Goals as goal

-- what goes on changes nothing
pub returns-in-Forward-clause-gives : goal.returns-in-Forward-clause-gives
returns-in-Forward-clause-gives g c =
    let e = c.args.entity.now in
    let request = c.args.request.now in
    let o = c.args.originator.now in
    let addr = c.args.addr.now in
    let n = c.in-Forward.number in
    let route = sym c.in-Forward.is ∙ c.route_of.ensures.route ∙ ap (λ (x : EntityData). routed x.nodes o addr) c.entity.view_is in
    record {
      outcome =
          subst (λ (x : EventEffect). IfOk c.go_on.result (λ y. y ≡ x.outcome))
          (sym (by_route e request o addr (Forward n) c.requires.claimed route)) c.go_on.ensures.outcome;
      after = on_ok c.go_on.result e _ (goes_stays e request o addr n c.requires.claimed route);
    }

-- what isn't known is refused
pub returns-in-Unknown-clause-gives : goal.returns-in-Unknown-clause-gives
returns-in-Unknown-clause-gives g c =
    let o = c.args.originator.now in
    let addr = c.args.addr.now in
    let route = sym c.in-Unknown.is ∙ c.route_of.ensures.route ∙ ap (λ (x : EntityData). routed x.nodes o addr) c.entity.view_is in
    turned_down c.turn_down.result c.args.entity.now c.args.request.now o addr Unknown NotFound c.requires.claimed route refl c.turn_down.ensures.refused

-- and so is what would take a second hop, or has no point of access
pub returns-in-NoHop-clause-gives : goal.returns-in-NoHop-clause-gives
returns-in-NoHop-clause-gives g c =
    let e = c.args.entity.now in
    let request = c.args.request.now in
    let o = c.args.originator.now in
    let addr = c.args.addr.now in
    let told = c.turn_down-in-NoHop.ensures.refused in
    let route = c.route_of.ensures.route ∙ ap (λ (x : EntityData). routed x.nodes o addr) c.entity.view_is in
    elim c.in-NoHop.is [
      | inl hop ↦ turned_down c.turn_down-in-NoHop.result e request o addr NoHop NotReachable c.requires.claimed (sym hop ∙ route) refl told
      | inr point ↦ turned_down c.turn_down-in-NoHop.result e request o addr NoPoint NotReachable c.requires.claimed (sym point ∙ route) refl told
    ]
