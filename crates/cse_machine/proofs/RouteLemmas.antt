-- What comes of a request by where it goes.
use Rattle.std.proofs.Common.{◌≡◌, ℕ, List, Option, Some, None, Result, Ok, Err, IfOk, OnOk, refl, sym, ap, subst, ◌∙◌}
use Rattle.m2m_names.specs.declared.codes.Rsc.{Rsc}
use Rattle.primitive_json.specs.declared.request.RequestParts.{RequestParts}
use Rattle.addressing.specs.Names.{segments_of, spot_of}
use Rattle.addressing.specs.declared.addr.Addr.{Addr}
use Rattle.addressing.specs.declared.addr.Addr.TheVariants.{Local}
use Rattle.entity_model.specs.Entity.{EntityData}
use Rattle.entity_model.specs.Places.{refusal, refused}
use Rattle.group_fanout.specs.Rights.{claimed_originator}
use Rattle.retarget.specs.Routes.{routed}
use Rattle.retarget.specs.declared.routing.Route.{Route}
use Rattle.retarget.specs.declared.routing.Route.TheVariants as to
use Rattle.cse_machine.specs.Answer.{ComesToOutcome, EventEffect, address_effect, as_done, onward_effect, point_of, route_effect, spot_effect}
use Rattle.cse_machine.specs.declared.event.Outcome.{Outcome}
use Rattle.cse_machine.specs.declared.event.Outcome.TheVariants.{Done}

-- what it gives is what its route gives
pub by_route : (e : EntityData) (request : RequestParts) (o : List ℕ) (addr : Addr) (route : Route) → claimed_originator e.home request ≡ o → route ≡ routed e.nodes o addr → address_effect e request (Ok addr) ≡ route_effect e request (segments_of addr) route
by_route e request o addr route by is =
    ap (route_effect e request (segments_of addr))
    (ap (λ (t : List ℕ). routed e.nodes t addr) by ∙ sym is)

-- what stays here gives what it gives at what its segments name
pub stays_here : (e : EntityData) (request : RequestParts) (addr : Addr) (segments : List (List ℕ)) → addr ≡ Local segments → address_effect e request (Ok addr) ≡ as_done (spot_effect e request (spot_of segments e.nodes))
stays_here e request addr segments is = ap (λ (a : Addr). address_effect e request (Ok a)) is

-- what goes on leaves the entity as it is
onward_stays : (e : EntityData) (request : RequestParts) (poa : Option (List ℕ)) → (onward_effect e request poa).after ≡ e
onward_stays e request None = refl
onward_stays e request (Some poa) = refl

pub goes_stays : (e : EntityData) (request : RequestParts) (o : List ℕ) (addr : Addr) (n : ℕ) → claimed_originator e.home request ≡ o → to.Forward n ≡ routed e.nodes o addr → e ≡ (address_effect e request (Ok addr)).after
goes_stays e request o addr n by is =
    sym (ap (λ (x : EventEffect). x.after) (by_route e request o addr (to.Forward n) by is)
    ∙ onward_stays e request (point_of e.nodes n))

-- whatever the result is
pub on_ok : {A E : Type 0} (result : Result A E) (e after : EntityData) → e ≡ after → OnOk result (e ≡ after)
on_ok (Ok x) e after same = same
on_ok (Err fault) e after same = tt

-- what isn't known, or isn't reached, is refused
pub turned_down : {E : Type 0} (result : Result Outcome E) (e : EntityData) (request : RequestParts) (o : List ℕ) (addr : Addr) (route : Route) (fault : Rsc) → claimed_originator e.home request ≡ o → route ≡ routed e.nodes o addr → route_effect e request (segments_of addr) route ≡ as_done (refused e request fault) → IfOk result (λ x. x ≡ Done (refusal request fault)) → ComesToOutcome result e (address_effect e request (Ok addr))
turned_down result e request o addr route fault by is down told =
    subst (ComesToOutcome result e) (sym (by_route e request o addr route by is ∙ down))
    (record { outcome = told; after = on_ok result e e refl })
