-- Where a request goes by its address (TS-0001, 7.2 and 10.2.2; that it goes one hop is the
-- profile's).
use Rattle.std.specs.Prelude.{◌≡◌, ℕ, nat_eq, Bool, true, ◌&&◌, List, codes, Some, None, is_some}
use Rattle.std.specs.Prelude.{if◌then◌else◌}
use Rattle.std.specs.List.{starts_with}
use Rattle.std.specs.Option.{option_map_or}
use Rattle.m2m_names.specs.Name.{is_name}
use Rattle.resource_model.specs.Home.{HomeData}
use Rattle.resource_model.specs.Resource.{ResourceData}
use Rattle.tree_model.specs.Shown.{own_cse_id}
use Rattle.tree_model.specs.Tree.{cse_of}
use Rattle.policy_eval.specs.Originators.{full_form}
use Rattle.primitive_json.specs.declared.request.RequestParts.{RequestParts}
use Rattle.addressing.specs.declared.addr.Addr.{Addr}
use Rattle.addressing.specs.declared.addr.Addr.TheVariants.{Local, Foreign, OtherProvider}
use Rattle.subscription_match.specs.Destinations.{cse_named, first_url, leading_cse_id}
use Rattle.retarget.specs.declared.routing.Route.{Route}
use Rattle.retarget.specs.declared.routing.Route.TheVariants as to

-- the originator is a registered CSE, or stands under one: its text begins with `/`, as else it is
-- one of this CSE's own
abbrev pub comes_from_cse : List ResourceData → List ℕ → Bool
comes_from_cse nodes originator =
    starts_with nat_eq originator (codes "/") && is_some (cse_of (leading_cse_id originator) nodes)

-- to a registered CSE: not from another one, and only where it has a point of access
abbrev pub routed_to : List ResourceData → List ℕ → ResourceData → Route
routed_to nodes originator cse =
    if comes_from_cse nodes originator then to.NoHop
    else (if is_some (first_url cse) then to.Forward cse.number else to.NoPoint)

-- Where a request of this originator goes by its address: it stays here, or it goes on to the
-- registered CSE that the address leads to.
abbrev pub routed : List ResourceData → List ℕ → Addr → Route
routed nodes originator (Local segments) = to.Local
routed nodes originator (Foreign text) =
    option_map_or (routed_to nodes originator) (cse_named text nodes) to.Unknown
routed nodes originator OtherProvider = to.Unknown

-- the request as it goes on: its originator in full form, and nothing said of how the reply is
-- wanted
abbrev pub forwarded : HomeData → List ℕ → RequestParts → RequestParts
forwarded home originator request =
    record request { fr = Some (full_form home originator); rt = None }

-- ---- law

-- Where own CSE-ID isn't that of a registered CSE, an originator comes from one where the CSE-ID at
-- the front of its full form is registered.
abbrev pub FullFormTellsTheCse : Type 0
FullFormTellsTheCse =
    (home : HomeData) (nodes : List ResourceData) (originator : List ℕ)
    → is_name home.csi ≡ true → cse_of (own_cse_id home) nodes ≡ None
    → comes_from_cse nodes originator
    ≡ is_some (cse_of (leading_cse_id (full_form home originator)) nodes)
