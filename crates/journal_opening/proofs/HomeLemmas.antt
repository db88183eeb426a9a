-- What a journal makes stays at its home.
use Rattle.std.proofs.Common.{◌≡◌, ⊎_elim, ℕ, Bool, true, false, List, [], ◌∷◌, Option, Some, None, Result, Ok, Err, if◌then◌else◌, refl, ◌∙◌, ap}
use Rattle.std.specs.Option.{option_map_or}
use Rattle.m2m_names.specs.declared.codes.Rsc.{Rsc}
use Rattle.m2m_names.specs.declared.codes.Rsc.TheVariants.{BadRequest, NoPrivilege, NotReachable, RequestTimeout}
use Rattle.m2m_names.specs.declared.codes.Rsc.TheVariants.{Ok as Fine}
use Rattle.m2m_names.specs.declared.operations.Op.{Op}
use Rattle.m2m_names.specs.declared.operations.Op.TheVariants.{Create, Retrieve, Update, Delete, Notify}
use Rattle.primitive_json.specs.declared.note.NoteParts.{NoteParts}
use Rattle.primitive_json.specs.declared.request.RequestParts.{RequestParts}
use Rattle.resource_model.specs.Home.{HomeData}
use Rattle.resource_model.specs.Resource.{ResourceData}
use Rattle.tree_model.specs.Tree.{at, has}
use Rattle.policy_eval.specs.Rights.{grants}
use Rattle.addressing.specs.Addresses.{address_of}
use Rattle.addressing.specs.Names.{segments_of, spot_of}
use Rattle.addressing.specs.declared.addr.Addr.{Addr}
use Rattle.addressing.specs.declared.addr.AddrFault.{AddrFault}
use Rattle.addressing.specs.declared.spot.Spot.{Spot}
use Rattle.addressing.specs.declared.spot.Spot.TheVariants.{Resource, Fan, Poll}
use Rattle.retarget.specs.Routes.{routed}
use Rattle.retarget.specs.declared.routing.Route.{Route}
use Rattle.retarget.specs.declared.routing.Route.TheVariants as to
use Rattle.entity_model.specs.Entity.{EntityData, swept}
use Rattle.entity_model.specs.Places.{Effect, absent, first_fault, reading_bit, refused, reply_alone, reply_to}
use Rattle.retrieve_discover.specs.Polling.{first_waiting, given_first, handed_on, without_waiting}
use Rattle.retrieve_discover.specs.Replies.{success}
use Rattle.group_fanout.specs.Fan.{after_members, fan_effect, fan_places, fanned, member_effect, member_requests, rest_of}
use Rattle.group_fanout.specs.Rights.{claimed_originator}
use Rattle.group_fanout.proofs.HomeLemmas.{found_home, member_home}
use Rattle.cse_machine.specs.Answer.{EventEffect, address_effect, answer_places, as_done, effect_of, first_places, goes_on, onward_effect, point_of, poll_effect, route_effect, spot_effect}
use Rattle.journal_lines.specs.declared.deed.Dated.{Dated}
use Rattle.journal_lines.specs.declared.deed.Deed.{Deed}
use Rattle.journal_lines.specs.declared.deed.Deed.TheVariants.{Ask, Take, Tick}
use Rattle.journal_opening.specs.Journals.{Makes, done_at, made_by, made_of}

-- ---- choices

either_home : (b : Bool) (e : EntityData) (one other : Effect) → one.after.home ≡ e.home → other.after.home ≡ e.home
    → (if b then one else other).after.home ≡ e.home
either_home true e one other first second = first
either_home false e one other first second = second

mapped_home : {A : Type 0} (f : A → Effect) (found : Option A) (e : EntityData) (none : Effect) → ((x : A) → (f x).after.home ≡ e.home) → none.after.home ≡ e.home
    → (option_map_or f found none).after.home ≡ e.home
mapped_home f None e none each stays = stays
mapped_home f (Some x) e none each stays = each x

-- ---- a poll point

given_home : (e : EntityData) (request : RequestParts) (channel : ℕ) → (given_first channel e request).after.home ≡ e.home
given_home e request channel =
    let given : NoteParts → Effect = λ note. record { reply = success request (handed_on note); after = without_waiting channel e } in
    mapped_home given (first_waiting channel e) e (refused e request RequestTimeout) (λ note. refl) refl

poll_home : (op : Op) (e : EntityData) (request : RequestParts) (channel : ℕ) → (poll_effect op e request channel).after.home ≡ e.home
poll_home Create e request channel = refl
poll_home Retrieve e request channel =
    either_home (grants e.home e.nodes (claimed_originator e.home request) (reading_bit false) channel) e (given_first channel e request)
    (refused e request NoPrivilege) (given_home e request channel) refl
poll_home Update e request channel = refl
poll_home Delete e request channel = refl
poll_home Notify e request channel =
    mapped_home (refused e request) (first_fault (answer_places e request channel)) e (reply_alone e (reply_to request Fine None)) (λ fault. refl) refl

-- ---- a fan-out point

members_home : (requests : List RequestParts) (e : EntityData) → (after_members e requests).home ≡ e.home
members_home [] e = refl
members_home (request ∷ requests) e = members_home requests (member_effect e request).after ∙ member_home e request

fan_home : (e : EntityData) (request : RequestParts) (rest : List (List ℕ)) (group : ResourceData) → (fan_effect e request rest group).after.home ≡ e.home
fan_home e request rest group =
    let members = member_requests request rest group in
    mapped_home (refused e request) (first_fault (fan_places e request group)) e (fanned e request members) (λ fault. refl) (members_home members e)

-- ---- any address

spot_home : (e : EntityData) (request : RequestParts) (spot : Option Spot) → (spot_effect e request spot).after.home ≡ e.home
spot_home e request None = refl
spot_home e request (Some (Resource n)) = found_home request.op e request (at n e.nodes)
spot_home e request (Some (Fan group place)) =
    let rest = rest_of e.home request.to place in
    mapped_home (fan_effect e request rest) (at group e.nodes) e (refused e request absent) (fan_home e request rest) refl
spot_home e request (Some (Poll channel)) =
    either_home (has channel e.nodes) e (poll_effect request.op e request channel) (refused e request absent) (poll_home request.op e request channel) refl

onward_home : (e : EntityData) (request : RequestParts) (poa : Option (List ℕ)) → (onward_effect e request poa).after.home ≡ e.home
onward_home e request None = refl
onward_home e request (Some poa) = refl

route_home : (e : EntityData) (request : RequestParts) (segments : List (List ℕ)) (route : Route) → (route_effect e request segments route).after.home ≡ e.home
route_home e request segments to.Local = spot_home e request (spot_of segments e.nodes)
route_home e request segments to.Unknown = refl
route_home e request segments to.NoHop = refl
route_home e request segments to.NoPoint = refl
route_home e request segments (to.Forward n) = onward_home e request (point_of e.nodes n)

address_home : (e : EntityData) (request : RequestParts) (address : Result Addr AddrFault) → (address_effect e request address).after.home ≡ e.home
address_home e request (Ok addr) = route_home e request (segments_of addr) (routed e.nodes (claimed_originator e.home request) addr)
address_home e request (Err fault) = refl

judged_home : (e : EntityData) (request : RequestParts) (fault : Option Rsc) (judged : EventEffect) → judged.after.home ≡ e.home
    → (option_map_or (λ rsc. as_done (refused e request rsc)) fault judged).after.home ≡ e.home
judged_home e request None judged stays = stays
judged_home e request (Some rsc) judged stays = refl

request_home : (e : EntityData) (request : RequestParts) → (effect_of e request).after.home ≡ e.home
request_home e request =
    let address = address_of e.home request.to in
    judged_home e request (first_fault (first_places e request)) (address_effect e request address) (address_home e request address)

-- ---- deeds

deed_home : (moment : ℕ) (deed : Deed) (e : EntityData) → (done_at moment deed e).home ≡ e.home
deed_home moment (Ask request) e = request_home (swept moment e) request
deed_home moment Take e = refl
deed_home moment Tick e = refl

pub made_home : (deeds : List Dated) (base : EntityData) → (made_of deeds base).home ≡ base.home
made_home [] base = refl
made_home (dated ∷ deeds) base = made_home deeds (made_by dated base) ∙ deed_home dated.moment dated.deed base

pub made_at_home : (home : HomeData) (text : List ℕ) (e : EntityData) → Makes home text e → e.home ≡ home
made_at_home home text e makes =
    ap (λ (x : EntityData). x.home) makes.made
    ∙ made_home makes.deeds makes.base
    ∙ ⊎_elim (λ first. ap (λ (x : EntityData). x.home) first.opens) (λ kept. kept.own) makes.journal.opens
