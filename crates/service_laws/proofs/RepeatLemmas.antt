-- Each reply repeats the identifier of its request.
use Rattle.service_laws.proofs.Words.{◌≡◌, ℕ, Bool, true, false, if◌then◌else◌, List, Option, Some, None, Result, Ok, Err, IfSome, IsTrue, inl, inr, refl, sym, ap, subst, ◌∙◌, option_map_or}
use Rattle.service_laws.proofs.Terms.{Carrying, ReplyParts, RequestParts, Carried, EntityData, swept, Ask, Outcome, Done, Forward, Item, Ticked, Starved, Step, GivesReply, RepliesBy}
use Rattle.std.specs.Prelude.{not}
use Rattle.std.proofs.lemmas.Bool.{and_parts}
use Rattle.m2m_names.specs.declared.codes.Rsc.TheVariants.{NoPrivilege, NotFound}
use Rattle.m2m_names.specs.declared.operations.Op.{Op}
use Rattle.m2m_names.specs.declared.operations.Op.TheVariants.{Create, Retrieve, Update, Notify, Delete as Removal}
use Rattle.m2m_value.specs.Data.{Data}
use Rattle.primitive_json.specs.Bounds.{is_request_id}
use Rattle.primitive_json.specs.Form.{has_fit_address_form, has_fit_content, has_fit_filter, has_fit_result, has_fit_type, has_form}
use Rattle.primitive_json.specs.Laws.{IsReplyOfKinds}
use Rattle.resource_model.specs.Resource.{ResourceData}
use Rattle.addressing.specs.Addresses.{address_of}
use Rattle.addressing.specs.Names.{segments_of, spot_of}
use Rattle.addressing.specs.declared.addr.Addr.{Addr}
use Rattle.addressing.specs.declared.addr.AddrFault.{AddrFault}
use Rattle.addressing.specs.declared.spot.Spot.{Spot}
use Rattle.addressing.specs.declared.spot.Spot.TheVariants.{Resource, Fan, Poll}
use Rattle.policy_eval.specs.Rights.{grants}
use Rattle.tree_model.specs.Tree.{at, has}
use Rattle.entity_model.specs.Places.{Effect, absent, first_fault, reading_bit, refusal, refused}
use Rattle.retarget.specs.Routes.{routed}
use Rattle.retarget.specs.declared.routing.Route.{Route}
use Rattle.retarget.specs.declared.routing.Route.TheVariants as to
use Rattle.retrieve_discover.specs.Conditions.{meets_any}
use Rattle.retrieve_discover.specs.Contents.{content}
use Rattle.retrieve_discover.specs.Findings.{address_list, found_addresses}
use Rattle.retrieve_discover.specs.Polling.{given_first}
use Rattle.retrieve_discover.specs.Replies.{discovered, is_by_id, retrieved, retrieved_of, success}
use Rattle.create_delete.specs.Telling.{told_effect_by}
use Rattle.request_rules.specs.Rights.{is_discovery}
use Rattle.group_fanout.specs.Fan.{fan_effect, rest_of}
use Rattle.group_fanout.specs.Operations.{change_effect, operation_effect, reading_reply, relay_effect}
use Rattle.group_fanout.specs.Rights.{claimed_originator}
use Rattle.cse_machine.specs.Answer.{EventEffect, address_effect, as_done, effect_of, first_places, onward_effect, point_of, poll_effect, route_effect, spot_effect}
use Rattle.resource_model.specs.Home.{HomeData}
use Rattle.remote_members.specs.Remote.{entries_anew, told_of_members}
use Rattle.remote_members.specs.Wide.{completed, with_entries, wide}
use Rattle.service_laws.specs.Repeating.{EachReplyRepeatsTheIdentifier, KeepsTheIdentifier, Repeats, RepliesToFormsAreOfKinds, TheRulesKeepTheIdentifier}

-- what holds of each value, and of the one in its stead
of_each : {A B : Type 0} (P : B → Type 0) (f : A → B) (other : B) → ((a : A) → P (f a)) → P other → (o : Option A) → P (option_map_or f o other)
of_each P f other some none None = none
of_each P f other some none (Some a) = some a

module _ (request : RequestParts) where
  abbrev RepliesSo : ReplyParts → Type 0
  RepliesSo reply = Repeats request reply

  abbrev EffectSo : Effect → Type 0
  EffectSo effect = Repeats request effect.reply

  -- ---- on a resource

  either : (b : Bool) (p q : Effect) → EffectSo p → EffectSo q → EffectSo (if b then p else q)
  either true p q first second = first
  either false p q first second = second

  finds : (may : Bool) (d : Data) → RepliesSo (if may then success request d else refusal request NoPrivilege)
  finds true d = refl
  finds false d = refl

  shows : (barred unmet : Bool) (d : Data) → RepliesSo (if barred then refusal request NoPrivilege else (if unmet then refusal request NotFound else success request d))
  shows true unmet d = refl
  shows false true d = refl
  shows false false d = refl

  retrieves : (e : EntityData) (originator : List ℕ) (r : ResourceData) → RepliesSo (retrieved_of e.home e.nodes originator request r)
  retrieves e originator r =
      shows (not (grants e.home e.nodes originator (reading_bit false) r.number)) (not (meets_any e.nodes request.fc r))
      (content e.home e.nodes originator (is_by_id request) request.rcn r)

  reads_by : (looks : Bool) (e : EntityData) (originator : List ℕ) (n : ℕ) → RepliesSo (if looks then discovered e.home e.nodes originator request n else retrieved e.home e.nodes originator request n)
  reads_by true e originator n =
      finds (grants e.home e.nodes originator (reading_bit true) n) (address_list (found_addresses e.home e.nodes originator (is_by_id request) request.fc n))
  reads_by false e originator n = of_each RepliesSo (retrieved_of e.home e.nodes originator request) (refusal request absent) (retrieves e originator) refl (at n e.nodes)

  reads : (e : EntityData) (n : ℕ) → RepliesSo (reading_reply e request n)
  reads e n = reads_by (is_discovery request) e (claimed_originator e.home request) n

  done : (op : Op) (e : EntityData) (originator : List ℕ) (target : ResourceData) → EffectSo (told_effect_by op e originator request target)
  done Create e originator target = of_each EffectSo _ _ (λ ty. refl) refl _
  done Retrieve e originator target = refl
  done Update e originator target = refl
  done Removal e originator target = refl
  done Notify e originator target = refl

  changes : (op : Op) (e : EntityData) (target : ResourceData) → EffectSo (change_effect op e request target)
  unfolding change_effect
  changes op e target = of_each EffectSo _ _ (λ fault. refl) (done op e (claimed_originator e.home request) target) _

  relays : (e : EntityData) (target : ResourceData) → EffectSo (relay_effect e request target)
  unfolding relay_effect
  relays e target = of_each EffectSo _ _ (λ fault. refl) refl _

  operates : (op : Op) (e : EntityData) (target : ResourceData) → EffectSo (operation_effect op e request target)
  operates Create e target = changes Create e target
  operates Retrieve e target = reads e target.number
  operates Update e target = changes Update e target
  operates Removal e target = changes Removal e target
  operates Notify e target = relays e target

  -- ---- at what an address names

  hands : (e : EntityData) (channel : ℕ) → EffectSo (given_first channel e request)
  hands e channel = of_each EffectSo _ _ (λ note. refl) refl _

  polls : (op : Op) (e : EntityData) (channel : ℕ) → EffectSo (poll_effect op e request channel)
  polls Create e channel = refl
  polls Retrieve e channel =
      either (grants e.home e.nodes (claimed_originator e.home request) (reading_bit false) channel) (given_first channel e request) (refused e request NoPrivilege)
      (hands e channel) refl
  polls Update e channel = refl
  polls Removal e channel = refl
  polls Notify e channel = of_each EffectSo _ _ (λ fault. refl) refl _

  fans : (e : EntityData) (rest : List (List ℕ)) (group : ResourceData) → EffectSo (fan_effect e request rest group)
  fans e rest group = of_each EffectSo _ _ (λ fault. refl) refl _

  at_spot : (e : EntityData) (spot : Option Spot) → EffectSo (spot_effect e request spot)
  at_spot e None = refl
  at_spot e (Some (Resource n)) = of_each EffectSo (operation_effect request.op e request) (refused e request absent) (operates request.op e) refl (at n e.nodes)
  at_spot e (Some (Fan group place)) =
      of_each EffectSo (fan_effect e request (rest_of e.home request.to place)) (refused e request absent) (fans e (rest_of e.home request.to place)) refl (at group e.nodes)
  at_spot e (Some (Poll channel)) = either (has channel e.nodes) (poll_effect request.op e request channel) (refused e request absent) (polls request.op e channel) refl

  -- ---- what comes of it

  -- The outcome gives a reply that repeats the identifier, or goes on with it.
  abbrev OutcomeSo : Outcome → Type 0
  OutcomeSo (Done reply) = RepliesSo reply
  OutcomeSo (Forward poa sent) = sent.rqi ≡ request.rqi
  OutcomeSo (Item given) = Unit {0}
  OutcomeSo Ticked = Unit {0}
  OutcomeSo (Starved done) = Unit {0}

  goes : (e : EntityData) (poa : Option (List ℕ)) → OutcomeSo (onward_effect e request poa).outcome
  goes e None = refl
  goes e (Some poa) = refl

  by_route : (e : EntityData) (segments : List (List ℕ)) (route : Route) → OutcomeSo (route_effect e request segments route).outcome
  by_route e segments to.Local = at_spot e (spot_of segments e.nodes)
  by_route e segments to.Unknown = refl
  by_route e segments to.NoHop = refl
  by_route e segments to.NoPoint = refl
  by_route e segments (to.Forward n) = goes e (point_of e.nodes n)

  by_address : (e : EntityData) (address : Result Addr AddrFault) → OutcomeSo (address_effect e request address).outcome
  by_address e (Ok addr) = by_route e (segments_of addr) (routed e.nodes (claimed_originator e.home request) addr)
  by_address e (Err fault) = refl

  keeps : (e : EntityData) → OutcomeSo (effect_of e request).outcome
  keeps e =
      of_each (λ (effect : EventEffect). OutcomeSo effect.outcome) (λ fault. as_done (refused e request fault)) (address_effect e request (address_of e.home request.to))
      (λ fault. refl) (by_address e (address_of e.home request.to)) (first_fault (first_places e request))

  steps : (reading : ℕ) (before after : EntityData) (outcome : Outcome) → Step reading (Ask request) before outcome after → OutcomeSo outcome
  steps reading before after (Done reply) step = subst OutcomeSo (sym step.0) (keeps (swept reading before))
  steps reading before after (Forward poa sent) step = subst OutcomeSo (sym step.0) (keeps (swept reading before))
  steps reading before after (Item given) step = tt
  steps reading before after Ticked step = tt
  steps reading before after (Starved done) step = tt

-- ---- the reply

carried_repeats : (answer : Option (List ℕ)) (sent : RequestParts) (reply : ReplyParts) → Carried answer sent.rqi reply → Repeats sent reply
carried_repeats None sent reply is = ap (λ (r : ReplyParts). r.rqi) is
carried_repeats (Some answer) sent reply (inl said) = ap (λ (r : ReplyParts). r.rqi) said.2
carried_repeats (Some answer) sent reply (inr none) = ap (λ (r : ReplyParts). r.rqi) none.1

onward_repeats : (sent : RequestParts) (reply : ReplyParts) (carrying : Carrying) → RepliesBy sent reply carrying → Repeats sent reply
onward_repeats sent reply carrying (inl starved) = ap (λ (r : ReplyParts). r.rqi) starved.1
onward_repeats sent reply carrying (inr by) = carried_repeats by.1.0 sent reply by.1.2

gives_repeats : (request : RequestParts) (outcome : Outcome) (reply : ReplyParts) (carried : List Carrying) → OutcomeSo request outcome → GivesReply request outcome reply carried → Repeats request reply
gives_repeats request (Done answered) reply carried kept gives = ap (λ (r : ReplyParts). r.rqi) gives.0 ∙ kept
gives_repeats request (Forward poa sent) reply carried kept gives = onward_repeats sent reply gives.carrying gives.replies ∙ ap (λ (id : List ℕ). Some id) kept
gives_repeats request (Item given) reply carried kept gives = ap (λ (r : ReplyParts). r.rqi) gives.0
gives_repeats request Ticked reply carried kept gives = ap (λ (r : ReplyParts). r.rqi) gives.0
gives_repeats request (Starved done) reply carried kept gives = ap (λ (r : ReplyParts). r.rqi) gives.0

-- the reply to the request itself
pub first_repeats : (reading : ℕ) (request : RequestParts) (before after : EntityData) (outcome : Outcome) (reply : ReplyParts) (carried : List Carrying)
    → Step reading (Ask request) before outcome after → GivesReply request outcome reply carried → Repeats request reply
first_repeats reading request before after outcome reply carried step gives =
    gives_repeats request outcome reply carried (steps request reading before after outcome step) gives

-- and the one that a rule gives by that
pub each_repeats : EachReplyRepeatsTheIdentifier
each_repeats rule reading request before after outcome reply carried replies keeps step gives =
    keeps outcome reply replies ∙ first_repeats reading request before after outcome reply carried step gives

-- a request of its form has an identifier of its kind
pub id_of_kind : (r : RequestParts) → has_form r ≡ true → is_request_id r.rqi ≡ true
id_of_kind r form =
    let address = and_parts _ (has_fit_address_form r.drt) form in
    let filter = and_parts _ (has_fit_filter r.op r.fc) address.0 in
    let result = and_parts _ (has_fit_result r.op r.rcn) filter.0 in
    let content = and_parts _ (has_fit_content r.op r.pc) result.0 in
    (and_parts (is_request_id r.rqi) (has_fit_type r.op r.ty) content.0).0

-- and so has a reply that repeats it
pub kind_repeated : (request : RequestParts) (reply : ReplyParts) → Repeats request reply → is_request_id request.rqi ≡ true → IsReplyOfKinds reply
kind_repeated request reply repeats kind = subst (λ (id : Option (List ℕ)). IfSome id (λ s. IsTrue (is_request_id s))) (sym repeats) kind

pub of_kinds : RepliesToFormsAreOfKinds
of_kinds rule reading request before after outcome reply carried replies keeps step gives form =
    kind_repeated request (rule.told outcome reply replies)
    (each_repeats rule reading request before after outcome reply carried replies keeps step gives) (id_of_kind request form)

-- ---- the rules

completed_keeps : (home : HomeData) (reply : ReplyParts) (replies : List ReplyParts) → (completed home reply replies).rqi ≡ reply.rqi
completed_keeps home reply replies =
    of_each (λ (r : ReplyParts). r.rqi ≡ reply.rqi) (λ entries. with_entries reply (entries_anew home entries replies)) reply (λ entries. refl) refl (told_of_members reply.pc)

wide_keeps : (home : HomeData) → KeepsTheIdentifier (wide home)
wide_keeps home (Done answered) reply replies = completed_keeps home reply replies
wide_keeps home (Forward poa sent) reply replies = refl
wide_keeps home (Item given) reply replies = refl
wide_keeps home Ticked reply replies = refl
wide_keeps home (Starved done) reply replies = refl

pub rules_keep : TheRulesKeepTheIdentifier
rules_keep = (λ outcome reply replies. refl, wide_keeps)
