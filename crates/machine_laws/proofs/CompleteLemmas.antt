-- What nothing speaks against is served.
use Rattle.machine_laws.proofs.Words.{◌≡◌, ◌⊎◌, ℕ, List, [], ◌∷◌, ◌++◌, Bool, true, false, find, Option, Some, None, is_some, Result, Ok, Err, inl, inr, refl, sym, ap, subst, ◌∙◌, option_and_then, option_map_or}
use Rattle.machine_laws.proofs.Terms.{Rsc, NotFound, Op, Create, Retrieve, Update, Delete, Notify, does_take, Ty, RequestParts, ResourceData, at, cse_of, has, address_of, named_here, spot_of, Addr, Local, Foreign, OtherProvider, AddrFault, Spot, Resource, Fan, Poll, grants, EntityData, swept, Effect, first_fault, on_found, reading_bit, refused, refusal, creation_by, creation_places, fault_on, fault_new, new_places, child_ty, named_by, is_discovery, retrieved_of, effect_by, told_effect_by, Ask, Outcome, Done, Forward, Item, Ticked, Starved, first_url, is_url, leading_cse_id, EventEffect, address_effect, addressed, as_done, effect_of, onward_effect, point_of, poll_effect, resource_at, route_effect, spot_effect, operation_effect, reading_reply, relay_effect, resource_effect, forwarded, routed, routed_to, polled, Step, fan_effect, may_fan, rest_of, claimed_originator}
use Rattle.machine_laws.proofs.Facts.{and_parts, cases_Bool, cond-true, cond-false, false≢true, All-head, All-tail, none-some, at_number, members_parts, poll_there, reading_found, reading_shown}
use Rattle.std.proofs.Common.{All}
use Rattle.request_rules.specs.Groups.{membership_edited, membership_new}
use Rattle.group_fanout.specs.Operations.{change_effect}
use Rattle.retarget.specs.declared.routing.Route.{Route}
use Rattle.retarget.specs.declared.routing.Route.TheVariants as to
use Rattle.machine_laws.specs.Complete.{IsStarved, IsSuccess, MayBeDone, WhatIsAnsweredIsTaken, WhatMayBeFannedOutIsFannedOut, WhatMayBeServedIsServed, WhatMayGoOnGoesOn, WhatWaitsIsGiven}
use Rattle.cse_machine.specs.Answer.{spot_asked}
use Rattle.cse_machine.specs.Heard.{MayBeHeard}
use Rattle.cse_machine.proofs.WayLemmas.{fanned_by, given_note, heard, taken_answer}
use Rattle.guard_laws.proofs.RelayLemmas.{relay_unrefused}

-- ---- what no place refuses

-- an address that names a resource leads to it
to_named : (e : EntityData) (request : RequestParts) (target : ResourceData) (a : Result Addr AddrFault) → address_of e.home request.to ≡ a → addressed e request.to ≡ Some target → address_effect e request a ≡ as_done (operation_effect request.op e request target)
to_named e request target a is named = by_address a (ap (λ (x : Result Addr AddrFault). option_and_then (resource_at e.nodes) (named_here x e.nodes)) (sym is) ∙ named)
  where
    by_spot : (spot : Option Spot) → option_and_then (resource_at e.nodes) spot ≡ Some target → as_done (spot_effect e request spot) ≡ as_done (operation_effect request.op e request target)
    by_spot None found = absurd (none-some target found)
    by_spot (Some (Resource n)) found = ap (λ (r : Option ResourceData). as_done (resource_effect e request r)) found
    by_spot (Some (Fan group place)) found = absurd (none-some target found)
    by_spot (Some (Poll channel)) found = absurd (none-some target found)

    by_address : (x : Result Addr AddrFault) → option_and_then (resource_at e.nodes) (named_here x e.nodes) ≡ Some target → address_effect e request x ≡ as_done (operation_effect request.op e request target)
    by_address (Ok (Local segments)) found = by_spot (spot_of segments e.nodes) found
    by_address (Ok (Foreign text)) found = absurd (none-some target found)
    by_address (Ok OtherProvider) found = absurd (none-some target found)
    by_address (Err fault) found = absurd (none-some target found)

module _ (e : EntityData) (request : RequestParts) (r : ResourceData) where
  abbrev o : List ℕ
  o = claimed_originator e.home request

  -- where no place refuses it, a change is done, and its reply is that
  done_unrefused : (op : Op) → fault_on op e o request r ≡ None → (change_effect op e request r).reply ≡ (effect_by op e o request r).reply
  unfolding change_effect
  done_unrefused op none = ap (λ (f : Option Rsc). (option_map_or (refused e request) f (told_effect_by op e o request r)).reply) none

  -- the places of a creation
  create_unrefused : (ty : Ty) → child_ty request ≡ Some ty → MayBeDone Create e request r → fault_on Create e o request r ≡ None
  create_unrefused ty is may =
      let new = may.creation ty is in
      let members = members_parts e (membership_new (creation_by e o request r ty)) new.members in
      let none : fault_new (creation_by e o request r ty) ≡ None = rw (members.addresses, new.unique, new.room, members.few, members.consistent) refl in
      let all : fault_on Create e o request r ≡ first_fault (creation_places Create e o request r) = rw (may.right, may.child, may.content, may.expiry, may.links) refl in
      all ∙ ap (λ (x : Option Ty). first_fault (option_map_or (λ (y : Ty). new_places (creation_by e o request r y)) x [])) is ∙ none

  update_unrefused : MayBeDone Update e request r → fault_on Update e o request r ≡ None
  update_unrefused may =
      let members = members_parts e (membership_edited r (named_by Update request r)) may.creation in
      rw (may.right, may.type, may.content, may.expiry, may.links, members.addresses, members.few, members.consistent) refl

  delete_unrefused : MayBeDone Delete e request r → fault_on Delete e o request r ≡ None
  delete_unrefused may = rw (may.right, may.type) refl

  notify_unrefused : MayBeDone Notify e request r → fault_on Notify e o request r ≡ None
  notify_unrefused may = rw (may.right, may.type) refl

  -- ---- what is answered

  created : (ty : Option Ty) → child_ty request ≡ ty → MayBeDone Create e request r → IsSuccess Create e request r (Done (change_effect Create e request r).reply)
  created None is may = absurd (false≢true (sym (ap (λ (x : Option Ty). option_map_or (does_take r.ty) x false) is) ∙ may.child))
  created (Some ty) is may =
      let done = done_unrefused Create (create_unrefused ty is may) in
      ap Done done ∙ rw is refl

  updated : MayBeDone Update e request r → IsSuccess Update e request r (Done (change_effect Update e request r).reply)
  updated may = ap Done (done_unrefused Update (update_unrefused may))

  deleted : MayBeDone Delete e request r → IsSuccess Delete e request r (Done (change_effect Delete e request r).reply)
  deleted may = ap Done (done_unrefused Delete (delete_unrefused may))

  notified : MayBeDone Notify e request r → IsSuccess Notify e request r (Done (relay_effect e request r).reply)
  notified may = ap (λ (x : Effect). Done x.reply) (relay_unrefused e request r (notify_unrefused may))

  read : at r.number e.nodes ≡ Some r → MayBeDone Retrieve e request r → IsSuccess Retrieve e request r (Done (reading_reply e request r.number))
  read there may = elim (cases_Bool (is_discovery request)) [
    | inl d ↦
        let right : grants e.home e.nodes o (reading_bit true) r.number ≡ true = sym (ap (λ (b : Bool). grants e.home e.nodes o (reading_bit b) r.number) d) ∙ may.right in
        ap Done (reading_found e request r.number o refl d ∙ rw (d, right) refl)
    | inr d ↦
        let right : grants e.home e.nodes o (reading_bit false) r.number ≡ true = sym (ap (λ (b : Bool). grants e.home e.nodes o (reading_bit b) r.number) d) ∙ may.right in
        let meets = may.conditions d in
        ap Done (reading_shown e request r.number o refl d
        ∙ ap (λ (x : Option ResourceData). option_map_or (retrieved_of e.home e.nodes o request) x (refusal request NotFound)) there
        ∙ rw (d, right, meets) refl)
  ]

  succeeds : (op : Op) → at r.number e.nodes ≡ Some r → MayBeDone op e request r → IsSuccess op e request r (Done (operation_effect op e request r).reply)
  succeeds Create there may = created (child_ty request) refl may
  succeeds Retrieve there may = read there may
  succeeds Update there may = updated may
  succeeds Delete there may = deleted may
  succeeds Notify there may = notified may

-- ---- a step

-- what an address names is there
there_where_named : (nodes : List ResourceData) (target : ResourceData) (spot : Option Spot) → option_and_then (resource_at nodes) spot ≡ Some target → at target.number nodes ≡ Some target
there_where_named nodes target None found = absurd (none-some target found)
there_where_named nodes target (Some (Resource n)) found = ap (λ (m : ℕ). at m nodes) (at_number n nodes target found) ∙ found
there_where_named nodes target (Some (Fan group place)) found = absurd (none-some target found)
there_where_named nodes target (Some (Poll channel)) found = absurd (none-some target found)

-- a step is answered by what comes of its request where no place refuses it, unless memory runs out
module _ (reading : ℕ) (request : RequestParts) (before after : EntityData) (P : Outcome → Type 0) (hears : MayBeHeard (swept reading before) request) (holds : P (address_effect (swept reading before) request (address_of (swept reading before).home request.to)).outcome) where
  by_outcome : (outcome : Outcome) → outcome ≡ (effect_of (swept reading before) request).outcome → P outcome
  by_outcome outcome is =
      let heard_so = heard (swept reading before) request hears.form hears.originator hears.address hears.time hears.blocking in
      subst P (sym (is ∙ ap (λ (x : EventEffect). x.outcome) heard_so)) holds

  heard_step : (outcome : Outcome) → Step reading (Ask request) before outcome after → P outcome ⊎ IsStarved outcome
  heard_step (Done reply) step = inl (by_outcome (Done reply) step.0)
  heard_step (Forward poa onward) step = inl (by_outcome (Forward poa onward) step.0)
  heard_step (Item given) step = absurd step
  heard_step Ticked step = absurd step
  heard_step (Starved done) step = inr tt

pub served_steps : WhatMayBeServedIsServed
served_steps reading request before after outcome target step hears named may =
    let e = swept reading before in
    let there = there_where_named e.nodes target (spot_asked e request) named in
    let is = to_named e request target (address_of e.home request.to) refl named in
    heard_step reading request before after (IsSuccess request.op e request target) hears
    (subst (λ (x : EventEffect). IsSuccess request.op e request target x.outcome) (sym is) (succeeds e request target request.op there may))
    outcome step

-- ---- at what isn't a resource

-- an address that names something here leads to it
to_spot : (e : EntityData) (request : RequestParts) (spot : Spot) (a : Result Addr AddrFault) → named_here a e.nodes ≡ Some spot → address_effect e request a ≡ as_done (spot_effect e request (Some spot))
to_spot e request spot (Ok (Local segments)) is = ap (λ (s : Option Spot). as_done (spot_effect e request s)) is
to_spot e request spot (Ok (Foreign text)) is = absurd (none-some spot is)
to_spot e request spot (Ok OtherProvider) is = absurd (none-some spot is)
to_spot e request spot (Err fault) is = absurd (none-some spot is)

-- so what it gives there is what it is answered
at_spot : (reading : ℕ) (request : RequestParts) (before after : EntityData) (outcome : Outcome) (spot : Spot) (effect : Effect) → Step reading (Ask request) before outcome after → MayBeHeard (swept reading before) request → spot_asked (swept reading before) request ≡ Some spot → spot_effect (swept reading before) request (Some spot) ≡ effect → (outcome ≡ Done effect.reply) ⊎ IsStarved outcome
at_spot reading request before after outcome spot effect step hears is gives =
    let e = swept reading before in
    heard_step reading request before after (λ (x : Outcome). x ≡ Done effect.reply) hears
    (ap (λ (x : EventEffect). x.outcome) (to_spot e request spot (address_of e.home request.to) is) ∙ ap (λ (x : Effect). Done x.reply) gives)
    outcome step

pub fanned_steps : WhatMayBeFannedOutIsFannedOut
fanned_steps reading request before after outcome n place group step hears is there right op =
    let e = swept reading before in
    let number : group.number ≡ n = at_number n e.nodes group there in
    let may : may_fan e request group.number ≡ true = ap (may_fan e request) number ∙ right in
    let gives : fan_effect e request (rest_of e.home request.to place) group ≡ fanned_by e request place group = rw (may, op) refl in
    at_spot reading request before after outcome (Fan n place) (fanned_by e request place group) step hears is
    (ap (λ (found : Option ResourceData). on_found e request (fan_effect e request (rest_of e.home request.to place)) found) there ∙ gives)

pub given_steps : WhatWaitsIsGiven
given_steps reading request before after outcome channel note step hears is op may waits =
    let e = swept reading before in
    let parts = and_parts (has channel e.nodes) _ may in
    let given : polled e (claimed_originator e.home request) request channel ≡ given_note e request channel note = rw (parts.1, waits) refl in
    at_spot reading request before after outcome (Poll channel) (given_note e request channel note) step hears is
    (poll_there e request channel parts.0
    ∙ ap (λ (p : Op). poll_effect p e request channel) op
    ∙ given)

pub taken_steps : WhatIsAnsweredIsTaken
taken_steps reading request before after outcome channel step hears is op there right answer =
    let e = swept reading before in
    let taken : poll_effect Notify e request channel ≡ taken_answer e request = rw (right, answer) refl in
    at_spot reading request before after outcome (Poll channel) (taken_answer e request) step hears is
    (poll_there e request channel there ∙ ap (λ (p : Op). poll_effect p e request channel) op ∙ taken)

-- the first URL of these points of access
first_of_points : (passed behind : List (List ℕ)) (url : List ℕ) → All (λ (p : List ℕ). is_url p ≡ false) passed → is_url url ≡ true → find is_url (passed ++ url ∷ behind) ≡ Some url
first_of_points [] behind url none is = cond-true _ _ _ is
first_of_points (p ∷ passed) behind url none is =
    cond-false _ _ _ (All-head (λ (q : List ℕ). is_url q ≡ false) p passed none)
    ∙ first_of_points passed behind url (All-tail (λ (q : List ℕ). is_url q ≡ false) p passed none) is

-- the CSE that is named so is there
named_cse : (nodes : List ResourceData) (cse : ResourceData) (n : Option ℕ) → option_and_then (λ k. at k nodes) n ≡ Some cse → at cse.number nodes ≡ Some cse
named_cse nodes cse None found = absurd (none-some cse found)
named_cse nodes cse (Some n) found = ap (λ (m : ℕ). at m nodes) (at_number n nodes cse found) ∙ found

pub onward_steps : WhatMayGoOnGoesOn
onward_steps reading request before after outcome text url passed behind cse step hears is named stays points none first =
    let e = swept reading before in
    let o = claimed_originator e.home request in
    let found : first_url cse ≡ Some url = ap (find is_url) points ∙ first_of_points passed behind url none first in
    let there : at cse.number e.nodes ≡ Some cse = named_cse e.nodes cse (cse_of (leading_cse_id text) e.nodes) named in
    let goes : routed e.nodes o (Foreign text) ≡ to.Forward cse.number =
    ap (λ (c : Option ResourceData). option_map_or (routed_to e.nodes o) c to.Unknown) named
    ∙ cond-false _ _ _ stays ∙ cond-true _ _ _ (ap is_some found) in
    let point : point_of e.nodes cse.number ≡ Some url = ap (option_and_then first_url) there ∙ found in
    heard_step reading request before after (λ (x : Outcome). x ≡ Forward url (forwarded e.home o request)) hears
    (ap (λ (a : Result Addr AddrFault). (address_effect e request a).outcome) is
    ∙ ap (λ (r : Route). (route_effect e request [] r).outcome) goes
    ∙ ap (λ (p : Option (List ℕ)). (onward_effect e request p).outcome) point)
    outcome step
