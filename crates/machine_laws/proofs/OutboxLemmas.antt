-- The outbox holds what was appended, less what was given away or dropped.
use Rattle.machine_laws.proofs.Words.{◌≡◌, ℕ, ◌≤◌, List, [], ◌∷◌, ◌++◌, append_assoc, map, find, take, Bool, true, false, cond, not, ◌&&◌, Option, Some, None, is_some, option_map, Result, Ok, Err, inl, inr, refl, sym, ap, subst, ◌∙◌, arith, list_all, option_and_then, option_map_or}
use Rattle.machine_laws.proofs.Terms.{Rsc, BadChild, BadRequest, NoPrivilege, NotFound, RequestTimeout, Op, Create, Retrieve, Update, Delete, Notify, Ty, NoteParts, RequestParts, HomeData, ResourceData, address_of, named_here, spot_of, Addr, Local, Foreign, OtherProvider, AddrFault, Spot, Resource, Fan, Poll, grants, retrieve_bit, at, has, is_to_send, still_waits, waits_for, EntityData, event_moment, items_from, still_waiting, swept, first_fault, on_found, refused, unless, creation_by, fault_on, child_ty, notify_effect, relayed, changes_by, create_effect, effect_by, gone_numbers, told_effect_by, told_effect_on, Event, Ask, Take, Tick, Outcome, Done, Forward, Given, Ticked, Starved, address_effect, addressed, as_done, effect_of, first_places, has_answer, onward_effect, point_of, poll_effect, resource_at, route_effect, spot_effect, after_members, fan_effect, fan_places, fanned, fanned_requests, member_effect, member_effect_at, member_effect_by, member_requests, rest_of, cse_named, first_url, comes_from_cse, routed_to, found_effect, operation_effect, History, HistoryLeaves, claimed_originator, has_right, IsCutShort, IsUnswept, Step, heard_members}
use Rattle.machine_laws.proofs.Facts.{and_from, and_parts, cases_Bool, or_cases, or_left, or_right, nat_tests, append-nil}
use Rattle.entity_model.proofs.TellingLemmas.{no_requests}
use Rattle.notify_outbox.specs.Outbox.{without_first}
use Rattle.notify_outbox.specs.declared.item.Item.{Item}
use Rattle.retarget.specs.declared.routing.Route.TheVariants as to
use Rattle.group_fanout.specs.Operations.{change_effect, relay_effect}
use Rattle.machine_laws.specs.Outbox.{Account, AccountStep, Accounted, Accounts, OutboxesAreAccounted, Waits, aged, aged_line, change_notes, channel_at, channel_polled, does_wait, done_notes, expired_account, expiry_items, found_items, given, is_dropped, is_justly_dropped, is_too_old, member_items, noted, notes_told, operation_notes, polled_by, relay_notes, request_items, requested_account, short_account, spot_items, waiting_of}
use Rattle.guard_laws.proofs.CutLemmas.{short_last}
use Rattle.cse_machine.proofs.SameLemmas.{done_keeps, onward_leaves}
use Rattle.cse_machine.proofs.WayLemmas.{given_note, taken_answer}

-- ---- what waits

abbrev waiting_line : Item → Accounted
waiting_line item = record { item = item; fate = Waits }

all_wait : (items : List Item) → waiting_of (map waiting_line items) ≡ items
all_wait [] = refl
all_wait (item ∷ items) = ap (λ (is : List Item). item ∷ is) (all_wait items)

waiting-noted : (items : List Item) (account : Account) → waiting_of (noted items account) ≡ waiting_of account ++ items
waiting-noted items [] = all_wait items
waiting-noted items (line ∷ account) = elim (cases_Bool (does_wait line.fate)) [
  | inl t ↦ rw t (ap (λ (is : List Item). line.item ∷ is) (waiting-noted items account))
  | inr f ↦ rw f (waiting-noted items account)
]

waiting-aged : (moment : ℕ) (account : Account) → waiting_of (aged moment account) ≡ still_waiting moment (waiting_of account)
waiting-aged moment [] = refl
waiting-aged moment (line ∷ account) = elim (cases_Bool (does_wait line.fate)) [
  | inl t ↦ elim (cases_Bool (still_waits moment line.item)) [
    | inl young ↦ rw (t, young) (rw t (ap (λ (is : List Item). line.item ∷ is) (waiting-aged moment account)))
    | inr old ↦ rw (t, old) (waiting-aged moment account)
  ]
  | inr f ↦ rw f (rw f (waiting-aged moment account))
]

waiting-given : (picks : Item → Bool) (account : Account) → waiting_of (given picks account) ≡ without_first picks (waiting_of account)
waiting-given picks [] = refl
waiting-given picks (line ∷ account) = elim (cases_Bool (does_wait line.fate)) [
  | inl t ↦ elim (cases_Bool (picks line.item)) [
    | inl is ↦ rw (t, is) refl
    | inr other ↦ rw (t, other) (rw t (ap (λ (is : List Item). line.item ∷ is) (waiting-given picks account)))
  ]
  | inr f ↦ rw f (rw f (waiting-given picks account))
]

-- ---- what was dropped had waited

later_old : (early late : ℕ) (item : Item) → early ≤ late → not (still_waits early item) ≡ true → not (still_waits late item) ≡ true
later_old early late item order old = grind (arith, nat_tests)

justly-aged : (early late : ℕ) (account : Account) → early ≤ late → list_all (is_justly_dropped early) account ≡ true → list_all (is_justly_dropped late) (aged late account) ≡ true
justly-aged early late [] order all = refl
justly-aged early late (line ∷ account) order all =
    let parts = and_parts (is_justly_dropped early line) (list_all (is_justly_dropped early) account) all in
    and_from _ _ (one parts.0) (justly-aged early late account order parts.1)
  where
    one : is_justly_dropped early line ≡ true → is_justly_dropped late (aged_line late line) ≡ true
    one was = elim (cases_Bool (is_too_old late line)) [
      | inl t ↦ rw t (and_parts (does_wait line.fate) (not (still_waits late line.item)) t).1
      | inr f ↦ rw f (elim (or_cases (not (is_dropped line.fate)) (not (still_waits early line.item)) was) [
        | inl stays ↦ or_left _ _ stays
        | inr old ↦ or_right _ _ (later_old early late line.item order old)
      ])
    ]

justly-noted : (moment : ℕ) (items : List Item) (account : Account) → list_all (is_justly_dropped moment) account ≡ true → list_all (is_justly_dropped moment) (noted items account) ≡ true
justly-noted moment [] [] all = refl
justly-noted moment (item ∷ items) [] all = justly-noted moment items [] refl
justly-noted moment items (line ∷ account) all =
    let parts = and_parts (is_justly_dropped moment line) (list_all (is_justly_dropped moment) account) all in
    and_from _ _ parts.0 (justly-noted moment items account parts.1)

justly-given : (moment : ℕ) (picks : Item → Bool) (account : Account) → list_all (is_justly_dropped moment) account ≡ true → list_all (is_justly_dropped moment) (given picks account) ≡ true
justly-given moment picks [] all = refl
justly-given moment picks (line ∷ account) all =
    let parts = and_parts (is_justly_dropped moment line) (list_all (is_justly_dropped moment) account) all in
    elim (cases_Bool (does_wait line.fate && picks line.item)) [
      | inl t ↦ rw t parts.1
      | inr f ↦ rw f (and_from _ _ parts.0 (justly-given moment picks account parts.1))
    ]

-- ---- an account of an entity

-- the account holds what waits at the entity, and what it dropped had waited
record Holds (e : EntityData) (account : Account) : Type 0 where
  waits : e.items ≡ waiting_of account
  dropped : list_all (is_justly_dropped e.last) account ≡ true

module _ (reading : ℕ) (e : EntityData) (account : Account) (holds : Holds e account) where
  abbrev moment : ℕ
  moment = event_moment e.last reading

  expired_waits : (swept reading e).items ≡ waiting_of (expired_account reading e account)
  expired_waits =
      ap (λ (items : List Item). still_waiting moment items ++ expiry_items reading e) holds.waits
      ∙ ap (λ (items : List Item). items ++ expiry_items reading e) (sym (waiting-aged moment account))
      ∙ sym (waiting-noted (expiry_items reading e) (aged moment account))

  expired_dropped : list_all (is_justly_dropped (event_moment e.last reading)) (expired_account reading e account) ≡ true
  expired_dropped =
      let later : e.last ≤ moment = omega arith in
      justly-noted moment (expiry_items reading e) (aged moment account) (justly-aged e.last moment account later holds.dropped)

  expired_holds : Holds (swept reading e) (expired_account reading e account)
  expired_holds = record { waits = expired_waits; dropped = expired_dropped }

-- ---- what a request appends

-- an operation by itself appends nothing
record AppendsNone (e after : EntityData) : Type 0 where
  home : after.home ≡ e.home
  last : after.last ≡ e.last
  items : after.items ≡ e.items
  numbered : after.numbered ≡ e.numbered

none_still : (e : EntityData) → AppendsNone e e
none_still e = record { home = refl; last = refl; items = refl; numbered = refl }

module _ (e : EntityData) (request : RequestParts) where
  abbrev o : List ℕ
  o = claimed_originator e.home request

  module _ (r : ResourceData) where
    joins_none : (c : Option Ty) → AppendsNone e (option_map_or (λ (ty : Ty). create_effect request (creation_by e o request r ty)) c (refused e request BadChild)).after
    joins_none None = none_still e
    joins_none (Some ty) = record { home = refl; last = refl; items = refl; numbered = refl }

    does_none : (op : Op) → AppendsNone e (effect_by op e o request r).after
    does_none Create = joins_none (child_ty request)
    does_none Retrieve = none_still e
    does_none Update = record { home = refl; last = refl; items = refl; numbered = refl }
    does_none Delete = record { home = refl; last = refl; items = refl; numbered = refl }
    does_none Notify = none_still e

    -- and what is told of it is appended
    done_items : (op : Op) → (told_effect_by op e o request r).after.items ≡ e.items ++ items_from e.numbered e.last (done_notes op e request r.number (effect_by op e o request r).after)
    done_items op =
        let after = (effect_by op e o request r).after in
        let none = does_none op in
        let going = gone_numbers e after in
        let changes = changes_by op request r.number e after in
        ap (λ (h : HomeData). after.items ++ items_from after.numbered after.last (notes_told h e.nodes going changes)) none.home
        ∙ ap (λ (m : ℕ). after.items ++ items_from after.numbered m (notes_told e.home e.nodes going changes)) none.last
        ∙ ap (λ (n : ℕ). after.items ++ items_from n e.last (notes_told e.home e.nodes going changes)) none.numbered
        ∙ ap (λ (items : List Item). items ++ items_from e.numbered e.last (notes_told e.home e.nodes going changes)) none.items

    told_items : (op : Op) → (told_effect_on op e o request r).after.items ≡ e.items ++ items_from e.numbered e.last (change_notes op e request r)
    told_items op = by (fault_on op e o request r)
      where
        by : (f : Option Rsc) → (option_map_or (refused e request) f (told_effect_by op e o request r)).after.items ≡ e.items ++ items_from e.numbered e.last (option_map_or (λ (fault : Rsc). []) f (done_notes op e request r.number (effect_by op e o request r).after))
        by None = done_items op
        by (Some fault) = sym (append-nil e.items)

    -- a Retrieve tells nothing
    read_none : change_notes Retrieve e request r ≡ []
    read_none = by (fault_on Retrieve e o request r)
      where
        by : (f : Option Rsc) → option_map_or (λ (fault : Rsc). []) f (done_notes Retrieve e request r.number e) ≡ []
        by None = no_requests e.home e.nodes
        by (Some fault) = refl

    changed_items : (op : Op) → (change_effect op e request r).after.items ≡ e.items ++ items_from e.numbered e.last (change_notes op e request r)
    unfolding change_effect
    changed_items op = told_items op

    -- a Notify appends what is handed on
    relayed_items : (f : Option Rsc) → (option_map_or (refused e request) f (notify_effect e o request)).after.items ≡ e.items ++ items_from e.numbered e.last (option_map_or (λ (fault : Rsc). []) f (relayed e o request ∷ []))
    relayed_items None = refl
    relayed_items (Some fault) = sym (append-nil e.items)

    relay_items : (relay_effect e request r).after.items ≡ e.items ++ items_from e.numbered e.last (relay_notes e request r)
    unfolding relay_effect
    relay_items = relayed_items (fault_on Notify e o request r)

    operated_items : (op : Op) → (operation_effect op e request r).after.items ≡ e.items ++ items_from e.numbered e.last (operation_notes op e request r)
    operated_items Create = changed_items Create
    operated_items Retrieve =
        sym (append-nil e.items) ∙ ap (λ (notes : List NoteParts). e.items ++ items_from e.numbered e.last notes) (sym read_none)
    operated_items Update = changed_items Update
    operated_items Delete = changed_items Delete
    operated_items Notify = relay_items

  abbrev Appends : List Item → EntityData → Type 0
  Appends items after = after.items ≡ e.items ++ items

  pub nothing_appended : e.items ≡ e.items ++ []
  nothing_appended = sym (append-nil e.items)

  pub found_appends : (found : Option ResourceData) → (found_effect request.op e request found).after.items ≡ e.items ++ found_items e request found
  found_appends None = nothing_appended
  found_appends (Some r) = operated_items r request.op

  -- a request to a member appends what it would by itself
  member_at_appends : (spot : Option Spot) → Appends (found_items e request (option_and_then (resource_at e.nodes) spot)) (member_effect_at e request spot).after
  member_at_appends None = nothing_appended
  member_at_appends (Some (Resource n)) = found_appends (at n e.nodes)
  member_at_appends (Some (Fan group place)) = nothing_appended
  member_at_appends (Some (Poll channel)) = nothing_appended

  pub member_appends : (member_effect e request).after.items ≡ e.items ++ found_items e request (addressed e request.to)
  member_appends = by_address (address_of e.home request.to)
    where
      by_address : (a : Result Addr AddrFault) → Appends (found_items e request (option_and_then (resource_at e.nodes) (named_here a e.nodes))) (member_effect_by e request a).after
      by_address (Ok (Local segments)) = member_at_appends (spot_of segments e.nodes)
      by_address (Ok (Foreign text)) = nothing_appended
      by_address (Ok OtherProvider) = nothing_appended
      by_address (Err fault) = nothing_appended

-- and so do they all
members_append : (requests : List RequestParts) (e : EntityData) → (after_members e requests).items ≡ e.items ++ member_items e requests
members_append [] e = sym (append-nil e.items)
members_append (request ∷ requests) e =
    let after = (member_effect e request).after in
    members_append requests after
    ∙ ap (λ (items : List Item). items ++ member_items after requests) (member_appends e request)
    ∙ append_assoc e.items (found_items e request (addressed e request.to)) (member_items after requests)

module _ (e : EntityData) (request : RequestParts) where
  -- what is left of the items, where this channel was polled, or these were appended
  abbrev items_left : Option ℕ → List Item → List Item
  items_left polled items = option_map_or (λ (c : ℕ). without_first (waits_for c) e.items) polled (e.items ++ items)

  abbrev Leaves : Option ℕ → List Item → EntityData → Type 0
  Leaves polled items after = after.items ≡ items_left polled items

  still_items : Leaves None [] e
  still_items = sym (append-nil e.items)

  -- where none waits, nothing is taken
  none_waits : (channel : ℕ) (items : List Item) → find (waits_for channel) items ≡ None → items ≡ without_first (waits_for channel) items
  none_waits channel [] none = refl
  none_waits channel (item ∷ items) none = elim (cases_Bool (waits_for channel item)) [
    | inl t ↦ (let some : Some item ≡ None = rw t at none in cc)
    | inr f ↦ (let rest : find (waits_for channel) items ≡ None = rw f at none in rw f (ap (λ (is : List Item). item ∷ is) (none_waits channel items rest)))
  ]

  given_items : (channel : ℕ) (found : Option Item) → find (waits_for channel) e.items ≡ found → Leaves (Some channel) [] (option_map_or (λ (n : NoteParts). given_note e request channel n) (option_map (λ (i : Item). i.note) found) (refused e request RequestTimeout)).after
  given_items channel None none = none_waits channel e.items none
  given_items channel (Some item) some = refl

  polled_items : (channel : ℕ) (op : Op) → has channel e.nodes ≡ true → Leaves (polled_by op e request channel) [] (poll_effect op e request channel).after
  polled_items channel Create there = still_items
  polled_items channel Retrieve there = elim (cases_Bool (grants e.home e.nodes (claimed_originator e.home request) retrieve_bit channel)) [
    | inl t ↦ rw (there, t) (given_items channel (find (waits_for channel) e.items) refl)
    | inr f ↦ rw (there, f) still_items
  ]
  polled_items channel Update there = still_items
  polled_items channel Delete there = still_items
  polled_items channel Notify there = answered_items (has_right e request channel) (has_answer request)
    where
      answered_items : (right answers : Bool) → Leaves None [] (option_map_or (refused e request) (first_fault (unless right NoPrivilege ∷ unless answers BadRequest ∷ [])) (taken_answer e request)).after
      answered_items false answers = still_items
      answered_items true false = still_items
      answered_items true true = still_items

  -- a fan-out appends what its members do
  group_items : (rest : List (List ℕ)) (g : ResourceData) (fault : Option Rsc) → Leaves None (member_items e (option_map_or (λ (f : Rsc). []) fault (member_requests request rest g))) (option_map_or (refused e request) fault (fanned e request (member_requests request rest g))).after
  group_items rest g None = members_append (member_requests request rest g) e
  group_items rest g (Some fault) = still_items

  fan_items : (rest : List (List ℕ)) (found : Option ResourceData) → Leaves None (member_items e (option_map_or (fanned_requests e request rest) found [])) (on_found e request (fan_effect e request rest) found).after
  fan_items rest None = still_items
  fan_items rest (Some g) = group_items rest g (first_fault (fan_places e request g))

  spot_left : (spot : Option Spot) → Leaves (channel_at e request spot) (spot_items e request spot) (spot_effect e request spot).after
  spot_left None = still_items
  spot_left (Some (Resource n)) = found_appends e request (at n e.nodes)
  spot_left (Some (Fan group place)) = fan_items (rest_of e.home request.to place) (at group e.nodes)
  spot_left (Some (Poll channel)) = elim (cases_Bool (has channel e.nodes)) [
    | inl t ↦ subst (λ (b : Bool). Leaves (polled_by request.op e request channel) [] (cond b (poll_effect request.op e request channel) (refused e request NotFound)).after) (sym t) (polled_items channel request.op t)
    | inr f ↦ subst (λ (b : Bool). Leaves (polled_by request.op e request channel) [] (cond b (poll_effect request.op e request channel) (refused e request NotFound)).after) (sym f) (absent_items request.op f)
  ]
    where
      absent_items : (op : Op) → has channel e.nodes ≡ false → Leaves (polled_by op e request channel) [] e
      absent_items Create none = still_items
      absent_items Retrieve none = rw none still_items
      absent_items Update none = still_items
      absent_items Delete none = still_items
      absent_items Notify none = still_items

  -- what goes elsewhere appends nothing
  onward_items : (poa : Option (List ℕ)) → (onward_effect e request poa).after.items ≡ e.items ++ []
  onward_items None = still_items
  onward_items (Some poa) = still_items

  cse_items : (cse : ResourceData) (far some : Bool) → (route_effect e request [] (cond far to.NoHop (cond some (to.Forward cse.number) to.NoPoint))).after.items ≡ e.items ++ []
  cse_items cse true some = still_items
  cse_items cse false false = still_items
  cse_items cse false true = onward_items (point_of e.nodes cse.number)

  elsewhere_items : (cse : Option ResourceData) → (route_effect e request [] (option_map_or (routed_to e.nodes (claimed_originator e.home request)) cse to.Unknown)).after.items ≡ e.items ++ []
  elsewhere_items None = still_items
  elsewhere_items (Some cse) = cse_items cse (comes_from_cse e.nodes (claimed_originator e.home request)) (is_some (first_url cse))

  addressed_items : (a : Result Addr AddrFault) → Leaves (channel_at e request (named_here a e.nodes)) (spot_items e request (named_here a e.nodes)) (address_effect e request a).after
  addressed_items (Ok (Local segments)) = spot_left (spot_of segments e.nodes)
  addressed_items (Ok (Foreign text)) = elsewhere_items (cse_named text e.nodes)
  addressed_items (Ok OtherProvider) = still_items
  addressed_items (Err fault) = still_items

  judged_items : (f : Option Rsc) (a : Result Addr AddrFault) → Leaves (option_map_or (λ (fault : Rsc). None) f (channel_at e request (named_here a e.nodes))) (option_map_or (λ (fault : Rsc). []) f (spot_items e request (named_here a e.nodes))) (option_map_or (λ (fault : Rsc). as_done (refused e request fault)) f (address_effect e request a)).after
  judged_items None a = addressed_items a
  judged_items (Some fault) a = still_items

  -- a request polls, or appends its items
  asked_items : (effect_of e request).after.items ≡ items_left (channel_polled e request) (request_items e request)
  asked_items = judged_items (first_fault (first_places e request)) (address_of e.home request.to)

  -- and so does its account
  requested_waits : (account : Account) → e.items ≡ waiting_of account → (effect_of e request).after.items ≡ waiting_of (requested_account e request account)
  requested_waits account waits = asked_items ∙ by (channel_polled e request)
    where
      by : (polled : Option ℕ) → items_left polled (request_items e request) ≡ waiting_of (option_map_or (λ (c : ℕ). given (waits_for c) account) polled (noted (request_items e request) account))
      by None = ap (λ (items : List Item). items ++ request_items e request) waits ∙ sym (waiting-noted (request_items e request) account)
      by (Some c) = ap (without_first (waits_for c)) waits ∙ sym (waiting-given (waits_for c) account)

  requested_dropped : (account : Account) → list_all (is_justly_dropped e.last) account ≡ true → list_all (is_justly_dropped e.last) (requested_account e request account) ≡ true
  requested_dropped account dropped = by (channel_polled e request)
    where
      by : (polled : Option ℕ) → list_all (is_justly_dropped e.last) (option_map_or (λ (c : ℕ). given (waits_for c) account) polled (noted (request_items e request) account)) ≡ true
      by None = justly-noted e.last (request_items e request) account dropped
      by (Some c) = justly-given e.last (waits_for c) account dropped

-- ---- a step

-- what a step makes of an account
record Goes (reading : ℕ) (event : Event) (before : EntityData) (outcome : Outcome) (after : EntityData) (account : Account) : Type 0 where
  next : Account
  goes : AccountStep reading event before outcome after account next
  holds : Holds after next

same_holds : (e after : EntityData) (account : Account) → after ≡ e → Holds e account → Holds after account
same_holds e after account same holds = subst (λ (x : EntityData). Holds x account) (sym same) holds

-- where memory ran out in the expiry, nothing is done
unswept_goes : (reading : ℕ) (before after : EntityData) (done : ℕ) (account : Account) → Holds before account → IsUnswept reading before done after → Holds after account
unswept_goes reading before after done account holds unswept = same_holds before after account unswept.same holds

-- where it ran out in a fan-out, its first members have appended their items
short_goes : (reading : ℕ) (request : RequestParts) (before after : EntityData) (done : ℕ) (account : Account) → Holds before account → IsCutShort (swept reading before) request done after → Holds after (short_account reading request before done account)
short_goes reading request before after done account holds short =
    let e = swept reading before in
    let some = take done (heard_members e request) in
    let expired = expired_account reading before account in
    let swept_holds = expired_holds reading before account holds in
    record {
      waits = ap (λ (x : EntityData). x.items) short.left ∙ members_append some e
          ∙ ap (λ (items : List Item). items ++ member_items e some) swept_holds.waits
          ∙ sym (waiting-noted (member_items e some) expired);
      dropped = ap (λ (m : ℕ). list_all (is_justly_dropped m) (noted (member_items e some) expired)) (short_last e request done after short)
          ∙ justly-noted e.last (member_items e some) expired swept_holds.dropped;
    }

step_goes : (reading : ℕ) (event : Event) (before after : EntityData) (outcome : Outcome) (account : Account) → Holds before account → Step reading event before outcome after → Goes reading event before outcome after account
step_goes reading (Ask request) before after (Done reply) account holds step =
    let e = swept reading before in
    let expired = expired_account reading before account in
    let kept = done_keeps reading request before after reply step in
    let swept_holds = expired_holds reading before account holds in
    record {
      next = requested_account e request expired;
      goes = refl;
      holds = record {
        waits = ap (λ (x : EntityData). x.items) step.1 ∙ requested_waits e request expired swept_holds.waits;
        dropped = ap (λ (m : ℕ). list_all (is_justly_dropped m) (requested_account e request expired)) kept.last
            ∙ requested_dropped e request expired swept_holds.dropped;
      };
    }
step_goes reading (Ask request) before after (Forward poa onward) account holds step = record {
  next = expired_account reading before account;
  goes = refl;
  holds = same_holds (swept reading before) after (expired_account reading before account) (onward_leaves reading request before after poa onward step) (expired_holds reading before account holds);
}
step_goes reading (Ask request) before after (Starved done) account holds step = elim step [
  | inl short ↦ record {
    next = short_account reading request before done account;
    goes = inl (short, refl);
    holds = short_goes reading request before after done account holds short;
  }
  | inr unswept ↦ record { next = account; goes = inr (unswept, refl); holds = unswept_goes reading before after done account holds unswept }
]
step_goes reading (Ask request) before after (Given sent) account holds step = absurd step
step_goes reading (Ask request) before after Ticked account holds step = absurd step
step_goes reading Take before after (Done reply) account holds step = absurd step
step_goes reading Take before after (Forward poa onward) account holds step = absurd step
step_goes reading Take before after (Given sent) account holds step =
    let e = swept reading before in
    let expired = expired_account reading before account in
    let swept_holds = expired_holds reading before account holds in
    record {
      next = given (is_to_send e.nodes) expired;
      goes = refl;
      holds = record {
        waits = ap (λ (x : EntityData). x.items) step.1
            ∙ ap (without_first (is_to_send e.nodes)) swept_holds.waits
            ∙ sym (waiting-given (is_to_send e.nodes) expired);
        dropped = ap (λ (x : EntityData). list_all (is_justly_dropped x.last) (given (is_to_send e.nodes) expired)) step.1
            ∙ justly-given e.last (is_to_send e.nodes) expired swept_holds.dropped;
      };
    }
step_goes reading Take before after Ticked account holds step = absurd step
step_goes reading Take before after (Starved done) account holds step =
    record { next = account; goes = (step, refl); holds = unswept_goes reading before after done account holds step }
step_goes reading Tick before after (Done reply) account holds step = absurd step
step_goes reading Tick before after (Forward poa onward) account holds step = absurd step
step_goes reading Tick before after (Given sent) account holds step = absurd step
step_goes reading Tick before after Ticked account holds step = record {
  next = expired_account reading before account;
  goes = refl;
  holds = same_holds (swept reading before) after (expired_account reading before account) step (expired_holds reading before account holds);
}
step_goes reading Tick before after (Starved done) account holds step =
    record { next = account; goes = (step, refl); holds = unswept_goes reading before after done account holds step }

-- ---- along a history

record GoesOn (before : EntityData) (account : Account) (history : History) (after : EntityData) : Type 0 where
  final : Account
  steps : Accounts before account history after final
  holds : Holds after final

goes_on : (history : History) (before after : EntityData) (account : Account) → Holds before account → HistoryLeaves before history after → GoesOn before account history after
goes_on [] before after account holds run =
    record { final = account; steps = (run, refl); holds = same_holds before after account run holds }
goes_on (entry ∷ history) before after account holds run =
    let one = step_goes entry.reading entry.event before run.0 entry.outcome account holds run.1 in
    let rest = goes_on history run.0 after one.next one.holds run.2 in
    record { final = rest.final; steps = (run.0, one.next, run.1, one.goes, rest.steps); holds = rest.holds }

pub accounted : OutboxesAreAccounted
accounted opening e history empty run =
    let on = goes_on history opening e [] (record { waits = empty; dropped = refl }) run in
    record { account = on.final; steps = on.steps; waits = on.holds.waits; dropped = on.holds.dropped }
