-- Two entities of which an originator sees the same answer its request alike at whatever its address
-- names, and leave what holds of both, where they do so at each resource.
use Rattle.machine_laws.proofs.Words.{◌≡◌, ℕ, List, [], ◌∷◌, map, Bool, true, false, cond, ◌&&◌, Option, Some, None, is_some, option_map, Result, Ok, Err, refl, sym, ap, ap₂, subst, ◌∙◌, option_and_then, option_map_or}
use Rattle.machine_laws.proofs.Terms.{op_row, Rsc, BadRequest, NoPrivilege, NotAllowed, NotFound, RequestTimeout, Op, Create, Retrieve, Update, Delete, Notify, Group, RequestParts, HomeData, ResourceData, is_ty, at, has, is_well_formed, address_of, named_here, is_at, spot_of, Addr, Local, Foreign, OtherProvider, AddrFault, Spot, Resource, Fan, Poll, delete_bit, do_give, fan_grants, grants, notify_bit, relinks, update_bit, fan_rules, seen, seen_list, cse_named, first_url, EntityData, Effect, first_fault, on_found, reading_bit, refused, unless, create_bits, is_relink, may_do, retrieve_bits, comes_from_cse, routed_to, Done, EventEffect, address_effect, as_done, effect_of, first_places, has_answer, onward_effect, point_of, poll_effect, route_effect, spot_effect, fan_effect, fan_effect_at, fanned, is_fanned, listed_members, may_fan, member_effect, member_effect_at, member_effect_by, member_requests, requests_to, rest_of, sent_to, with_rest, resource_effect, claimed_originator, has_right}
use Rattle.machine_laws.proofs.Facts.{false≢true, none-some, same_Some, tree_from_well_formed, at_number, has-map, fan_grants-seen, grants-seen, relinks-seen, AreLeftAlike, AreSeenAlike, FoundAlike, both_ways, found_alike, found_both, not_found, same_home, seen_same}
use Rattle.sight_laws.proofs.SpotLemmas.{spot_of-seen}
use Rattle.notify_outbox.specs.declared.item.Item.{Item as OutboxItem}
use Rattle.primitive_json.specs.declared.note.NoteParts.{NoteParts}
use Rattle.retarget.specs.declared.routing.Route.TheVariants as to
use Rattle.retrieve_discover.specs.Polling.{first_waiting, handed_on, without_waiting}
use Rattle.retrieve_discover.specs.Replies.{success}
use Rattle.machine_laws.specs.Sight.{does_poll, is_poll, polls_at, sight}
use Rattle.machine_laws.proofs.FanSightLemmas.{fan_alike, fan_named, group_there, members_seen}
use Rattle.machine_laws.proofs.RouteSightLemmas.{AreOrdered, comes-seen, cse_named-seen, cse_there, in_order_at, url-seen}
use Rattle.cse_machine.specs.Answer.{spot_asked}
use Rattle.cse_machine.proofs.WayLemmas.{taken_answer}

-- two effects that leave entities of which this holds, and reply the same but to a poll
pub record AreLeftSo (Rel : EntityData → EntityData → Type 0) (poll : Bool) (x y : Effect) : Type 0 where
  pub reply : poll ≡ false → x.reply ≡ y.reply
  pub after : Rel x.after y.after

-- two effects of events, so
pub record AreAnsweredSo (Rel : EntityData → EntityData → Type 0) (poll : Bool) (x y : EventEffect) : Type 0 where
  pub outcome : poll ≡ false → x.outcome ≡ y.outcome
  pub after : Rel x.after y.after

left_so : (Rel : EntityData → EntityData → Type 0) (poll : Bool) (x y : Effect) → AreLeftAlike Rel x y → AreLeftSo Rel poll x y
left_so Rel poll x y alike = record { reply = λ other. alike.reply; after = alike.after }

done_so : (Rel : EntityData → EntityData → Type 0) (poll : Bool) (x y : Effect) → AreLeftSo Rel poll x y → AreAnsweredSo Rel poll (as_done x) (as_done y)
done_so Rel poll x y so = record { outcome = λ other. ap Done (so.reply other); after = so.after }

pub by_place : (Rel : EntityData → EntityData → Type 0) (poll : Bool) (e other : EntityData) (request : RequestParts) (f : Option Rsc) (x y : EventEffect) → Rel e other → AreAnsweredSo Rel poll x y → AreAnsweredSo Rel poll (option_map_or (λ (fault : Rsc). as_done (refused e request fault)) f x) (option_map_or (λ (fault : Rsc). as_done (refused other request fault)) f y)
by_place Rel poll e other request None x y rel so = so
by_place Rel poll e other request (Some fault) x y rel so = record { outcome = λ other_one. refl; after = rel }

-- ---- what two entities have alike

module _ (o : List ℕ) (one other : EntityData) (same : sight o one ≡ sight o other) where
  nodes_same : seen_list one.home one.nodes o ≡ seen_list other.home other.nodes o
  nodes_same = ap (λ (e : EntityData). e.nodes) same

  -- what holds of what is seen of each, holds of both
  pub both_seen : {X : Type 0} (f : HomeData → List ResourceData → X) → f one.home (seen_list one.home one.nodes o) ≡ f one.home one.nodes → f other.home (seen_list other.home other.nodes o) ≡ f other.home other.nodes → f one.home one.nodes ≡ f other.home other.nodes
  both_seen f first second =
      sym first
      ∙ ap₂ f (same_home o one other same) nodes_same
      ∙ second

  pub spots_same : (segments : List (List ℕ)) → spot_of segments one.nodes ≡ spot_of segments other.nodes
  spots_same segments =
      both_seen (λ home nodes. spot_of segments nodes) (spot_of-seen one.home one.nodes o segments) (spot_of-seen other.home other.nodes o segments)

  -- what the address of a request names
  pub asked_same : (request : RequestParts) → spot_asked one request ≡ spot_asked other request
  asked_same request =
      by (address_of one.home request.to)
      ∙ ap (λ (h : HomeData). named_here (address_of h request.to) other.nodes) (same_home o one other same)
    where
      by : (a : Result Addr AddrFault) → named_here a one.nodes ≡ named_here a other.nodes
      by (Ok (Local segments)) = spots_same segments
      by (Ok (Foreign text)) = refl
      by (Ok OtherProvider) = refl
      by (Err fault) = refl

  there_same : (n : ℕ) → has n one.nodes ≡ has n other.nodes
  there_same n =
      both_seen (λ home nodes. has n nodes) (has-map (seen one.home one.nodes o) (λ r. refl) n one.nodes) (has-map (seen other.home other.nodes o) (λ r. refl) n other.nodes)

  -- the rights of the originator
  grants_same : (bit n : ℕ) → grants one.home one.nodes o bit n ≡ grants other.home other.nodes o bit n
  grants_same bit n =
      both_seen (λ home nodes. grants home nodes o bit n) (grants-seen one.home one.nodes o bit n) (grants-seen other.home other.nodes o bit n)

  relinks_same : (n : ℕ) → relinks one.home one.nodes o n ≡ relinks other.home other.nodes o n
  relinks_same n =
      both_seen (λ home nodes. relinks home nodes o n) (relinks-seen one.home one.nodes o n) (relinks-seen other.home other.nodes o n)

  fans_same : (bit n : ℕ) → fan_grants one.home one.nodes o bit n ≡ fan_grants other.home other.nodes o bit n
  fans_same bit n =
      both_seen (λ home nodes. fan_grants home nodes o bit n) (fan_grants-seen one.home one.nodes o bit n) (fan_grants-seen other.home other.nodes o bit n)

  may_same : (op : Op) (request : RequestParts) (n : ℕ) → may_do op one o request n ≡ may_do op other o request n
  may_same Create request n = grants_same (create_bits request) n
  may_same Retrieve request n = grants_same (retrieve_bits request) n
  may_same Update request n = ap₂ (cond (is_relink request)) (relinks_same n) (grants_same update_bit n)
  may_same Delete request n = grants_same delete_bit n
  may_same Notify request n = grants_same notify_bit n

-- ---- at a spot, and at an address

-- What holds of two entities of which the originator sees the same, and of what is left of them after
-- its request to a member: what an address names is the same, and an operation on a resource is
-- answered alike and leaves it so.
pub record IsCarried (o : List ℕ) (request : RequestParts) (Is : EntityData → Type 0) (Rel : EntityData → EntityData → Type 0) : Type 0 where
  pub by : (e : EntityData) → Is e → claimed_originator e.home request ≡ o
  pub well : (e : EntityData) → Is e → is_well_formed e.nodes ≡ true
  pub stays : (e : EntityData) (address : List ℕ) → Is e → Is (member_effect e (sent_to request address)).after
  pub from : (one other : EntityData) → Is one → Is other → sight o one ≡ sight o other → Rel one other
  pub homes : (one other : EntityData) → Rel one other → one.home ≡ other.home
  pub spots : (one other : EntityData) → Rel one other → (segments : List (List ℕ)) → spot_of segments one.nodes ≡ spot_of segments other.nodes
  pub items : (one other : EntityData) → Rel one other → (first second : List OutboxItem) → Rel (record one { items = first }) (record other { items = second })
  pub resources : (one other : EntityData) (address : List ℕ) (n : ℕ) → Is one → Is other → Rel one other → AreLeftAlike Rel (resource_effect one (sent_to request address) (at n one.nodes)) (resource_effect other (sent_to request address) (at n other.nodes))

module _ (o : List ℕ) (request : RequestParts) (Is : EntityData → Type 0) (Rel : EntityData → EntityData → Type 0) (carried : IsCarried o request Is Rel) where
  by : (e : EntityData) → Is e → claimed_originator e.home request ≡ o
  by = carried.by

  still_alike : (one other : EntityData) (r : RequestParts) (fault : Rsc) → Rel one other → AreLeftAlike Rel (refused one r fault) (refused other r fault)
  still_alike one other r fault rel = record { reply = refl; after = rel }

  by_fault_so : (one other : EntityData) (f : Option Rsc) (x y : Effect) → Rel one other → AreLeftAlike Rel x y → AreLeftAlike Rel (option_map_or (refused one request) f x) (option_map_or (refused other request) f y)
  by_fault_so one other None x y rel alike = alike
  by_fault_so one other (Some fault) x y rel alike = record { reply = refl; after = rel }

  -- ---- a member

  member_at_alike : (one other : EntityData) (address : List ℕ) (spot : Option Spot) → Is one → Is other → Rel one other → AreLeftAlike Rel (member_effect_at one (sent_to request address) spot) (member_effect_at other (sent_to request address) spot)
  member_at_alike one other address None is are rel = still_alike one other (sent_to request address) NotFound rel
  member_at_alike one other address (Some (Resource n)) is are rel = carried.resources one other address n is are rel
  member_at_alike one other address (Some (Fan group place)) is are rel = still_alike one other (sent_to request address) NotAllowed rel
  member_at_alike one other address (Some (Poll channel)) is are rel = still_alike one other (sent_to request address) NotAllowed rel

  member_by_alike : (one other : EntityData) (address : List ℕ) (a : Result Addr AddrFault) → Is one → Is other → Rel one other → AreLeftAlike Rel (member_effect_by one (sent_to request address) a) (member_effect_by other (sent_to request address) a)
  member_by_alike one other address (Ok (Local segments)) is are rel =
      subst (λ (spot : Option Spot). AreLeftAlike Rel (member_effect_at one (sent_to request address) (spot_of segments one.nodes)) (member_effect_at other (sent_to request address) spot)) (carried.spots one other rel segments)
      (member_at_alike one other address (spot_of segments one.nodes) is are rel)
  member_by_alike one other address (Ok (Foreign text)) is are rel = record { reply = refl; after = rel }
  member_by_alike one other address (Ok OtherProvider) is are rel = record { reply = refl; after = rel }
  member_by_alike one other address (Err fault) is are rel = record { reply = refl; after = rel }

  member_alike : (one other : EntityData) (address : List ℕ) → Is one → Is other → Rel one other → AreLeftAlike Rel (member_effect one (sent_to request address)) (member_effect other (sent_to request address))
  member_alike one other address is are rel =
      subst (λ (h : HomeData). AreLeftAlike Rel (member_effect one (sent_to request address)) (member_effect_by other (sent_to request address) (address_of h address))) (carried.homes one other rel)
      (member_by_alike one other address (address_of one.home address) is are rel)

  -- ---- a fan-out

  abbrev fan_of : EntityData → Bool → List RequestParts → Effect
  fan_of x right requests =
      option_map_or (refused x request) (first_fault (unless right NoPrivilege ∷ unless (is_fanned request.op) NotAllowed ∷ []))
      (fanned x request requests)

  fan_right_same : (one other : EntityData) (n : ℕ) → Is one → Is other → sight o one ≡ sight o other → may_fan one request n ≡ may_fan other request n
  fan_right_same one other n is are same =
      ap (λ (t : List ℕ). fan_grants one.home one.nodes t (op_row request.op).bit n) (by one is)
      ∙ fans_same o one other same (op_row request.op).bit n
      ∙ sym (ap (λ (t : List ℕ). fan_grants other.home other.nodes t (op_row request.op).bit n) (by other are))

  gives_fan : (e : EntityData) (g : ResourceData) → Is e → at g.number e.nodes ≡ Some g → may_fan e request g.number ≡ true → do_give e.home o (op_row request.op).bit (fan_rules e.nodes g) ≡ true
  gives_fan e g is there right =
      let may : fan_grants e.home e.nodes o (op_row request.op).bit g.number ≡ true = sym (ap (λ (t : List ℕ). fan_grants e.home e.nodes t (op_row request.op).bit g.number) (by e is)) ∙ right in
      let gives : do_give e.home o (op_row request.op).bit (fan_rules e.nodes g) ≡ true = rw there at may in
      gives

  -- the group of both: its members are seen, and read once
  group_alike : (one other : EntityData) (rest : List (List ℕ)) (p q : ResourceData) → Is one → Is other → sight o one ≡ sight o other → at p.number one.nodes ≡ Some p → at q.number other.nodes ≡ Some q → q.number ≡ p.number → is_ty p.ty Group ≡ true → is_ty q.ty Group ≡ true → AreLeftAlike Rel (fan_effect one request rest p) (fan_effect other request rest q)
  group_alike one other rest p q is are same inp inq number first second =
      let right : may_fan one request p.number ≡ may_fan other request q.number = fan_right_same one other p.number is are same ∙ ap (may_fan other request) (sym number) in
      subst (λ (b : Bool). AreLeftAlike Rel (fan_effect one request rest p) (fan_of other b (member_requests request rest q))) right
      (by_right (may_fan one request p.number) refl (sym right))
    where
      rel : Rel one other
      rel = carried.from one other is are same

      by_right : (right : Bool) → may_fan one request p.number ≡ right → may_fan other request q.number ≡ right → AreLeftAlike Rel (fan_of one right (member_requests request rest p)) (fan_of other right (member_requests request rest q))
      by_right false none lacks = still_alike one other request NoPrivilege rel
      by_right true right rights =
          let members : listed_members p ≡ listed_members q =
          sym (members_seen one.home one.nodes o p request.op first (gives_fan one p is inp right))
          ∙ ap listed_members (seen_same o one other same p.number p q inp (ap (λ (n : ℕ). at n other.nodes) (sym number) ∙ inq))
          ∙ members_seen other.home other.nodes o q request.op second (gives_fan other q are inq rights) in
          let addresses = map (with_rest rest) (listed_members p) in
          subst (λ (ms : List (List ℕ)). AreLeftAlike Rel (fan_of one true (member_requests request rest p)) (fan_of other true (requests_to request (map (with_rest rest) ms)))) members
          (by_fault_so one other (first_fault (unless (is_fanned request.op) NotAllowed ∷ [])) (fanned one request (requests_to request addresses)) (fanned other request (requests_to request addresses)) rel
          (fan_alike request Is Rel member_alike carried.stays addresses one other is are rel))

  abbrev FoundSo : EntityData → EntityData → List (List ℕ) → Option ResourceData → Option ResourceData → Type 0
  FoundSo one other rest p q = AreLeftAlike Rel (on_found one request (fan_effect one request rest) p) (on_found other request (fan_effect other request rest) q)

  fan_at_alike : (one other : EntityData) (rest : List (List ℕ)) (n : ℕ) → Is one → Is other → sight o one ≡ sight o other → is_at Group n one.nodes ≡ true → is_at Group n other.nodes ≡ true → AreLeftAlike Rel (fan_effect_at one request rest n) (fan_effect_at other request rest n)
  fan_at_alike one other rest n is are same first second = by_found (found_alike o one other same n)
    where
      by_found : FoundAlike o one other same n → AreLeftAlike Rel (fan_effect_at one request rest n) (fan_effect_at other request rest n)
      by_found (not_found none lacks) =
          subst (λ (p : Option ResourceData). FoundSo one other rest p (at n other.nodes)) (sym none)
          (subst (FoundSo one other rest None) (sym lacks) (still_alike one other request NotFound (carried.from one other is are same)))
      by_found (found_both p q inp inq) =
          let np = at_number n one.nodes p inp in
          let nq = at_number n other.nodes q inq in
          subst (λ (r : Option ResourceData). FoundSo one other rest r (at n other.nodes)) (sym inp)
          (subst (FoundSo one other rest (Some p)) (sym inq)
          (group_alike one other rest p q is are same (ap (λ (m : ℕ). at m one.nodes) np ∙ inp) (ap (λ (m : ℕ). at m other.nodes) nq ∙ inq) (nq ∙ sym np)
          (group_there one.nodes n p inp first) (group_there other.nodes n q inq second)))

  -- ---- at a poll point

  right_same : (one other : EntityData) (n : ℕ) → Is one → Is other → sight o one ≡ sight o other → has_right one request n ≡ has_right other request n
  right_same one other n is are same =
      ap (λ (t : List ℕ). may_do request.op one t request n) (by one is)
      ∙ may_same o one other same request.op request n
      ∙ sym (ap (λ (t : List ℕ). may_do request.op other t request n) (by other are))

  abbrev unpolled : EntityData → Bool → Effect
  unpolled x right = refused x request (cond right NotAllowed NoPrivilege)

  abbrev answered : EntityData → Bool → Effect
  answered x right = option_map_or (refused x request) (first_fault (unless right NoPrivilege ∷ unless (has_answer request) BadRequest ∷ [])) (taken_answer x request)

  unpolled_alike : (one other : EntityData) (n : ℕ) → Is one → Is other → sight o one ≡ sight o other → AreLeftAlike Rel (unpolled one (has_right one request n)) (unpolled other (has_right other request n))
  unpolled_alike one other n is are same =
      subst (λ (b : Bool). AreLeftAlike Rel (unpolled one (has_right one request n)) (unpolled other b)) (right_same one other n is are same)
      (record { reply = refl; after = carried.from one other is are same })

  answered_alike : (one other : EntityData) (n : ℕ) → Is one → Is other → sight o one ≡ sight o other → AreLeftAlike Rel (answered one (has_right one request n)) (answered other (has_right other request n))
  answered_alike one other n is are same =
      let rel = carried.from one other is are same in
      subst (λ (b : Bool). AreLeftAlike Rel (answered one (has_right one request n)) (answered other b)) (right_same one other n is are same)
      (by_fault_so one other (first_fault (unless (has_right one request n) NoPrivilege ∷ unless (has_answer request) BadRequest ∷ [])) (taken_answer one request) (taken_answer other request) rel (record { reply = refl; after = rel }))

  -- a poll takes at most an item
  abbrev TakesItem : EntityData → EntityData → Type 0
  TakesItem e after = (left : List OutboxItem) × (after ≡ record e { items = left })

  abbrev given_of : EntityData → ℕ → NoteParts → Effect
  given_of e n note = record { reply = success request (handed_on note); after = without_waiting n e }

  polled_items : (e : EntityData) (n : ℕ) → TakesItem e (poll_effect Retrieve e request n).after
  polled_items e n = by (grants e.home e.nodes (claimed_originator e.home request) (reading_bit false) n) (first_waiting n e)
    where
      by : (right : Bool) (first : Option NoteParts) → TakesItem e (cond right (option_map_or (given_of e n) first (refused e request RequestTimeout)) (refused e request NoPrivilege)).after
      by false first = (e.items, refl)
      by true None = (e.items, refl)
      by true (Some note) = ((without_waiting n e).items, refl)

  polled_so : (one other : EntityData) (n : ℕ) → Rel one other → Rel (poll_effect Retrieve one request n).after (poll_effect Retrieve other request n).after
  polled_so one other n rel =
      let mine = polled_items one n in
      let theirs = polled_items other n in
      subst (λ (x : EntityData). Rel x (poll_effect Retrieve other request n).after) (sym mine.1)
      (subst (λ (x : EntityData). Rel (record one { items = mine.0 }) x) (sym theirs.1) (carried.items one other rel mine.0 theirs.0))

  poll_so : (one other : EntityData) (op : Op) (n : ℕ) (poll : Bool) → (does_poll op ≡ true → poll ≡ true) → Is one → Is other → sight o one ≡ sight o other → AreLeftSo Rel poll (poll_effect op one request n) (poll_effect op other request n)
  poll_so one other Create n poll polls is are same = left_so Rel poll _ _ (unpolled_alike one other n is are same)
  poll_so one other Retrieve n poll polls is are same =
      record { reply = λ other_one. absurd (both_ways poll other_one (polls refl)); after = polled_so one other n (carried.from one other is are same) }
  poll_so one other Update n poll polls is are same = left_so Rel poll _ _ (unpolled_alike one other n is are same)
  poll_so one other Delete n poll polls is are same = left_so Rel poll _ _ (unpolled_alike one other n is are same)
  poll_so one other Notify n poll polls is are same = left_so Rel poll _ _ (answered_alike one other n is are same)

  channel_so : (one other : EntityData) (n : ℕ) (poll : Bool) → (does_poll request.op ≡ true → poll ≡ true) → Is one → Is other → sight o one ≡ sight o other → AreLeftSo Rel poll (spot_effect one request (Some (Poll n))) (spot_effect other request (Some (Poll n)))
  channel_so one other n poll polls is are same =
      subst (λ (b : Bool). AreLeftSo Rel poll (spot_effect one request (Some (Poll n))) (cond b (poll_effect request.op other request n) (refused other request NotFound))) (there_same o one other same n)
      (by_there (has n one.nodes))
    where
      by_there : (b : Bool) → AreLeftSo Rel poll (cond b (poll_effect request.op one request n) (refused one request NotFound)) (cond b (poll_effect request.op other request n) (refused other request NotFound))
      by_there true = poll_so one other request.op n poll polls is are same
      by_there false = left_so Rel poll _ _ (still_alike one other request NotFound (carried.from one other is are same))

  -- ---- at any spot

  spot_so : (one other : EntityData) (spot : Option Spot) → Is one → Is other → sight o one ≡ sight o other → ((g p : ℕ) → spot ≡ Some (Fan g p) → (is_at Group g one.nodes ≡ true) × (is_at Group g other.nodes ≡ true)) → AreLeftSo Rel (polls_at request.op spot) (spot_effect one request spot) (spot_effect other request spot)
  spot_so one other None is are same groups = left_so Rel _ _ _ (still_alike one other request NotFound (carried.from one other is are same))
  spot_so one other (Some (Resource n)) is are same groups = left_so Rel _ _ _ (carried.resources one other request.to n is are (carried.from one other is are same))
  spot_so one other (Some (Fan g place)) is are same groups =
      let there = groups g place refl in
      subst (λ (h : HomeData). AreLeftSo Rel (polls_at request.op (Some (Fan g place))) (spot_effect one request (Some (Fan g place))) (fan_effect_at other request (rest_of h request.to place) g)) (same_home o one other same)
      (left_so Rel _ _ _ (fan_at_alike one other (rest_of one.home request.to place) g is are same there.0 there.1))
  spot_so one other (Some (Poll c)) is are same groups = channel_so one other c _ (λ t. ap (λ (b : Bool). b && true) t) is are same

  -- ---- elsewhere

  abbrev onward_by : EntityData → Bool → Bool → ℕ → EventEffect
  onward_by x far some n = route_effect x request [] (cond far to.NoHop (cond some (to.Forward n) to.NoPoint))

  -- what leads elsewhere is no poll
  abbrev Onward : EventEffect → EventEffect → Type 0
  Onward = AreAnsweredSo Rel false

  onward_so : (one other : EntityData) (poa : Option (List ℕ)) → Is one → Is other → sight o one ≡ sight o other → Onward (onward_effect one request poa) (onward_effect other request poa)
  onward_so one other None is are same = record { outcome = λ other_one. refl; after = carried.from one other is are same }
  onward_so one other (Some poa) is are same =
      record { outcome = λ other_one. ap (λ (h : HomeData). (onward_effect (record one { home = h }) request (Some poa)).outcome) (same_home o one other same); after = carried.from one other is are same }

  cse_so : (one other : EntityData) (n : ℕ) (far some : Bool) → Is one → Is other → sight o one ≡ sight o other → point_of one.nodes n ≡ point_of other.nodes n → Onward (onward_by one far some n) (onward_by other far some n)
  cse_so one other n true some is are same point = record { outcome = λ other_one. refl; after = carried.from one other is are same }
  cse_so one other n false false is are same point = record { outcome = λ other_one. refl; after = carried.from one other is are same }
  cse_so one other n false true is are same point =
      subst (λ (poa : Option (List ℕ)). Onward (onward_effect one request (point_of one.nodes n)) (onward_effect other request poa)) point
      (onward_so one other (point_of one.nodes n) is are same)

  -- the CSE of both
  remote_so : (one other : EntityData) (text : List ℕ) (p q : ResourceData) → Is one → Is other → sight o one ≡ sight o other → AreOrdered one.nodes → AreOrdered other.nodes → cse_named text one.nodes ≡ Some p → cse_named text other.nodes ≡ Some q → seen one.home one.nodes o p ≡ seen other.home other.nodes o q → Onward (onward_by one (comes_from_cse one.nodes (claimed_originator one.home request)) (is_some (first_url p)) p.number) (onward_by other (comes_from_cse other.nodes (claimed_originator other.home request)) (is_some (first_url q)) q.number)
  remote_so one other text p q is are same order orders first second alike =
      let here = cse_there one.nodes text p (tree_from_well_formed one.nodes (carried.well one is)) first in
      let there = cse_there other.nodes text q (tree_from_well_formed other.nodes (carried.well other are)) second in
      let number : p.number ≡ q.number = ap (λ (r : ResourceData). r.number) alike in
      let url : first_url p ≡ first_url q =
      sym (url-seen one.home one.nodes o p here.remote (in_order_at p.number one.nodes p order here.there))
      ∙ ap first_url alike
      ∙ url-seen other.home other.nodes o q there.remote (in_order_at q.number other.nodes q orders there.there) in
      let point : point_of one.nodes p.number ≡ point_of other.nodes p.number =
      ap (option_and_then first_url) here.there ∙ url ∙ sym (ap (option_and_then first_url) (ap (λ (n : ℕ). at n other.nodes) number ∙ there.there)) in
      let far : comes_from_cse one.nodes (claimed_originator one.home request) ≡ comes_from_cse other.nodes (claimed_originator other.home request) =
      ap (comes_from_cse one.nodes) (by one is)
      ∙ both_seen o one other same (λ home nodes. comes_from_cse nodes o) (comes-seen one.home one.nodes o o) (comes-seen other.home other.nodes o o)
      ∙ sym (ap (comes_from_cse other.nodes) (by other are)) in
      let mine = onward_by one (comes_from_cse one.nodes (claimed_originator one.home request)) (is_some (first_url p)) p.number in
      let some = is_some (first_url p) in
      let f = comes_from_cse one.nodes (claimed_originator one.home request) in
      subst (λ (b : Bool). Onward mine (onward_by other b (is_some (first_url q)) q.number)) far
      (subst (λ (u : Option (List ℕ)). Onward mine (onward_by other f (is_some u) q.number)) url
      (subst (λ (n : ℕ). Onward mine (onward_by other f some n)) number
      (cse_so one other p.number f some is are same point)))

  abbrev away_of : EntityData → Option ResourceData → EventEffect
  away_of x c = route_effect x request [] (option_map_or (routed_to x.nodes (claimed_originator x.home request)) c to.Unknown)

  away_so : (one other : EntityData) (text : List ℕ) → Is one → Is other → sight o one ≡ sight o other → AreOrdered one.nodes → AreOrdered other.nodes → Onward (address_effect one request (Ok (Foreign text))) (address_effect other request (Ok (Foreign text)))
  away_so one other text is are same order orders =
      by_cses (cse_named text one.nodes) (cse_named text other.nodes) refl refl
      (sym (cse_named-seen one.home one.nodes o text) ∙ ap (cse_named text) (ap (λ (e : EntityData). e.nodes) same) ∙ cse_named-seen other.home other.nodes o text)
    where
      by_cses : (p q : Option ResourceData) → cse_named text one.nodes ≡ p → cse_named text other.nodes ≡ q → option_map (seen one.home one.nodes o) (cse_named text one.nodes) ≡ option_map (seen other.home other.nodes o) (cse_named text other.nodes) → Onward (away_of one p) (away_of other q)
      by_cses None None first second alike = record { outcome = λ other_one. refl; after = carried.from one other is are same }
      by_cses (Some p) (Some q) first second alike =
          remote_so one other text p q is are same order orders first second
          (same_Some (seen one.home one.nodes o p) (seen other.home other.nodes o q) (sym (ap (option_map (seen one.home one.nodes o)) first) ∙ alike ∙ ap (option_map (seen other.home other.nodes o)) second))
      by_cses None (Some q) first second alike =
          absurd (none-some (seen other.home other.nodes o q) (sym (ap (option_map (seen one.home one.nodes o)) first) ∙ alike ∙ ap (option_map (seen other.home other.nodes o)) second))
      by_cses (Some p) None first second alike =
          absurd (none-some (seen one.home one.nodes o p) (sym (ap (option_map (seen other.home other.nodes o)) second) ∙ sym alike ∙ ap (option_map (seen one.home one.nodes o)) first))

  -- what is no poll is none where no poll is excepted
  at_any : (poll : Bool) (x y : EventEffect) → Onward x y → AreAnsweredSo Rel poll x y
  at_any poll x y so = record { outcome = λ other_one. so.outcome refl; after = so.after }

  -- ---- at any address

  address_so : (one other : EntityData) (a : Result Addr AddrFault) → Is one → Is other → sight o one ≡ sight o other → AreOrdered one.nodes → AreOrdered other.nodes → AreAnsweredSo Rel (polls_at request.op (named_here a one.nodes)) (address_effect one request a) (address_effect other request a)
  address_so one other (Ok (Local segments)) is are same order orders =
      let spots = spots_same o one other same segments in
      let poll = polls_at request.op (spot_of segments one.nodes) in
      done_so Rel poll (spot_effect one request (spot_of segments one.nodes)) (spot_effect other request (spot_of segments other.nodes))
      (subst (λ (spot : Option Spot). AreLeftSo Rel poll (spot_effect one request (spot_of segments one.nodes)) (spot_effect other request spot)) spots
      (spot_so one other (spot_of segments one.nodes) is are same
      (λ g p names. (fan_named segments one.nodes g p names, fan_named segments other.nodes g p (sym spots ∙ names)))))
  address_so one other (Ok (Foreign text)) is are same order orders = at_any _ _ _ (away_so one other text is are same order orders)
  address_so one other (Ok OtherProvider) is are same order orders = record { outcome = λ other_one. refl; after = carried.from one other is are same }
  address_so one other (Err fault) is are same order orders = record { outcome = λ other_one. refl; after = carried.from one other is are same }

  pub effect_so : (one other : EntityData) → Is one → Is other → sight o one ≡ sight o other → AreOrdered one.nodes → AreOrdered other.nodes → AreAnsweredSo Rel (is_poll one request) (effect_of one request) (effect_of other request)
  effect_so one other is are same order orders =
      let a = address_of one.home request.to in
      let fault = first_fault (first_places one request) in
      let judged : Option Rsc → Result Addr AddrFault → EventEffect = λ f b. option_map_or (λ (x : Rsc). as_done (refused other request x)) f (address_effect other request b) in
      subst (λ (f : Option Rsc). AreAnsweredSo Rel (is_poll one request) (effect_of one request) (judged f (address_of other.home request.to))) (ap (λ (e : EntityData). first_fault (first_places e request)) same)
      (subst (λ (h : HomeData). AreAnsweredSo Rel (is_poll one request) (effect_of one request) (judged fault (address_of h request.to))) (same_home o one other same)
      (by_place Rel (is_poll one request) one other request fault (address_effect one request a) (address_effect other request a) (carried.from one other is are same) (address_so one other a is are same order orders)))

-- ---- by equal sights

-- what is seen alike stays so, where each operation on a resource gives what is seen alike
pub carried_by_sight : (o : List ℕ) (request : RequestParts) (Is : EntityData → Type 0) → ((e : EntityData) → Is e → claimed_originator e.home request ≡ o) → ((e : EntityData) → Is e → is_well_formed e.nodes ≡ true) → ((one other : EntityData) (address : List ℕ) (n : ℕ) → Is one → Is other → sight o one ≡ sight o other → AreSeenAlike o (resource_effect one (sent_to request address) (at n one.nodes)) (resource_effect other (sent_to request address) (at n other.nodes))) → ((e : EntityData) (address : List ℕ) → Is e → Is (member_effect e (sent_to request address)).after) → IsCarried o request Is (λ a b. sight o a ≡ sight o b)
carried_by_sight o request Is by well resources stays = record {
  by = by;
  well = well;
  stays = stays;
  from = λ one other is are same. same;
  homes = λ one other same. same_home o one other same;
  spots = λ one other same segments. spots_same o one other same segments;
  items = λ one other same first second. same;
  resources = resources;
}
