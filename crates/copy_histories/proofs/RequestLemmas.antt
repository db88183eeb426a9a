-- A request, whatever it is sent to, leads to what it leaves.
use Rattle.std.proofs.Common.{◌≡◌, ℕ, List, [], ◌∷◌, ◌++◌, Bool, true, false, cond, Option, Some, None, is_some, Result, Ok, Err, inl, inr, refl, sym, subst}
use Rattle.std.proofs.lemmas.Bool.{cases_Bool}
use Rattle.std.proofs.lemmas.List.{append-nil}
use Rattle.std.specs.Option.{option_map_or}
use Rattle.m2m_names.specs.Name.{is_originator}
use Rattle.m2m_names.specs.declared.codes.Rsc.{Rsc}
use Rattle.m2m_names.specs.declared.codes.Rsc.TheVariants.{BadRequest, NoPrivilege, NotFound, RequestTimeout}
use Rattle.m2m_names.specs.declared.operations.Op.{Op}
use Rattle.m2m_names.specs.declared.operations.Op.TheVariants.{Create, Retrieve, Update, Delete, Notify}
use Rattle.primitive_json.specs.declared.note.NoteParts.{NoteParts}
use Rattle.primitive_json.specs.declared.request.RequestParts.{RequestParts}
use Rattle.resource_model.specs.Home.{HomeData}
use Rattle.resource_model.specs.Resource.{ResourceData}
use Rattle.tree_model.specs.Tree.{at, has}
use Rattle.addressing.specs.Addresses.{address_of}
use Rattle.addressing.specs.Laws.{named_here}
use Rattle.addressing.specs.Names.{spot_of}
use Rattle.addressing.specs.declared.addr.Addr.{Addr}
use Rattle.addressing.specs.declared.addr.Addr.TheVariants.{Local, Foreign, OtherProvider}
use Rattle.addressing.specs.declared.addr.AddrFault.{AddrFault}
use Rattle.addressing.specs.declared.spot.Spot.{Spot}
use Rattle.addressing.specs.declared.spot.Spot.TheVariants.{Resource, Fan, Poll}
use Rattle.policy_eval.specs.Rights.{grants, retrieve_bit}
use Rattle.subscription_match.specs.Destinations.{cse_named, first_url}
use Rattle.notify_outbox.specs.declared.item.Item.{Item}
use Rattle.announce_copy.specs.Copies.{CopyDraft}
use Rattle.entity_model.specs.Entity.{EntityData}
use Rattle.entity_model.specs.Places.{first_fault, on_found, refused, unless}
use Rattle.entity_model.specs.Sound.{IsSoundEntity}
use Rattle.retarget.specs.Routes.{comes_from_cse, routed_to}
use Rattle.retarget.specs.declared.routing.Route.TheVariants as to
use Rattle.retrieve_discover.specs.Polling.{first_waiting}
use Rattle.group_fanout.specs.Fan.{addresses_of, after_members, fan_effect, fan_places, fanned, fanned_requests, member_requests, requests_to, rest_of, served_members}
use Rattle.group_fanout.specs.Rights.{claimed_originator, has_right}
use Rattle.cse_machine.specs.Answer.{address_effect, as_done, effect_of, first_places, has_answer, onward_effect, point_of, poll_effect, route_effect, spot_effect}
use Rattle.cse_machine.specs.Step.{heard_members}
use Rattle.cse_machine.proofs.PlaceLemmas.{claimed_valid}
use Rattle.cse_machine.proofs.JudgedLemmas.{heard_facts}
use Rattle.cse_machine.proofs.WayLemmas.{given_note, taken_answer}
use Rattle.guard_laws.proofs.MemberLemmas.{IsSoundAt, MaySend, members_sound}
use Rattle.machine_laws.specs.Outbox.{channel_at, channel_polled, member_items, request_items, spot_items}
use Rattle.copy_histories.specs.Histories.{member_trees}
use Rattle.copy_histories.proofs.KeptLemmas.{stays_still}
use Rattle.copy_histories.proofs.MemberLemmas.{members_go, stands_by}
use Rattle.copy_histories.proofs.NoteLemmas.{copies_in_items}
use Rattle.copy_histories.proofs.OperatedLemmas.{found_goes}
use Rattle.copy_histories.proofs.RunLemmas.{Goes, goes_on}

-- what a request appends: nothing, where it polled a channel
abbrev pub appended : Option ℕ → List Item → List Item
appended polled items = option_map_or (λ (c : ℕ). []) polled items

module _ (e : EntityData) (request : RequestParts) (sound : IsSoundEntity e) where
  -- to what it leaves leads what it appends, by members, and in the end
  abbrev pub Leads : Option ℕ → List Item → List RequestParts → EntityData → Type 0
  Leads polled items members after =
      Goes e.home e.nodes after.nodes (copies_in_items (appended polled items)) (member_trees e members ++ after.nodes ∷ [])

  still_leads : Leads None [] [] e
  still_leads = stays_still e sound

  -- ---- at a poll point

  abbrev Keeps : EntityData → Type 0
  Keeps after = after.nodes ≡ e.nodes

  given_keeps : (channel : ℕ) (note : Option NoteParts) → Keeps (option_map_or (λ (n : NoteParts). given_note e request channel n) note (refused e request RequestTimeout)).after
  given_keeps channel None = refl
  given_keeps channel (Some note) = refl

  answered_keeps : (right answers : Bool) → Keeps (option_map_or (refused e request) (first_fault (unless right NoPrivilege ∷ unless answers BadRequest ∷ [])) (taken_answer e request)).after
  answered_keeps false answers = refl
  answered_keeps true false = refl
  answered_keeps true true = refl

  poll_keeps : (channel : ℕ) (op : Op) → Keeps (poll_effect op e request channel).after
  poll_keeps channel Create = refl
  poll_keeps channel Retrieve = elim (cases_Bool (grants e.home e.nodes (claimed_originator e.home request) retrieve_bit channel)) [
    | inl t ↦ rw t (given_keeps channel (first_waiting channel e))
    | inr f ↦ rw f refl
  ]
  poll_keeps channel Update = refl
  poll_keeps channel Delete = refl
  poll_keeps channel Notify = answered_keeps (has_right e request channel) (has_answer request)

  none_appended : (polled : Option ℕ) → copies_in_items (appended polled []) ≡ []
  none_appended None = refl
  none_appended (Some c) = refl

  keeping_leads : (polled : Option ℕ) (after : EntityData) → Keeps after → Leads polled [] [] after
  keeping_leads polled after keeps =
      subst (λ (nodes : List ResourceData). Goes e.home e.nodes nodes (copies_in_items (appended polled [])) (nodes ∷ [])) (sym keeps)
      (subst (λ (ds : List CopyDraft). Goes e.home e.nodes e.nodes ds (e.nodes ∷ [])) (sym (none_appended polled)) still_leads)

  poll_leads : (channel : ℕ) (polled : Option ℕ) → Leads polled [] [] (spot_effect e request (Some (Poll channel))).after
  poll_leads channel polled = keeping_leads polled (spot_effect e request (Some (Poll channel))).after by
    where
      by : Keeps (spot_effect e request (Some (Poll channel))).after
      by = elim (cases_Bool (has channel e.nodes)) [
        | inl t ↦ subst (λ (b : Bool). Keeps (cond b (poll_effect request.op e request channel) (refused e request NotFound)).after) (sym t) (poll_keeps channel request.op)
        | inr f ↦ subst (λ (b : Bool). Keeps (cond b (poll_effect request.op e request channel) (refused e request NotFound)).after) (sym f) refl
      ]

  -- ---- at a fan-out point

  module _ (originator : is_originator (claimed_originator e.home request) ≡ true) where
    fanned_leads : (addresses : List (List ℕ)) → Leads None (member_items e (requests_to request addresses)) (requests_to request addresses) (after_members e (requests_to request addresses))
    fanned_leads addresses =
        let members : List RequestParts = requests_to request addresses in
        let after : EntityData = after_members e members in
        let may : MaySend e.home request = record { originator = originator } in
        let here : IsSoundAt e.home e = record { sound = sound; home_is = refl } in
        let there : IsSoundAt e.home after = members_sound e.home request may addresses e here in
        let first = members_go e.home request addresses e may here in
        let last : Goes e.home after.nodes after.nodes [] (after.nodes ∷ []) =
        subst (λ (h : HomeData). Goes h after.nodes after.nodes [] (after.nodes ∷ [])) there.home_is (stays_still after there.sound) in
        subst (λ (ds : List CopyDraft). Goes e.home e.nodes after.nodes ds (member_trees e members ++ after.nodes ∷ []))
        (append-nil (copies_in_items (member_items e members)))
        (goes_on e.home e.nodes after.nodes after.nodes (copies_in_items (member_items e members)) [] (member_trees e members) (after.nodes ∷ []) first last)

    group_leads : (rest : List (List ℕ)) (g : ResourceData) (fault : Option Rsc) → Leads None (member_items e (option_map_or (λ (f : Rsc). []) fault (member_requests request rest g))) (option_map_or (λ (f : Rsc). []) fault (member_requests request rest g)) (option_map_or (refused e request) fault (fanned e request (member_requests request rest g))).after
    group_leads rest g None = fanned_leads (addresses_of rest g)
    group_leads rest g (Some fault) = still_leads

    fan_leads : (rest : List (List ℕ)) (found : Option ResourceData) → Leads None (member_items e (option_map_or (fanned_requests e request rest) found [])) (option_map_or (fanned_requests e request rest) found []) (on_found e request (fan_effect e request rest) found).after
    fan_leads rest None = still_leads
    fan_leads rest (Some g) = group_leads rest g (first_fault (fan_places e request g))

    -- ---- at what its address names

    spot_leads : (spot : Option Spot) → Leads (channel_at e request spot) (spot_items e request spot) (served_members e request spot) (spot_effect e request spot).after
    spot_leads None = still_leads
    spot_leads (Some (Resource n)) = found_goes e request (at n e.nodes) sound originator (λ r found. stands_by e.nodes n r found)
    spot_leads (Some (Fan group place)) = fan_leads (rest_of e.home request.to place) (at group e.nodes)
    spot_leads (Some (Poll channel)) = poll_leads channel (channel_at e request (Some (Poll channel)))

    -- what goes elsewhere does nothing here
    onward_leads : (poa : Option (List ℕ)) → Leads None [] [] (onward_effect e request poa).after
    onward_leads None = still_leads
    onward_leads (Some poa) = still_leads

    cse_leads : (cse : ResourceData) (far some : Bool) → Leads None [] [] (route_effect e request [] (cond far to.NoHop (cond some (to.Forward cse.number) to.NoPoint))).after
    cse_leads cse true some = still_leads
    cse_leads cse false false = still_leads
    cse_leads cse false true = onward_leads (point_of e.nodes cse.number)

    elsewhere_leads : (cse : Option ResourceData) → Leads None [] [] (route_effect e request [] (option_map_or (routed_to e.nodes (claimed_originator e.home request)) cse to.Unknown)).after
    elsewhere_leads None = still_leads
    elsewhere_leads (Some cse) = cse_leads cse (comes_from_cse e.nodes (claimed_originator e.home request)) (is_some (first_url cse))

    address_leads : (a : Result Addr AddrFault) → Leads (channel_at e request (named_here a e.nodes)) (spot_items e request (named_here a e.nodes)) (served_members e request (named_here a e.nodes)) (address_effect e request a).after
    address_leads (Ok (Local segments)) = spot_leads (spot_of segments e.nodes)
    address_leads (Ok (Foreign text)) = elsewhere_leads (cse_named text e.nodes)
    address_leads (Ok OtherProvider) = still_leads
    address_leads (Err fault) = still_leads

  judged_leads : (f : Option Rsc) (a : Result Addr AddrFault) → first_fault (first_places e request) ≡ f → Leads (option_map_or (λ (fault : Rsc). None) f (channel_at e request (named_here a e.nodes))) (option_map_or (λ (fault : Rsc). []) f (spot_items e request (named_here a e.nodes))) (option_map_or (λ (fault : Rsc). []) f (served_members e request (named_here a e.nodes))) (option_map_or (λ (fault : Rsc). as_done (refused e request fault)) f (address_effect e request a)).after
  judged_leads None a none = address_leads (claimed_valid e.home request (heard_facts e request none).originator) a
  judged_leads (Some fault) a is = still_leads

  pub request_leads : Leads (channel_polled e request) (request_items e request) (heard_members e request) (effect_of e request).after
  request_leads = judged_leads (first_fault (first_places e request)) (address_of e.home request.to) refl
