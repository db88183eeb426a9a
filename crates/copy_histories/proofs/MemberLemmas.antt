-- A fan-out leads, one member after another, to what it leaves.
use Rattle.std.proofs.Common.{◌≡◌, ℕ, List, [], ◌∷◌, true, Option, Some, None, Result, Ok, Err, sym, ap, ◌∙◌, subst}
use Rattle.std.proofs.lemmas.List.Elements.{filter_map-append}
use Rattle.std.specs.Option.{option_and_then}
use Rattle.m2m_names.specs.Name.{is_originator}
use Rattle.primitive_json.specs.declared.request.RequestParts.{RequestParts}
use Rattle.resource_model.specs.Home.{HomeData}
use Rattle.resource_model.specs.Resource.{ResourceData}
use Rattle.tree_model.specs.Tree.{at}
use Rattle.tree_model.proofs.TreeLemmas.{at_number}
use Rattle.addressing.specs.Addresses.{address_of}
use Rattle.addressing.specs.Laws.{named_here}
use Rattle.addressing.specs.Names.{spot_of}
use Rattle.addressing.specs.declared.addr.Addr.{Addr}
use Rattle.addressing.specs.declared.addr.Addr.TheVariants.{Local, Foreign, OtherProvider}
use Rattle.addressing.specs.declared.addr.AddrFault.{AddrFault}
use Rattle.addressing.specs.declared.spot.Spot.{Spot}
use Rattle.addressing.specs.declared.spot.Spot.TheVariants.{Resource, Fan, Poll}
use Rattle.announce_copy.specs.Copies.{CopyDraft}
use Rattle.entity_model.specs.Entity.{EntityData}
use Rattle.entity_model.specs.Sound.{IsSoundEntity}
use Rattle.group_fanout.specs.Fan.{after_members, member_effect, member_effect_at, member_effect_by, requests_to, sent_to}
use Rattle.group_fanout.specs.Rights.{claimed_originator}
use Rattle.cse_machine.specs.Answer.{addressed, resource_at}
use Rattle.guard_laws.proofs.MemberLemmas.{IsSoundAt, MaySend, member_sound}
use Rattle.machine_laws.specs.Outbox.{found_items, member_items}
use Rattle.copy_histories.specs.Histories.{member_trees}
use Rattle.copy_histories.proofs.KeptLemmas.{stays_still}
use Rattle.copy_histories.proofs.NoteLemmas.{copies_in_items, copy_of_item}
use Rattle.copy_histories.proofs.OperatedLemmas.{GoesTo, found_goes}
use Rattle.copy_histories.proofs.RunLemmas.{Goes, goes_nowhere, goes_on}

-- who is found by a number stands by its own
pub stands_by : (nodes : List ResourceData) (n : ℕ) (r : ResourceData) → at n nodes ≡ Some r → at r.number nodes ≡ Some r
stands_by nodes n r found = ap (λ (m : ℕ). at m nodes) (at_number n nodes r found) ∙ found

-- ---- one member

module _ (e : EntityData) (request : RequestParts) (sound : IsSoundEntity e) (originator : is_originator (claimed_originator e.home request) ≡ true) where
  on_spot : (spot : Option Spot) → GoesTo e (member_effect_at e request spot).after (copies_in_items (found_items e request (option_and_then (resource_at e.nodes) spot)))
  on_spot None = stays_still e sound
  on_spot (Some (Resource n)) = found_goes e request (at n e.nodes) sound originator (λ r found. stands_by e.nodes n r found)
  on_spot (Some (Fan group place)) = stays_still e sound
  on_spot (Some (Poll channel)) = stays_still e sound

  by_address : (a : Result Addr AddrFault) → GoesTo e (member_effect_by e request a).after (copies_in_items (found_items e request (option_and_then (resource_at e.nodes) (named_here a e.nodes))))
  by_address (Ok (Local segments)) = on_spot (spot_of segments e.nodes)
  by_address (Ok (Foreign text)) = stays_still e sound
  by_address (Ok OtherProvider) = stays_still e sound
  by_address (Err fault) = stays_still e sound

  pub member_goes : GoesTo e (member_effect e request).after (copies_in_items (found_items e request (addressed e request.to)))
  member_goes = by_address (address_of e.home request.to)

-- ---- one after another

pub members_go : (home : HomeData) (request : RequestParts) (addresses : List (List ℕ)) (e : EntityData) → MaySend home request → IsSoundAt home e → Goes home e.nodes (after_members e (requests_to request addresses)).nodes (copies_in_items (member_items e (requests_to request addresses))) (member_trees e (requests_to request addresses))
members_go home request [] e may at_home = goes_nowhere home e.nodes
members_go home request (address ∷ addresses) e may at_home =
    let one : RequestParts = sent_to request address in
    let more : List RequestParts = requests_to request addresses in
    let left : EntityData = (member_effect e one).after in
    let asks : is_originator (claimed_originator e.home one) ≡ true = ap (λ (h : HomeData). is_originator (claimed_originator h request)) at_home.home_is ∙ may.originator in
    let first : Goes home e.nodes left.nodes (copies_in_items (found_items e one (addressed e one.to))) (left.nodes ∷ []) =
    subst (λ (h : HomeData). Goes h e.nodes left.nodes (copies_in_items (found_items e one (addressed e one.to))) (left.nodes ∷ [])) at_home.home_is (member_goes e one at_home.sound asks) in
    let rest = members_go home request addresses left may (member_sound home request may e address at_home) in
    let both = goes_on home e.nodes left.nodes (after_members left more).nodes (copies_in_items (found_items e one (addressed e one.to))) (copies_in_items (member_items left more)) (left.nodes ∷ []) (member_trees left more) first rest in
    subst (λ (ds : List CopyDraft). Goes home e.nodes (after_members left more).nodes ds (left.nodes ∷ member_trees left more))
    (sym (filter_map-append copy_of_item (found_items e one (addressed e one.to)) (member_items left more))) both
