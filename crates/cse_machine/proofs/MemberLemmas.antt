-- What comes of requests to the members of a group, one after another.
use Rattle.std.proofs.Common.{Err, List, None, Ok, Option, Result, Some, [], ap, arith, false, inl, inr, refl, subst, sym, take, ℕ, ◌∙◌, ◌∷◌, ◌≡◌, ◌≤◌, ◌⊎◌}
use Rattle.std.proofs.lemmas.List.{take-map}
use Rattle.std.specs.Option.{option_and_then}
use Rattle.m2m_names.specs.StatusCodes.{is_success}
use Rattle.m2m_names.specs.declared.codes.Rsc.{Rsc}
use Rattle.m2m_names.specs.declared.codes.Rsc.TheVariants.{NotAllowed, NotFound, NotReachable}
use Rattle.primitive_json.specs.declared.request.RequestParts.{RequestParts}
use Rattle.resource_model.specs.Resource.{ResourceData}
use Rattle.tree_model.proofs.TreeLemmas.{at_number}
use Rattle.tree_model.specs.Tree.{at}
use Rattle.addressing.specs.Addresses.{address_of}
use Rattle.addressing.specs.Laws.{named_here}
use Rattle.addressing.specs.Names.{spot_of}
use Rattle.addressing.specs.declared.addr.Addr.{Addr}
use Rattle.addressing.specs.declared.addr.Addr.TheVariants.{Foreign, Local, OtherProvider}
use Rattle.addressing.specs.declared.addr.AddrFault.{AddrFault}
use Rattle.addressing.specs.declared.spot.Spot.{Spot}
use Rattle.addressing.specs.declared.spot.Spot.TheVariants.{Fan, Poll, Resource}
use Rattle.entity_model.specs.Entity.{EntityData}
use Rattle.entity_model.specs.Places.{Effect, refusal, refused}
use Rattle.group_fanout.specs.Fan.{after_members, member_effect, member_effect_at, member_effect_by, requests_to, sent_to}
use Rattle.group_fanout.specs.Operations.{operation_effect, resource_effect}
use Rattle.cse_machine.proofs.KeptLemmas.{IsKept, operated_kept, still_kept}
use Rattle.cse_machine.specs.Answer.{addressed, resource_at, spot_asked}

-- ---- one of them

-- it is refused, and so nothing changes
abbrev pub IsUnreached : EntityData → RequestParts → Effect → Type 0
IsUnreached e request effect = (fault : Rsc) × (is_success fault ≡ false) × (effect ≡ refused e request fault)

-- it gives what its operation on the resource that its address names gives
pub record IsReached (e : EntityData) (request : RequestParts) (effect : Effect) : Type 0 where
  pub target : ResourceData
  pub there : at target.number e.nodes ≡ Some target
  pub named : addressed e request.to ≡ Some target
  pub is : effect ≡ operation_effect request.op e request target

module _ (e : EntityData) (request : RequestParts) where
  abbrev Either : Effect → Type 0
  Either effect = IsUnreached e request effect ⊎ IsReached e request effect

  on_found : (n : ℕ) (found : Option ResourceData) → spot_asked e request ≡ Some (Resource n) → at n e.nodes ≡ found → Either (resource_effect e request found)
  on_found n None is found = inl (NotFound, refl, refl)
  on_found n (Some r) is found = inr (record {
    target = r;
    there = ap (λ (m : ℕ). at m e.nodes) (at_number n e.nodes r found) ∙ found;
    named = ap (option_and_then (resource_at e.nodes)) is ∙ found;
    is = refl;
  })

  on_spot : (spot : Option Spot) → spot_asked e request ≡ spot → Either (member_effect_at e request spot)
  on_spot None is = inl (NotFound, refl, refl)
  on_spot (Some (Resource n)) is = on_found n (at n e.nodes) is refl
  on_spot (Some (Fan group place)) is = inl (NotAllowed, refl, refl)
  on_spot (Some (Poll channel)) is = inl (NotAllowed, refl, refl)

  by_address : (a : Result Addr AddrFault) → address_of e.home request.to ≡ a → Either (member_effect_by e request a)
  by_address (Ok (Local segments)) is = on_spot (spot_of segments e.nodes) (ap (λ (a : Result Addr AddrFault). named_here a e.nodes) is)
  by_address (Ok (Foreign text)) is = inl (NotReachable, refl, refl)
  by_address (Ok OtherProvider) is = inl (NotFound, refl, refl)
  by_address (Err fault) is = inl (NotFound, refl, refl)

  member_ways : Either (member_effect e request)
  member_ways = by_address (address_of e.home request.to) refl

  -- what holds of each refusal, and of what its operation on a resource gives, holds of what comes
  -- of it
  pub of_member : (P : Effect → Type 0) → ((fault : Rsc) → is_success fault ≡ false → P (refused e request fault)) → ((way : IsReached e request (member_effect e request)) → P (operation_effect request.op e request way.target)) → P (member_effect e request)
  of_member P refuses reaches = elim member_ways [
    | inl fault ↦ subst P (sym fault.2) (refuses fault.0 fault.1)
    | inr way ↦ subst P (sym way.is) (reaches way)
  ]

-- the entity after it is the same one at the same moment
pub member_kept : (e : EntityData) (request : RequestParts) → IsKept e (member_effect e request)
member_kept e request =
    of_member e request (IsKept e) (λ fault other. still_kept e (refusal request fault))
    (λ way. operated_kept e request way.target way.there request.op)

-- it is the same entity at the same moment
pub record IsSame (before after : EntityData) : Type 0 where
  pub home : after.home ≡ before.home
  pub last : after.last ≡ before.last
  pub next : before.next ≤ after.next

pub same_still : (e : EntityData) → IsSame e e
same_still e = record { home = refl; last = refl; next = omega arith }

pub same_through : (e middle after : EntityData) → IsSame e middle → IsSame middle after → IsSame e after
same_through e middle after first second = record {
  home = second.home ∙ first.home;
  last = second.last ∙ first.last;
  next = omega (arith, first.next, second.next);
}

-- whatever the addresses, of which some may be left out
pub members_kept : (addresses : List (List ℕ)) (e : EntityData) (request : RequestParts) → IsSame e (after_members e (requests_to request addresses))
members_kept [] e request = same_still e
members_kept (address ∷ addresses) e request =
    let one = member_kept e (sent_to request address) in
    let left = (member_effect e (sent_to request address)).after in
    same_through e left (after_members left (requests_to request addresses)) (record { home = one.home; last = one.last; next = one.next })
    (members_kept addresses left request)

-- ---- the first of them

-- those to the first addresses
pub take_requests : (done : ℕ) (addresses : List (List ℕ)) (request : RequestParts) → take done (requests_to request addresses) ≡ requests_to request (take done addresses)
take_requests done addresses request = take-map (sent_to request) done addresses
