-- Where memory runs out in a fan-out, so many of its members are done.
use Rattle.std.proofs.Common.{Bool, List, None, Option, Some, [], ap, arith, false, length, refl, sym, take, true, ℕ, ◌∙◌, ◌∷◌, ◌≡◌}
use Rattle.std.proofs.Math.Seq.{take-nil}
use Rattle.std.specs.Option.{option_map_or}
use Rattle.m2m_names.specs.Name.{is_originator}
use Rattle.m2m_names.specs.declared.codes.Rsc.{Rsc}
use Rattle.m2m_names.specs.declared.codes.Rsc.TheVariants.{NoPrivilege, NotAllowed}
use Rattle.primitive_json.specs.declared.request.RequestParts.{RequestParts}
use Rattle.resource_model.specs.Resource.{ResourceData}
use Rattle.tree_model.proofs.TreeLemmas.{at_number}
use Rattle.tree_model.specs.Tree.{at}
use Rattle.addressing.specs.declared.spot.Spot.{Spot}
use Rattle.addressing.specs.declared.spot.Spot.TheVariants.{Fan, Poll, Resource}
use Rattle.entity_model.specs.Entity.{EntityData}
use Rattle.entity_model.specs.Places.{first_fault, unless}
use Rattle.group_fanout.specs.Fan.{after_members, fanned_requests, is_fanned, may_fan, member_requests, requests_to, rest_of, served_members}
use Rattle.group_fanout.specs.Rights.{claimed_originator}
use Rattle.cse_machine.proofs.JudgedLemmas.{heard_facts}
use Rattle.cse_machine.proofs.MemberLemmas.{take_requests}
use Rattle.cse_machine.proofs.PlaceLemmas.{claimed_valid}
use Rattle.cse_machine.proofs.WayLemmas.{member_addresses}
use Rattle.cse_machine.specs.Answer.{first_places, has_originator, spot_asked}
use Rattle.cse_machine.specs.Step.{IsCutShort, heard_members}

-- the requests are those of a fan-out that nothing refuses
pub record IsHeardFan (e : EntityData) (request : RequestParts) (members : List RequestParts) : Type 0 where
  pub group : ResourceData
  pub place : ℕ
  pub there : at group.number e.nodes ≡ Some group
  pub spot : spot_asked e request ≡ Some (Fan group.number place)
  pub right : may_fan e request group.number ≡ true
  pub originator : is_originator (claimed_originator e.home request) ≡ true
  pub are : members ≡ requests_to request (member_addresses e request place group)

-- a request has such members, or none
pub data Heard (e : EntityData) (request : RequestParts) (members : List RequestParts) : Type 0 where
  no_fan : members ≡ [] → Heard e request members
  a_fan : IsHeardFan e request members → Heard e request members

module _ (e : EntityData) (request : RequestParts) where
  on_group : (place : ℕ) (g : ResourceData) (right does : Bool) → has_originator e.home request ≡ true → spot_asked e request ≡ Some (Fan g.number place) → at g.number e.nodes ≡ Some g → may_fan e request g.number ≡ right → Heard e request (option_map_or (λ (fault : Rsc). []) (first_fault (unless right NoPrivilege ∷ unless does NotAllowed ∷ [])) (member_requests request (rest_of e.home request.to place) g))
  on_group place g false does by is there right = no_fan refl
  on_group place g true false by is there right = no_fan refl
  on_group place g true true by is there right = a_fan (record {
    group = g;
    place = place;
    there = there;
    spot = is;
    right = right;
    originator = claimed_valid e.home request by;
    are = refl;
  })

  on_fan : (n place : ℕ) (found : Option ResourceData) → has_originator e.home request ≡ true → spot_asked e request ≡ Some (Fan n place) → at n e.nodes ≡ found → Heard e request (option_map_or (fanned_requests e request (rest_of e.home request.to place)) found [])
  on_fan n place None by is found = no_fan refl
  on_fan n place (Some g) by is found =
      let number = at_number n e.nodes g found in
      on_group place g (may_fan e request g.number) (is_fanned request.op) by
      (is ∙ ap (λ (m : ℕ). Some (Fan m place)) (sym number)) (ap (λ (m : ℕ). at m e.nodes) number ∙ found) refl

  on_spot : (spot : Option Spot) → has_originator e.home request ≡ true → spot_asked e request ≡ spot → Heard e request (served_members e request spot)
  on_spot None by is = no_fan refl
  on_spot (Some (Resource n)) by is = no_fan refl
  on_spot (Some (Fan n place)) by is = on_fan n place (at n e.nodes) by is refl
  on_spot (Some (Poll channel)) by is = no_fan refl

  by_place : (fault : Option Rsc) → first_fault (first_places e request) ≡ fault → Heard e request (option_map_or (λ (f : Rsc). []) fault (served_members e request (spot_asked e request)))
  by_place (Some fault) is = no_fan refl
  by_place None is =
      on_spot (spot_asked e request) (heard_facts e request is).originator refl

  pub heard_by : Heard e request (heard_members e request)
  heard_by = by_place (first_fault (first_places e request)) refl

-- ---- what is left

-- nothing was done; or so many members were
pub data IsLeftShort (e : EntityData) (request : RequestParts) (done : ℕ) (after : EntityData) : Type 0 where
  undone : done ≡ 0 → after ≡ e → IsLeftShort e request done after
  some_done : (fan : IsHeardFan e request (heard_members e request)) → after ≡ after_members e (requests_to request (take done (member_addresses e request fan.place fan.group))) → IsLeftShort e request done after

pub left_short : (e : EntityData) (request : RequestParts) (done : ℕ) (after : EntityData) → IsCutShort e request done after → IsLeftShort e request done after
left_short e request done after short = by (heard_by e request)
  where
    by : Heard e request (heard_members e request) → IsLeftShort e request done after
    by (no_fan none) =
        undone (omega (arith, short.within, ap length none))
        (short.left ∙ ap (λ (members : List RequestParts). after_members e (take done members)) none ∙ ap (after_members e) (take-nil done))
    by (a_fan fan) =
        some_done fan
        (short.left
        ∙ ap (λ (members : List RequestParts). after_members e (take done members)) fan.are
        ∙ ap (after_members e) (take_requests done (member_addresses e request fan.place fan.group) request))

-- where none is done, nothing has changed
pub first_undone : (e : EntityData) (request : RequestParts) (after : EntityData) → IsLeftShort e request 0 after → after ≡ e
first_undone e request after (undone none same) = same
first_undone e request after (some_done fan left) = left
