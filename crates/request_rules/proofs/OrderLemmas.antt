-- Lists of places, and the first of them that doesn't hold.
use Rattle.std.proofs.Common.{◌≡◌, ℕ, List, [], ◌∷◌, ◌++◌, true, ◌&&◌, Option, Some, None, is_some, option_map, Bor, IfOk, IfSome, Result, inl, inr, refl, sym, ap, ◌∙◌}
use Rattle.std.proofs.lemmas.Bool.{cases_Bool, and_parts, and_from, both_ways}
use Rattle.std.proofs.lemmas.Result.{IfOk-weaker}
use Rattle.std.specs.List.{list_all}
use Rattle.std.specs.Option.{option_map_or, option_or}
use Rattle.m2m_names.specs.declared.codes.Rsc.{Rsc}
use Rattle.m2m_names.specs.declared.codes.Rsc.TheVariants.{NotFound}
use Rattle.m2m_names.specs.declared.operations.Op.{Op}
use Rattle.primitive_json.specs.declared.request.RequestParts.{RequestParts}
use Rattle.resource_model.specs.Resource.{ResourceData}
use Rattle.tree_model.specs.Tree.{at, has}
use Rattle.tree_model.proofs.TreeLemmas.{at_has, at_number}
use Rattle.entity_model.specs.Entity.{EntityData}
use Rattle.request_rules.specs.Creation.{Creation, has_room, is_unique}
use Rattle.request_rules.specs.Groups.{MembershipData, admits_members, are_few, have_addresses, is_consistent, membership_new}
use Rattle.request_rules.specs.Order.{creation_places, expires_later, fault_on, fault_at, member_places, new_places, places}
use Rattle.request_rules.specs.Policies.{links_live}
use Rattle.request_rules.specs.Requests.{admits_content, is_for, named_by, takes_child}
use Rattle.request_rules.specs.Rights.{may_do}
use Rattle.entity_model.specs.Places.{Check, first_fault}

-- ---- a list of places

-- where nothing refuses, the first place holds, and none of the others refuses
pub first_holds : (place : Check) (rest : List Check) → first_fault (place ∷ rest) ≡ None → (place.holds ≡ true) × (first_fault rest ≡ None)
first_holds place rest none = elim (cases_Bool place.holds) [
  | inl t ↦ (t, rw t at none)
  | inr f ↦ absurd (both_ways true (ap is_some (rw f at none)) refl)
]

-- where none refuses, all hold
pub all_hold : (places : List Check) → first_fault places ≡ None → list_all (λ (p : Check). p.holds) places ≡ true
all_hold [] none = refl
all_hold (place ∷ rest) none = (let both = first_holds place rest none in and_from _ _ both.0 (all_hold rest both.1))

-- what it says that no place refuses an operation on a resource
pub record IsUnrefused (op : Op) (e : EntityData) (originator : List ℕ) (request : RequestParts) (target : ResourceData) : Type 0 where
  pub right : may_do op e originator request target.number ≡ true
  pub kind : is_for op target.ty ≡ true
  pub child : takes_child op request target ≡ true
  pub content : admits_content op request target ≡ true
  pub later : expires_later e (named_by op request target) ≡ true
  pub live : links_live e (named_by op request target) ≡ true
  pub new : list_all (λ (p : Check). p.holds) (creation_places op e originator request target) ≡ true

pub places_parts : (op : Op) (e : EntityData) (originator : List ℕ) (request : RequestParts) (target : ResourceData) → fault_on op e originator request target ≡ None → IsUnrefused op e originator request target
places_parts op e originator request target none =
    let all = all_hold (places op e originator request target) none in
    let right = and_parts (may_do op e originator request target.number) _ all in
    let kind = and_parts (is_for op target.ty) _ right.1 in
    let child = and_parts (takes_child op request target) _ kind.1 in
    let content = and_parts (admits_content op request target) _ child.1 in
    let later = and_parts (expires_later e (named_by op request target)) _ content.1 in
    let live = and_parts (links_live e (named_by op request target)) _ later.1 in
    record {
      right = right.0;
      kind = kind.0;
      child = child.0;
      content = content.0;
      later = later.0;
      live = live.0;
      new = live.1;
    }

-- and what it says of what is created
pub record IsUnrefusedNew (c : Creation) : Type 0 where
  pub addresses : have_addresses c.e.home (membership_new c) ≡ true
  pub unique : is_unique c ≡ true
  pub room : has_room c ≡ true
  pub members : list_all (λ (p : Check). p.holds) (member_places c.e (membership_new c)) ≡ true

pub new_parts : (c : Creation) → list_all (λ (p : Check). p.holds) (new_places c) ≡ true → IsUnrefusedNew c
new_parts c all =
    let addresses = and_parts (have_addresses c.e.home (membership_new c)) _ all in
    let unique = and_parts (is_unique c) _ addresses.1 in
    let room = and_parts (has_room c) _ unique.1 in
    record { addresses = addresses.0; unique = unique.0; room = room.0; members = room.1 }

-- what it says of the members that a group is to have
pub record AreAdmitted (e : EntityData) (m : Option MembershipData) : Type 0 where
  pub addresses : have_addresses e.home m ≡ true
  pub few : option_map_or are_few m true ≡ true
  pub consistent : option_map_or (is_consistent e) m true ≡ true

pub members_parts : (e : EntityData) (m : Option MembershipData) → admits_members e m ≡ true → AreAdmitted e m
members_parts e m is =
    let front = and_parts (have_addresses e.home m && option_map_or are_few m true) (option_map_or (is_consistent e) m true) is in
    let parts = and_parts (have_addresses e.home m) (option_map_or are_few m true) front.0 in
    record { addresses = parts.0; few = parts.1; consistent = front.1 }

-- the places of one list after another
pub first_fault-append : (front back : List Check) → first_fault (front ++ back) ≡ option_or (first_fault front) (first_fault back)
first_fault-append [] back = refl
first_fault-append (place ∷ front) back = elim (cases_Bool place.holds) [
  | inl t ↦ rw t (first_fault-append front back)
  | inr f ↦ rw f refl
]

-- the first list decides, or else the second
pub front_decides : (front back : List Check) (f : Rsc) → Some f ≡ first_fault front → Some f ≡ first_fault (front ++ back)
front_decides front back f is = ap (λ (x : Option Rsc). option_or x (first_fault back)) is ∙ sym (first_fault-append front back)

pub rest_decides : (front back : List Check) → None ≡ first_fault front → first_fault back ≡ first_fault (front ++ back)
rest_decides front back none = ap (λ (x : Option Rsc). option_or x (first_fault back)) none ∙ sym (first_fault-append front back)

-- what is told is told by an equal name
pub told_as : {X E : Type 0} (r : Result X E) (a b : X) → a ≡ b → IfOk r (λ x. x ≡ a) → IfOk r (λ x. x ≡ b)
told_as r a b same told = IfOk-weaker r (λ x. x ≡ a) (λ x. x ≡ b) (λ x is. is ∙ same) told

-- ---- a resource of a number

-- where none does on a resource that is there
pub nothing_on : (op : Op) (e : EntityData) (o : List ℕ) (request : RequestParts) (n : ℕ) (t : ResourceData) → at n e.nodes ≡ Some t → fault_at op e o request n ≡ None → fault_on op e o request t ≡ None
nothing_on op e o request n t there none = sym (ap (λ (x : Option ResourceData). option_map_or (fault_on op e o request) x (Some NotFound)) there) ∙ none

-- where no place refuses it, the resource is there
pub found_at : (op : Op) (e : EntityData) (o : List ℕ) (request : RequestParts) (n : ℕ) → fault_at op e o request n ≡ None → (t : ResourceData) × (at n e.nodes ≡ Some t)
found_at op e o request n none = by_found (at n e.nodes) refl
  where
    by_found : (found : Option ResourceData) → at n e.nodes ≡ found → (t : ResourceData) × (at n e.nodes ≡ Some t)
    by_found None is = (let fault : Some NotFound ≡ None = sym (ap (λ (x : Option ResourceData). option_map_or (fault_on op e o request) x (Some NotFound)) is) ∙ none in cc)
    by_found (Some t) is = (t, is)

-- what a number finds stands by its own number
pub found_stands : (n : ℕ) (nodes : List ResourceData) (x : Option (Bor ResourceData)) → option_map (λ r. r.now) x ≡ at n nodes → IfSome x (λ r. at r.now.number nodes ≡ Some r.now)
found_stands n nodes None is = tt
found_stands n nodes (Some r) is = ap (λ (m : ℕ). at m nodes) (at_number n nodes r.now (sym is)) ∙ sym is

-- and so is there
pub found_there : (n : ℕ) (nodes : List ResourceData) (x : Option (Bor ResourceData)) → option_map (λ r. r.now) x ≡ at n nodes → IfSome x (λ r. has r.now.number nodes ≡ true)
found_there n nodes None is = tt
found_there n nodes (Some r) is = at_has r.now.number nodes r.now (found_stands n nodes (Some r) is)
