-- What comes of a Notify.
use Rattle.std.proofs.Common.{◌≡◌, ℕ, List, [], ◌∷◌, true, Option, Some, None, refl, sym, ap, ◌∙◌, subst}
use Rattle.std.proofs.lemmas.Bool.{both_ways}
use Rattle.std.specs.Option.{option_map_or}
use Rattle.m2m_names.specs.StatusCodes.{is_success}
use Rattle.m2m_names.specs.declared.codes.Rsc.{Rsc}
use Rattle.m2m_names.specs.declared.codes.Rsc.TheVariants.{NotFound}
use Rattle.m2m_names.specs.declared.operations.Op.TheVariants.{Notify}
use Rattle.policy_eval.specs.Rights.{notify_bit}
use Rattle.primitive_json.specs.declared.note.NoteParts.{NoteParts}
use Rattle.primitive_json.specs.declared.request.RequestParts.{RequestParts}
use Rattle.resource_model.specs.Resource.{ResourceData}
use Rattle.tree_model.specs.Tree.{at}
use Rattle.tree_model.proofs.TreeLemmas.{at_number}
use Rattle.entity_model.specs.Entity.{EntityData, with_notes}
use Rattle.entity_model.specs.Places.{Effect, refused}
use Rattle.entity_model.specs.Sound.{IsSoundEntity}
use Rattle.entity_model.proofs.SoundLemmas.{sound_items}
use Rattle.entity_model.proofs.WaitingLemmas.{order_noted, waiting_noted}
use Rattle.request_rules.specs.Order.{fault_at, fault_on}
use Rattle.request_rules.specs.Rights.{is_granted}
use Rattle.request_rules.proofs.OrderLemmas.{found_at, nothing_on, places_parts}
use Rattle.request_rules.proofs.RefusalLemmas.{refuses_at}
use Rattle.create_delete.specs.Relaying.{notify_at, notify_effect, notify_on, relayed}

refused_on : (e : EntityData) (o : List ℕ) (request : RequestParts) (found : Option ResourceData) (f : Rsc) → option_map_or (fault_on Notify e o request) found (Some NotFound) ≡ Some f → option_map_or (notify_on e o request) found (refused e request NotFound) ≡ refused e request f
refused_on e o request None f is = ap (λ (x : Option Rsc). option_map_or (refused e request) x (refused e request NotFound)) is
refused_on e o request (Some t) f is = ap (λ (x : Option Rsc). option_map_or (refused e request) x (notify_effect e o request)) is

pub notify_refused : (e : EntityData) (o : List ℕ) (request : RequestParts) (n : ℕ) (f : Rsc) → fault_at Notify e o request n ≡ Some f → notify_at e o request n ≡ refused e request f
notify_refused e o request n f is = refused_on e o request (at n e.nodes) f is

pub notify_done : (e : EntityData) (o : List ℕ) (request : RequestParts) (n : ℕ) → fault_at Notify e o request n ≡ None → notify_at e o request n ≡ notify_effect e o request
notify_done e o request n none =
    let found = found_at Notify e o request n none in
    ap (λ (x : Option ResourceData). option_map_or (notify_on e o request) x (refused e request NotFound)) found.1
    ∙ ap (λ (x : Option Rsc). option_map_or (refused e request) x (notify_effect e o request)) (nothing_on Notify e o request n found.0 found.1 none)

-- one that is handed on, and one that is refused
pub ruleset notify_cases = (notify_done, notify_refused)

-- ---- what stays

-- a note that is appended leaves an entity sound
pub sound_noted : (note : NoteParts) (e : EntityData) → IsSoundEntity e → IsSoundEntity (with_notes (note ∷ []) e)
sound_noted note e sound =
    let noted = with_notes (note ∷ []) e in
    sound_items e noted.items noted.numbered sound
    (waiting_noted (note ∷ []) e.numbered e.last e.items sound.waiting)
    (order_noted (note ∷ []) e.numbered e.last e.items sound.moments sound.waiting)

pub notify_nodes : (e : EntityData) (o : List ℕ) (request : RequestParts) (n : ℕ) → (notify_at e o request n).after.nodes ≡ e.nodes
notify_nodes e o request n = by_fault (fault_at Notify e o request n) refl
  where
    by_fault : (x : Option Rsc) → fault_at Notify e o request n ≡ x → (notify_at e o request n).after.nodes ≡ e.nodes
    by_fault None none = ap (λ (x : Effect). x.after.nodes) (notify_done e o request n none)
    by_fault (Some f) is = ap (λ (x : Effect). x.after.nodes) (notify_refused e o request n f is)

pub notify_sound : (e : EntityData) (o : List ℕ) (request : RequestParts) (n : ℕ) → IsSoundEntity e → IsSoundEntity (notify_at e o request n).after
notify_sound e o request n sound = by_fault (fault_at Notify e o request n) refl
  where
    by_fault : (x : Option Rsc) → fault_at Notify e o request n ≡ x → IsSoundEntity (notify_at e o request n).after
    by_fault None none = subst IsSoundEntity (sym (ap (λ (x : Effect). x.after) (notify_done e o request n none))) (sound_noted (relayed e o request) e sound)
    by_fault (Some f) is = subst IsSoundEntity (sym (ap (λ (x : Effect). x.after) (notify_refused e o request n f is))) sound

-- it succeeds by right
pub notify_right : (e : EntityData) (o : List ℕ) (request : RequestParts) (n : ℕ) → is_success (notify_at e o request n).reply.rsc ≡ true → is_granted e o notify_bit n ≡ true
notify_right e o request n served = by_fault (fault_at Notify e o request n) refl
  where
    by_fault : (x : Option Rsc) → fault_at Notify e o request n ≡ x → is_granted e o notify_bit n ≡ true
    by_fault (Some f) is =
        let succeeds : is_success f ≡ true = ap (λ (x : Effect). is_success x.reply.rsc) (sym (notify_refused e o request n f is)) ∙ served in
        absurd (both_ways (is_success f) (refuses_at Notify e o request n f is) succeeds)
    by_fault None none =
        let found = found_at Notify e o request n none in
        ap (λ (m : ℕ). is_granted e o notify_bit m) (sym (at_number n e.nodes found.0 found.1))
        ∙ (places_parts Notify e o request found.0 (nothing_on Notify e o request n found.0 found.1 none)).right
