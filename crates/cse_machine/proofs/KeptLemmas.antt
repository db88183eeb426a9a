-- What comes of an operation on a resource leaves the same entity at the same moment.
use Rattle.std.proofs.Common.{List, None, Option, Some, ap, arith, false, refl, subst, sym, true, ℕ, ◌∙◌, ◌≡◌, ◌≤◌}
use Rattle.std.proofs.lemmas.Bool.{false≢true, true≢false}
use Rattle.std.specs.Option.{option_map_or}
use Rattle.m2m_names.specs.StatusCodes.{is_success}
use Rattle.m2m_names.specs.Types.{does_take}
use Rattle.m2m_names.specs.declared.codes.Rsc.{Rsc}
use Rattle.m2m_names.specs.declared.codes.Rsc.TheVariants.{BadChild, NotFound}
use Rattle.m2m_names.specs.declared.operations.Op.{Op}
use Rattle.m2m_names.specs.declared.operations.Op.TheVariants.{Create, Delete, Notify, Retrieve, Update}
use Rattle.m2m_names.specs.declared.types.Ty.{Ty}
use Rattle.primitive_json.specs.declared.reply.ReplyParts.{ReplyParts}
use Rattle.primitive_json.specs.declared.request.RequestParts.{RequestParts}
use Rattle.resource_model.specs.Resource.{ResourceData}
use Rattle.tree_model.specs.Tree.{at}
use Rattle.entity_model.specs.Entity.{EntityData}
use Rattle.entity_model.specs.Places.{Effect, refusal, refused, reply_alone}
use Rattle.request_rules.proofs.OrderLemmas.{places_parts}
use Rattle.request_rules.proofs.RefusalLemmas.{refuses_at}
use Rattle.request_rules.specs.Order.{creation_by, fault_at, fault_on}
use Rattle.request_rules.specs.Requests.{child_ty, takes_child}
use Rattle.create_delete.proofs.EffectLemmas.{told_done_at, told_refused_at}
use Rattle.create_delete.specs.Changes.{changes_by}
use Rattle.create_delete.specs.Changing.{create_effect}
use Rattle.create_delete.specs.Relaying.{notify_effect, notify_on}
use Rattle.create_delete.specs.Telling.{told_effect, told_effect_at, told_effect_by}
use Rattle.group_fanout.proofs.OperationLemmas.{changing_at}
use Rattle.group_fanout.specs.Operations.{change_effect, operation_effect, reading_reply, relay_effect}
use Rattle.group_fanout.specs.Rights.{claimed_originator}

-- ---- what holds of all that comes of a request

-- The entity after it is the same one at the same moment, and where the request wasn't served, it is
-- as it was.
pub record IsKept (e : EntityData) (effect : Effect) : Type 0 where
  pub home : effect.after.home ≡ e.home
  pub last : effect.after.last ≡ e.last
  pub next : e.next ≤ effect.after.next
  pub unserved : is_success effect.reply.rsc ≡ false → effect.after ≡ e

pub still_kept : (e : EntityData) (reply : ReplyParts) → IsKept e (reply_alone e reply)
still_kept e reply = record { home = refl; last = refl; next = omega arith; unserved = λ none. refl }

-- what comes of an operation on a resource that is there
module _ (op : Op) (e : EntityData) (request : RequestParts) (t : ResourceData) (there : at t.number e.nodes ≡ Some t) where
  abbrev asks : List ℕ
  asks = claimed_originator e.home request

  pub fault_there : fault_at op e (claimed_originator e.home request) request t.number ≡ fault_on op e (claimed_originator e.home request) request t
  fault_there = ap (λ (x : Option ResourceData). option_map_or (fault_on op e asks request) x (Some NotFound)) there

  -- where a place refuses it, that; else it is done, and told
  pub told_refused : (f : Rsc) → fault_on op e (claimed_originator e.home request) request t ≡ Some f → told_effect_at op e (claimed_originator e.home request) request t.number ≡ refused e request f
  told_refused f is = told_refused_at op e asks request t.number f (fault_there ∙ is)

  pub told_done : fault_on op e (claimed_originator e.home request) request t ≡ None → told_effect_at op e (claimed_originator e.home request) request t.number ≡ told_effect_by op e (claimed_originator e.home request) request t
  told_done none = told_done_at op e asks request t.number t there (fault_there ∙ none)

  -- a place refuses with no success
  pub refuses_on : (f : Rsc) → fault_on op e (claimed_originator e.home request) request t ≡ Some f → is_success f ≡ false
  refuses_on f is = refuses_at op e asks request t.number f (fault_there ∙ is)

module _ (e : EntityData) (request : RequestParts) (t : ResourceData) (there : at t.number e.nodes ≡ Some t) where
  abbrev who : List ℕ
  who = claimed_originator e.home request

  -- what a Create makes under it, of this type
  abbrev made_of : Option Ty → Effect
  made_of ty = option_map_or (λ (y : Ty). create_effect request (creation_by e (claimed_originator e.home request) request t y)) ty (refused e request BadChild)

  -- what holds of a refusal, and of what is done and told, holds of what comes of an operation
  pub comes_at : (op : Op) (P : Effect → Type 0) → ((f : Rsc) → is_success f ≡ false → P (refused e request f)) → (fault_on op e (claimed_originator e.home request) request t ≡ None → P (told_effect_by op e (claimed_originator e.home request) request t)) → P (told_effect_at op e (claimed_originator e.home request) request t.number)
  comes_at op P refuses does = by_place (fault_on op e who request t) refl
    where
      by_place : (fault : Option Rsc) → fault_on op e who request t ≡ fault → P (told_effect_at op e who request t.number)
      by_place (Some f) is = subst P (sym (told_refused op e request t there f is)) (refuses f (refuses_on op e request t there f is))
      by_place None is = subst P (sym (told_done op e request t there is)) (does is)

  -- what is created is of a type that is asked for
  created_kept : (ty : Option Ty) → child_ty request ≡ ty → takes_child Create request t ≡ true → IsKept e (told_effect e (changes_by Create request t.number e (made_of ty).after) (made_of ty))
  created_kept None is takes = absurd (false≢true (sym (ap (λ (x : Option Ty). option_map_or (does_take t.ty) x false) is) ∙ takes))
  created_kept (Some ty) is takes =
      record { home = refl; last = refl; next = omega arith; unserved = λ none. absurd (true≢false none) }

  pub create_kept : IsKept e (told_effect_at Create e (claimed_originator e.home request) request t.number)
  create_kept = comes_at Create (IsKept e) (λ f other. still_kept e (refusal request f)) (λ none. created_kept (child_ty request) refl (places_parts Create e who request t none).child)

  pub update_kept : IsKept e (told_effect_at Update e (claimed_originator e.home request) request t.number)
  update_kept = comes_at Update (IsKept e) (λ f other. still_kept e (refusal request f)) (λ none. record { home = refl; last = refl; next = omega arith; unserved = λ other. absurd (true≢false other) })

-- ---- a Delete

module _ (e : EntityData) (request : RequestParts) (t : ResourceData) (there : at t.number e.nodes ≡ Some t) where
  pub delete_kept : IsKept e (told_effect_at Delete e (claimed_originator e.home request) request t.number)
  delete_kept =
      comes_at e request t there Delete (IsKept e) (λ f other. still_kept e (refusal request f))
      (λ none. record { home = refl; last = refl; next = omega arith; unserved = λ other. absurd (true≢false other) })

module _ (e : EntityData) (request : RequestParts) (r : ResourceData) (there : at r.number e.nodes ≡ Some r) where
  abbrev sender : List ℕ
  sender = claimed_originator e.home request

  relays_by : (P : Effect → Type 0) → ((f : Rsc) → is_success f ≡ false → P (refused e request f)) → (fault_on Notify e sender request r ≡ None → P (notify_effect e sender request)) → (fault : Option Rsc) → fault_on Notify e sender request r ≡ fault → P (notify_on e sender request r)
  relays_by P refuses does (Some f) is =
      subst P (sym (ap (λ (x : Option Rsc). option_map_or (refused e request) x (notify_effect e sender request)) is)) (refuses f (refuses_on Notify e request r there f is))
  relays_by P refuses does None is =
      subst P (sym (ap (λ (x : Option Rsc). option_map_or (refused e request) x (notify_effect e sender request)) is)) (does is)

  -- what holds of a refusal, and of what is handed on, holds of what comes of it
  pub relays : (P : Effect → Type 0) → ((f : Rsc) → is_success f ≡ false → P (refused e request f)) → (fault_on Notify e (claimed_originator e.home request) request r ≡ None → P (notify_effect e (claimed_originator e.home request) request)) → P (relay_effect e request r)
  unfolding relay_effect
  relays P refuses does = relays_by P refuses does (fault_on Notify e sender request r) refl

  pub relay_kept : IsKept e (relay_effect e request r)
  relay_kept =
      relays (IsKept e) (λ f other. still_kept e (refusal request f))
      (λ none. record { home = refl; last = refl; next = omega arith; unserved = λ other. absurd (true≢false other) })

-- ---- an operation on a resource

-- what an operation on what its address names gives
module _ (e : EntityData) (request : RequestParts) (r : ResourceData) (there : at r.number e.nodes ≡ Some r) where
  -- what comes of a change, as what is done on the resource of the number
  as_changed : (op : Op) (P : Effect → Type 0) → P (told_effect_at op e (claimed_originator e.home request) request r.number) → P (change_effect op e request r)
  as_changed op P holds = subst P (sym (changing_at op e request r there)) holds

  pub operated_kept : (op : Op) → IsKept e (operation_effect op e request r)
  operated_kept Create = as_changed Create (IsKept e) (create_kept e request r there)
  operated_kept Retrieve = still_kept e (reading_reply e request r.number)
  operated_kept Update = as_changed Update (IsKept e) (update_kept e request r there)
  operated_kept Delete = as_changed Delete (IsKept e) (delete_kept e request r there)
  operated_kept Notify = relay_kept e request r there
