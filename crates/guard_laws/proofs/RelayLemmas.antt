-- What comes of a Notify to a resource.
use Rattle.guard_laws.proofs.Words.{◌≡◌, ℕ, List, true, Option, Some, None, inl, refl, ap, ◌∙◌, option_map_or}
use Rattle.cse_machine.proofs.KeptLemmas.{relays}
use Rattle.guard_laws.proofs.Terms.{Rsc, Fine, Op, Notify, RequestParts, ResourceData, at, EntityData, refused, IsSoundEntity, fault_on, may_do, notify_effect, relayed, addressed, claimed_originator, has_right}
use Rattle.guard_laws.proofs.Facts.{places_parts}
use Rattle.create_delete.proofs.RelayingLemmas.{sound_noted}
use Rattle.group_fanout.specs.Operations.{relay_effect}
use Rattle.guard_laws.specs.Guard.{DoesShow, HasRight, IsGuardedAlone}
use Rattle.guard_laws.proofs.ChangingLemmas.{IsToldByRight, shows_none, tells_nothing}

module _ (e : EntityData) (request : RequestParts) (r : ResourceData) where
  abbrev o : List ℕ
  o = claimed_originator e.home request

  -- where it isn't refused, it is handed on
  pub relay_unrefused : fault_on Notify e (claimed_originator e.home request) request r ≡ None → relay_effect e request r ≡ notify_effect e (claimed_originator e.home request) request
  unfolding relay_effect
  relay_unrefused none = ap (λ (f : Option Rsc). option_map_or (refused e request) f (notify_effect e o request)) none

module _ (e : EntityData) (request : RequestParts) (r : ResourceData) (there : at r.number e.nodes ≡ Some r) where
  abbrev asks : List ℕ
  asks = claimed_originator e.home request

  -- it changes no resource
  pub relay_nodes : (relay_effect e request r).after.nodes ≡ e.nodes
  relay_nodes = relays e request r there (λ x. x.after.nodes ≡ e.nodes) (λ f other. refl) (λ none. refl)

  pub relay_sound : IsSoundEntity e → IsSoundEntity (relay_effect e request r).after
  relay_sound sound =
      relays e request r there (λ x. IsSoundEntity x.after) (λ f other. sound) (λ none. sound_noted (relayed e asks request) e sound)

  -- and is done by right alone
  relay_right : request.op ≡ Notify → fault_on Notify e asks request r ≡ None → has_right e request r.number ≡ true
  relay_right op none =
      ap (λ (p : Op). may_do p e asks request r.number) op ∙ (places_parts Notify e asks request r none).right

  relay_shown : addressed e request.to ≡ Some r → request.op ≡ Notify → DoesShow (relay_effect e request r).reply → HasRight e request
  relay_shown named op =
      relays e request r there (λ x. DoesShow x.reply → HasRight e request)
      (λ f other shows. absurd (shows_none request f other shows))
      (λ none shows. record { target = r; named = named; right = relay_right op none })

  relay_told : IsToldByRight e request (relay_effect e request r).reply
  relay_told =
      relays e request r there (λ x. IsToldByRight e request x.reply) (λ f other. tells_nothing e request f) (λ none. tells_nothing e request Fine)

  pub relay_guarded : addressed e request.to ≡ Some r → request.op ≡ Notify → IsGuardedAlone e request (relay_effect e request r).reply (relay_effect e request r).after
  relay_guarded named op = record {
    shown = relay_shown named op;
    others = relay_told;
    changes = inl relay_nodes;
  }
