-- Nothing is shown or changed but by a grant.
use Rattle.guard_laws.proofs.Words.{◌≡◌, true, false, Option, Some, None, option_map, inl, inr, refl, sym, ap, subst, ◌∙◌, option_and_then}
use Rattle.m2m_names.specs.StatusCodes.{is_success}
use Rattle.cse_machine.specs.Answer.{spot_asked}
use Rattle.cse_machine.proofs.MemberLemmas.{of_member}
use Rattle.cse_machine.proofs.WayLemmas.{IsFanned, IsOperated, answers, fanned_by, fans, given_note, leaves, member_addresses, operates, polls, refuses, taken_answer, way_of}
use Rattle.cse_machine.proofs.CameLemmas.{Came, answered_here, comes, left_by}
use Rattle.guard_laws.proofs.Terms.{op_row, waits_for, is_originator, Rsc, Op, Retrieve, Notify, ReplyParts, RequestParts, ResourceData, at, grants, EntityData, refusal, refused, IsSoundEntity, may_do, handed_on, Spot, Resource, Fan, Poll, told_effect_at, Done, EventEffect, addressed, as_done, effect_of, resource_at, is_fanned, member_effect, requests_to, sent_to, singles_of, change_effect, operation_effect, claimed_originator}
use Rattle.guard_laws.proofs.Facts.{true≢false, none-some, same_Some, sound_taken, same_reply, changing_at}
use Rattle.guard_laws.specs.Guard.{IsGuardedAt, IsGuarded}
use Rattle.guard_laws.proofs.ChangingLemmas.{shows_none}
use Rattle.guard_laws.proofs.RelayLemmas.{relay_nodes}
use Rattle.guard_laws.proofs.MemberLemmas.{IsSoundAt, MaySend, members_guarded, members_sound, members_still}
use Rattle.guard_laws.proofs.OperatedLemmas.{operated_guarded, operated_sound, refused_guarded}

-- a request that is fanned out may be sent to each member
pub may_send : (e : EntityData) (request : RequestParts) → IsFanned e request (effect_of e request) → MaySend e.home request
may_send e request way = record { originator = way.originator }

-- a refusal is guarded, whatever the address names
refused_by : (e : EntityData) (request : RequestParts) (fault : Rsc) (spot : Option Spot) → is_success fault ≡ false → IsGuardedAt spot e request (refusal request fault) e
refused_by e request fault None other = ((λ shows. shows_none request fault other shows), refl)
refused_by e request fault (Some (Resource n)) other = refused_guarded e request fault other
refused_by e request fault (Some (Fan group rest)) other = inl ((λ shows. shows_none request fault other shows), refl)
refused_by e request fault (Some (Poll channel)) other = record {
  shown = λ shows. absurd (shows_none request fault other shows);
  own = inl refl;
  kept = refl;
}

pub guarded : (e : EntityData) (request : RequestParts) → IsSoundEntity e → Came e request (λ x. IsGuarded e request x.reply x.after)
guarded e request sound =
    comes e request (λ x. IsGuarded e request x.reply x.after)
    (λ fault other. refused_by e request fault (spot_asked e request) other)
    (λ way.
    let x = operation_effect request.op e request way.target in
    subst (λ (spot : Option Spot). IsGuardedAt spot e request x.reply x.after) (sym way.spot)
    (operated_guarded e request way.target way.there request.op sound way.originator refl way.named))
    (λ way.
    let x = given_note e request way.channel way.note in
    subst (λ (spot : Option Spot). IsGuardedAt spot e request x.reply x.after) (sym way.spot)
    (record {
      shown = λ shows. ap (λ (p : Op). grants e.home e.nodes (claimed_originator e.home request) (op_row p).bit way.channel) way.op ∙ way.right;
      own = inr (ap (option_map handed_on) (sym way.first));
      kept = refl;
    }))
    (λ way.
    let x = taken_answer e request in
    subst (λ (spot : Option Spot). IsGuardedAt spot e request x.reply x.after) (sym way.spot)
    (record {
      shown = λ shows.
          ap (λ (p : Op). grants e.home e.nodes (claimed_originator e.home request) (op_row p).bit way.channel) way.op
          ∙ sym (ap (λ (p : Op). may_do p e (claimed_originator e.home request) request way.channel) way.op)
          ∙ way.right;
      own = inl refl;
      kept = refl;
    }))
    (λ way.
    let x = fanned_by e request way.place way.group in
    let addresses = member_addresses e request way.place way.group in
    let at_home : IsSoundAt e.home e = record { sound = sound; home_is = refl } in
    subst (λ (spot : Option Spot). IsGuardedAt spot e request x.reply x.after) (sym way.spot)
    (inr (record {
      group = way.group;
      there = way.there;
      right = way.right;
      singles = singles_of e (requests_to request addresses);
      all = refl;
      guarded = members_guarded e.home request (may_send e request way) addresses e at_home;
      replied = refl;
    })))

pub sound_effect : (e : EntityData) (request : RequestParts) → IsSoundEntity e → IsSoundEntity (effect_of e request).after
sound_effect e request sound =
    left_by e request IsSoundEntity sound (comes e request (λ x. IsSoundEntity x.after)
    (λ fault other. sound)
    (λ way. operated_sound e request way.target way.there request.op sound way.originator)
    (λ way. sound_taken (waits_for way.channel) e sound)
    (λ way. sound)
    (λ way. (members_sound e.home request (may_send e request way) (member_addresses e request way.place way.group) e (record { sound = sound; home_is = refl })).sound))

-- a Retrieve changes no resource
member_read : (e : EntityData) (request : RequestParts) → request.op ≡ Retrieve → (member_effect e request).after.nodes ≡ e.nodes
member_read e request op =
    of_member e request (λ x. x.after.nodes ≡ e.nodes) (λ fault other. refl)
    (λ way. ap (λ (p : Op). (operation_effect p e request way.target).after.nodes) op)

pub retrieved_still : (e : EntityData) (request : RequestParts) → request.op ≡ Retrieve → (effect_of e request).after.nodes ≡ e.nodes
retrieved_still e request op =
    left_by e request (λ (after : EntityData). after.nodes ≡ e.nodes) refl (comes e request (λ x. x.after.nodes ≡ e.nodes)
    (λ fault other. refl)
    (λ way. ap (λ (p : Op). (operation_effect p e request way.target).after.nodes) op)
    (λ way. refl)
    (λ way. refl)
    (λ way. members_still request (λ x address. member_read x (sent_to request address) op) (member_addresses e request way.place way.group) e))

-- nor does a Notify, which isn't fanned out
not_fanned : (op : Op) → op ≡ Notify → is_fanned op ≡ true → ⊥
not_fanned op is fanned = true≢false (sym fanned ∙ ap is_fanned is)

pub notified_still : (e : EntityData) (request : RequestParts) → request.op ≡ Notify → (effect_of e request).after.nodes ≡ e.nodes
notified_still e request op =
    left_by e request (λ (after : EntityData). after.nodes ≡ e.nodes) refl (comes e request (λ x. x.after.nodes ≡ e.nodes)
    (λ fault other. refl)
    (λ way. ap (λ (p : Op). (operation_effect p e request way.target).after.nodes) op ∙ relay_nodes e request way.target way.there)
    (λ way. refl)
    (λ way. refl)
    (λ way. absurd (not_fanned request.op op way.op)))

-- ---- a request that was served

-- it was served on its target
pub record Served (e : EntityData) (request : RequestParts) (target : ResourceData) : Type 0 where
  pub there : at target.number e.nodes ≡ Some target
  pub originator : is_originator (claimed_originator e.home request) ≡ true
  pub is : effect_of e request ≡ as_done (operation_effect request.op e request target)

served_way : (e : EntityData) (request : RequestParts) (target : ResourceData) → addressed e request.to ≡ Some target → IsOperated e request (effect_of e request) → Served e request target
served_way e request target named way =
    subst (Served e request) (same_Some way.target target (sym way.named ∙ named))
    (record { there = way.there; originator = way.originator; is = way.is })

pub served_on : (e : EntityData) (request : RequestParts) (target : ResourceData) (reply : ReplyParts) → Done reply ≡ (effect_of e request).outcome → is_success reply.rsc ≡ true → addressed e request.to ≡ Some target → Served e request target
served_on e request target reply is success named = elim (way_of e request) [
  | refuses way ↦
      let refused : reply ≡ refusal request way.0 = same_reply reply (refusal request way.0) (is ∙ ap (λ (x : EventEffect). x.outcome) way.2) in
      absurd (true≢false (sym success ∙ ap (λ (r : ReplyParts). is_success r.rsc) refused ∙ way.1))
  | operates way ↦ served_way e request target named way
  | polls way ↦ absurd (none-some target (sym (ap (option_and_then (resource_at e.nodes)) way.spot) ∙ named))
  | answers way ↦ absurd (none-some target (sym (ap (option_and_then (resource_at e.nodes)) way.spot) ∙ named))
  | fans way ↦ absurd (none-some target (sym (ap (option_and_then (resource_at e.nodes)) way.spot) ∙ named))
  | leaves way ↦ absurd (answered_here e request reply is way)
]

-- its reply, and the entity after it
pub served_reply : (e : EntityData) (request : RequestParts) (target : ResourceData) (reply : ReplyParts) → Done reply ≡ (effect_of e request).outcome → Served e request target → reply ≡ (operation_effect request.op e request target).reply
served_reply e request target reply is served =
    same_reply reply _ (is ∙ ap (λ (x : EventEffect). x.outcome) served.is)

pub served_after : (e : EntityData) (request : RequestParts) (target : ResourceData) → Served e request target → (effect_of e request).after ≡ (operation_effect request.op e request target).after
served_after e request target served = ap (λ (x : EventEffect). x.after) served.is

-- as it was performed on the resource of the number
pub performed_is : (op : Op) (e : EntityData) (request : RequestParts) (target : ResourceData) → request.op ≡ op → at target.number e.nodes ≡ Some target → operation_effect op e request target ≡ change_effect op e request target → operation_effect request.op e request target ≡ told_effect_at op e (claimed_originator e.home request) request target.number
performed_is op e request target is there changes =
    ap (λ (p : Op). operation_effect p e request target) is ∙ changes ∙ changing_at op e request target there
