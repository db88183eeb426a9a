-- What comes of a request, and that it leaves the same entity at the same moment.
use Rattle.std.proofs.Common.{List, None, ap, arith, false, refl, subst, sym, ℕ, ◌∙◌, ◌≡◌}
use Rattle.std.proofs.lemmas.Bool.{true≢false}
use Rattle.std.specs.Prelude.{⊤}
use Rattle.m2m_names.specs.StatusCodes.{is_success}
use Rattle.m2m_names.specs.declared.codes.Rsc.{Rsc}
use Rattle.m2m_names.specs.declared.codes.Rsc.TheVariants.{Ok as Fine}
use Rattle.primitive_json.specs.declared.reply.ReplyParts.{ReplyParts}
use Rattle.primitive_json.specs.declared.request.RequestParts.{RequestParts}
use Rattle.entity_model.specs.Entity.{EntityData}
use Rattle.entity_model.specs.Places.{Effect, refusal, refused, reply_to}
use Rattle.group_fanout.specs.Operations.{operation_effect}
use Rattle.cse_machine.proofs.KeptLemmas.{IsKept, operated_kept, still_kept}
use Rattle.cse_machine.proofs.MemberLemmas.{members_kept}
use Rattle.cse_machine.proofs.WayLemmas.{GoesOn, IsFanned, IsOperated, IsPolled, IsTaken, answers, fanned_by, fans, given_note, leaves, member_addresses, operates, polls, refuses, taken_answer, way_of}
use Rattle.cse_machine.specs.Answer.{EventEffect, as_done, effect_of}
use Rattle.cse_machine.specs.declared.event.Outcome.TheVariants.{Done, Forward}

-- ---- what comes of a request

-- what comes of a request is an effect with a reply, of which this holds, or it goes on
pub data Came (e : EntityData) (request : RequestParts) (P : Effect → Type 0) : Type 0 where
  replied : (effect : Effect) → effect_of e request ≡ as_done effect → P effect → Came e request P
  went_on : GoesOn e request (effect_of e request) → Came e request P

-- where it holds of each refusal, of what the operation on its target gives, of what a poll gives
-- that is given a note, of an answer that is taken, and of a fan-out
pub comes : (e : EntityData) (request : RequestParts) (P : Effect → Type 0) → ((fault : Rsc) → is_success fault ≡ false → P (refused e request fault)) → ((way : IsOperated e request (effect_of e request)) → P (operation_effect request.op e request way.target)) → ((way : IsPolled e request (effect_of e request)) → P (given_note e request way.channel way.note)) → ((way : IsTaken e request (effect_of e request)) → P (taken_answer e request)) → ((way : IsFanned e request (effect_of e request)) → P (fanned_by e request way.place way.group)) → Came e request P
comes e request P refusal operation poll answer fan = elim (way_of e request) [
  | refuses way ↦ replied (refused e request way.0) way.2 (refusal way.0 way.1)
  | operates way ↦ replied (operation_effect request.op e request way.target) way.is (operation way)
  | polls way ↦ replied (given_note e request way.channel way.note) way.is (poll way)
  | answers way ↦ replied (taken_answer e request) way.is (answer way)
  | fans way ↦ replied (fanned_by e request way.place way.group) way.is (fan way)
  | leaves way ↦ went_on way
]

-- and so of the entity after it
pub left_by : (e : EntityData) (request : RequestParts) (P : EntityData → Type 0) → P e → Came e request (λ x. P x.after) → P (effect_of e request).after
left_by e request P holds (replied effect is left) = subst (λ (x : EventEffect). P x.after) (sym is) left
left_by e request P holds (went_on way) = subst (λ (x : EventEffect). P x.after) (sym way.is) holds

pub kept : (e : EntityData) (request : RequestParts) → Came e request (IsKept e)
kept e request =
    comes e request (IsKept e)
    (λ fault other. still_kept e (refusal request fault))
    (λ way. operated_kept e request way.target way.there request.op)
    (λ way. record { home = refl; last = refl; next = omega arith; unserved = λ none. absurd (true≢false none) })
    (λ way. still_kept e (reply_to request Fine None))
    (λ way.
    let left = members_kept (member_addresses e request way.place way.group) e request in
    record { home = left.home; last = left.last; next = left.next; unserved = λ none. absurd (true≢false none) })

done_onward : (reply : ReplyParts) (poa : List ℕ) (onward : RequestParts) → Done reply ≡ Forward poa onward → ⊥
done_onward reply poa onward same = cc

-- what goes on isn't answered here
pub answered_here : (e : EntityData) (request : RequestParts) (reply : ReplyParts) → Done reply ≡ (effect_of e request).outcome → GoesOn e request (effect_of e request) → ⊥
answered_here e request reply is way = done_onward reply way.poa _ (is ∙ ap (λ (x : EventEffect). x.outcome) way.is)

-- and it changes nothing
pub onward_still : (e : EntityData) (request : RequestParts) (poa : List ℕ) (onward : RequestParts) → Forward poa onward ≡ (effect_of e request).outcome → (effect_of e request).after ≡ e
onward_still e request poa onward is = by (comes e request (λ x. ⊤) (λ fault other. tt) (λ way. tt) (λ way. tt) (λ way. tt) (λ way. tt))
  where
    by : Came e request (λ x. ⊤) → (effect_of e request).after ≡ e
    by (replied effect done holds) = absurd (done_onward effect.reply poa onward (sym (is ∙ ap (λ (x : EventEffect). x.outcome) done)))
    by (went_on way) = ap (λ (x : EventEffect). x.after) way.is
