-- What an answer to a payload says.
use Rattle.std.proofs.Common.{◌≡◌, ℕ, List, [], ◌∷◌, Option, Some, None, Ok, Err, inl, inr, refl, sym, ap, subst, ◌∙◌}
use Rattle.std.proofs.lemmas.Bool.{true≢false}
use Rattle.http_forwarding.specs.Carries.{LinkTold}
use Rattle.m2m_io.specs.Told.{TellsStill}
use Rattle.primitive_json.specs.declared.reply.ReplyParts.{ReplyParts}
use Rattle.turn_desk.specs.Entries.{Marked}
use Rattle.cse_machine.specs.declared.event.Event.{Event}
use Rattle.cse_machine.specs.declared.event.Outcome.{Outcome}
use Rattle.desk_replies.specs.Rule.{ReplyRule}
use Rattle.desk_replies.proofs.AskingLemmas.{none_begun}
use Rattle.desk_replies.proofs.LinkLemmas.{Tells-nil}
use Rattle.ws_binding.specs.Payloads.{payload_requests, reply_payload, said_to}
use Rattle.ws_binding.specs.Talk.{SaysAllButLast, SaysMost}
use Rattle.ws_binding.specs.Talker.{MaySay, SaysAll}
use Rattle.ws_binding.specs.Way.{Answers, Hears, SaysTurn, end_of}
use Rattle.ws_binding.specs.declared.talk.TalkEnded.{TalkEnded}
use Rattle.ws_binding.specs.declared.talk.TalkEnded.TheVariants.{Closed, Memory}
use Rattle.ws_binding.specs.declared.talker.TalkFault.{TalkFault}
use Rattle.ws_binding.specs.declared.talker.TalkFault.TheVariants.{Failed as FaultFailed, OutOfMemory as FaultMemory}
use Rattle.ws_binding.proofs.TalkLemmas.{SaysAll-none}

-- nothing was said of one reply
none_of_one : (reply : List ℕ) (a b : Option (List (List ℕ))) → TellsStill a b → SaysAllButLast (reply ∷ []) a b
none_of_one reply a b still = record { before = []; last = reply; payloads_are = refl; said = SaysAll-none a b still }

-- perhaps it was said
pub may_say : (reply : List ℕ) (a b : Option (List (List ℕ))) → MaySay reply a b → SaysMost (reply ∷ []) a b
may_say reply a b (inl said) = inl said
may_say reply a b (inr still) = inr (none_of_one reply a b still)

pub fault_says : (fault : TalkFault) (reply : List ℕ) (a b : Option (List (List ℕ))) → MaySay reply a b → SaysTurn (Some (end_of fault)) (reply ∷ []) a b
fault_says FaultFailed reply a b said = may_say reply a b said
fault_says FaultMemory reply a b said = may_say reply a b said

pub still_told : (a : Option (List (List ℕ))) → TellsStill a a
still_told None = tt
still_told (Some x) = refl

-- a fault doesn't close a talk
pub end_stays : (fault : TalkFault) → end_of fault ≡ Closed → ⊥
end_stays FaultFailed e = cc
end_stays FaultMemory e = cc

-- a reply that wasn't said
pub unsaid : (reply : List ℕ) (a : Option (List (List ℕ))) → SaysTurn (Some Memory) (reply ∷ []) a a
unsaid reply a = inr (none_of_one reply a a (still_told a))

module _ {S : Type 0} (rule : ReplyRule) (grown : S → List (Marked Event Outcome) → S → Type 0) where
  -- there was a reply, and this was said of it
  pub turned : {E : Type 0} (before after : S) (given now : Option (List ℕ)) (told more : LinkTold) (payload : List ℕ)
      (old new : Option (List (List ℕ))) (reply : ReplyParts) (ended : Option TalkEnded)
      → Hears {E = E} rule grown before after given now told more payload (Ok reply)
      → SaysTurn ended (reply_payload reply ∷ []) old new
      → Answers rule grown before after given now told more payload old new ended
  turned before after given now told more payload old new reply ended h said =
      let replies = h.asks.answers.replies in
      let one : said_to h.heard replies ≡ reply_payload reply ∷ [] =
      ap (λ (v : List (List ℕ)). said_to v replies) h.replied.0 ∙ ap (λ (v : ReplyParts). reply_payload v ∷ []) (sym h.replied.2) in
      record {
        heard = h.heard;
        either = inl h.replied.0;
        asks = h.asks;
        cut = λ begun. absurd (true≢false (sym h.replied.1 ∙ begun));
        said = subst (λ (v : List (List ℕ)). SaysTurn ended v old new) (sym one) said;
      }

  -- memory ran out before there was a reply
  pub starved_turn : {E : Type 0} (before after : S) (given now : Option (List ℕ)) (told more : LinkTold) (payload : List ℕ)
      (old : Option (List (List ℕ))) (starved : E)
      → Hears {E = E} rule grown before after given now told more payload (Err starved)
      → Answers rule grown before after given now told more payload old old (Some Memory)
  starved_turn before after given now told more payload old starved h = elim h.either [
    | inl one ↦
        let replies = h.asks.answers.replies in
        let but : SaysAllButLast (said_to h.heard replies) old old =
        subst (λ (v : List (List ℕ)). SaysAllButLast (said_to v replies) old old) (sym one) (none_of_one _ old old (still_told old)) in
        record {
          heard = h.heard;
          either = inl one;
          asks = h.asks;
          cut = λ begun. (refl, but);
          said = inr but;
        }
    | inr none ↦
        let replies = h.asks.answers.replies in
        record {
          heard = h.heard;
          either = inr (none, refl);
          asks = h.asks;
          cut = λ begun. absurd (none_begun rule (payload_requests h.heard) h.asks.asked h.asks.answers (ap (λ (v : List (List ℕ)). payload_requests v) none) begun);
          said = inl (subst (λ (v : List (List ℕ)). SaysAll (said_to v replies) old old) (sym none) (Tells-nil old));
        }
  ]
