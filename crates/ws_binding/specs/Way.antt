-- A talk on its way: what its calls say of the payloads so far.
use Rattle.std.specs.Prelude.{◌≡◌, ◌⊎◌, ℕ, true, false, List, [], ◌∷◌, length, Option, None, Some}
use Rattle.std.specs.Prelude.{IfOk, Result}
use Rattle.http_forwarding.specs.Carries.{LinkTold}
use Rattle.primitive_json.specs.declared.reply.ReplyParts.{ReplyParts}
use Rattle.turn_desk.specs.Entries.{Marked}
use Rattle.cse_machine.specs.declared.event.Event.{Event}
use Rattle.cse_machine.specs.declared.event.Outcome.{Outcome}
use Rattle.desk_replies.specs.Asking.{Asked, HasAsked}
use Rattle.desk_replies.specs.Rule.{IsAnswered, ReplyRule}
use Rattle.ws_binding.specs.Payloads.{payload_request, payload_requests, reply_for, said_to}
use Rattle.ws_binding.specs.Talk.{SaysAllButLast, SaysMost}
use Rattle.ws_binding.specs.Talker.{SaysAll, Takes, TalkTold}
use Rattle.ws_binding.specs.declared.talk.TalkEnded.{TalkEnded}
use Rattle.ws_binding.specs.declared.talk.TalkEnded.TheVariants.{Closed, Failed, Memory}
use Rattle.ws_binding.specs.declared.talker.TalkFault.{TalkFault}
use Rattle.ws_binding.specs.declared.talker.TalkFault.TheVariants.{Failed as FaultFailed}
use Rattle.ws_binding.specs.declared.talker.TalkFault.TheVariants.{OutOfMemory as FaultMemory}

-- Payloads were put to a seat, and were answered by this rule. Clock and link told these before and
-- tell those now.
pub record AsksPayloads {S : Type 0} (rule : ReplyRule)
    (grown : S → List (Marked Event Outcome) → S → Type 0) (before after : S)
    (given now : Option (List ℕ)) (told more : LinkTold) (payloads : List (List ℕ))
    : Type 0 where
  pub asked : Asked
  pub asks : HasAsked grown before after given now told more asked
  pub answers : IsAnswered rule (payload_requests payloads) asked

-- A payload was heard, and asked if it is a request, and this is the reply. Where memory ran out it
-- may be that it wasn't heard.
pub record Hears {S E : Type 0} (rule : ReplyRule)
    (grown : S → List (Marked Event Outcome) → S → Type 0) (before after : S)
    (given now : Option (List ℕ)) (told more : LinkTold) (payload : List ℕ)
    (result : Result ReplyParts E) : Type 0 where
  pub heard : List (List ℕ)
  pub either : (heard ≡ payload ∷ []) ⊎ (heard ≡ [])
  pub asks : AsksPayloads rule grown before after given now told more heard
  pub replied : IfOk result (λ r. (heard ≡ payload ∷ []) × (asks.answers.is_whole ≡ true)
      × (r ≡ reply_for payload (payload_request payload) asks.answers.replies))

-- The talk goes on: so many payloads were answered, and the replies to all of them said.
pub record Goes {S : Type 0} (made : ℕ) (rule : ReplyRule)
    (grown : S → List (Marked Event Outcome) → S → Type 0) (before after : S)
    (given now : Option (List ℕ)) (told more : LinkTold) (old new : TalkTold) : Type 0 where
  pub heard : List (List ℕ)
  pub asks : AsksPayloads rule grown before after given now told more heard
  pub all : asks.answers.is_whole ≡ true
  pub count : length heard ≡ made
  pub taken : Takes heard old.to_come new.to_come
  pub said : SaysAll (said_to heard asks.answers.replies) old.said new.said

-- how a talk ends where a call of its talker failed so
abbrev pub end_of : TalkFault → TalkEnded
end_of FaultFailed = Failed
end_of FaultMemory = Memory

-- What was said where an answer to a payload ends so: its reply, where the talk goes on; perhaps its
-- reply, where the talker failed or memory ran out.
abbrev pub SaysTurn : Option TalkEnded → List (List ℕ) → Option (List (List ℕ))
    → Option (List (List ℕ)) → Type 0
SaysTurn None replies old new = SaysAll replies old new
SaysTurn (Some Closed) replies old new = ⊥
SaysTurn (Some Failed) replies old new = SaysMost replies old new
SaysTurn (Some Memory) replies old new = SaysMost replies old new

-- A payload was heard and answered; or it wasn't heard, as memory ran out before.
pub record Answers {S : Type 0} (rule : ReplyRule)
    (grown : S → List (Marked Event Outcome) → S → Type 0) (before after : S)
    (given now : Option (List ℕ)) (told more : LinkTold) (payload : List ℕ)
    (old new : Option (List (List ℕ))) (ended : Option TalkEnded) : Type 0 where
  pub heard : List (List ℕ)
  pub either : (heard ≡ payload ∷ []) ⊎ ((heard ≡ []) × (ended ≡ Some Memory))
  pub asks : AsksPayloads rule grown before after given now told more heard
  pub cut : asks.answers.is_whole ≡ false
      → (ended ≡ Some Memory) × SaysAllButLast (said_to heard asks.answers.replies) old new
  pub said : SaysTurn ended (said_to heard asks.answers.replies) old new
