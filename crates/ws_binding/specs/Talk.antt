-- What a talk does: to the payloads, to the seat at the desk, to the clock and to the link.
use Rattle.std.specs.Prelude.{◌≡◌, ◌⊎◌, ℕ, ◌+◌, ◌≤◌, false, List, [], ◌∷◌, ◌++◌, length, Option}
use Rattle.http_forwarding.specs.Carries.{LinkTold}
use Rattle.turn_desk.specs.Entries.{Marked}
use Rattle.cse_machine.specs.declared.event.Event.{Event}
use Rattle.cse_machine.specs.declared.event.Outcome.{Outcome}
use Rattle.desk_replies.specs.Asking.{Asked, HasAsked}
use Rattle.desk_replies.specs.Rule.{IsAnswered, ReplyRule}
use Rattle.ws_binding.specs.Payloads.{payload_requests, said_to}
use Rattle.ws_binding.specs.Talker.{NoneToCome, SaysAll, Takes, TalkTold}
use Rattle.ws_binding.specs.declared.talk.TalkEnded.{TalkEnded}
use Rattle.ws_binding.specs.declared.talk.TalkEnded.TheVariants.{Closed, Failed, Memory}

-- So many payloads are answered in one talk.
abbrev pub most_payloads : ℕ
most_payloads = 10000

-- All of these were said but the last one.
pub record SaysAllButLast (payloads : List (List ℕ)) (old new : Option (List (List ℕ)))
    : Type 0 where
  pub before : List (List ℕ)
  pub last : List ℕ
  pub payloads_are : payloads ≡ before ++ last ∷ []
  pub said : SaysAll before old new

-- they were all said, or the last one wasn't
abbrev pub SaysMost : List (List ℕ) → Option (List (List ℕ)) → Option (List (List ℕ)) → Type 0
SaysMost payloads old new = SaysAll payloads old new ⊎ SaysAllButLast payloads old new

-- What was said where a talk ends so, the replies to the payloads that were heard being these, and
-- those that were taken behind them: all of them, and nothing was taken behind; or perhaps not the
-- last, where the talker failed or memory ran out. Where memory ran out, one payload may have been
-- taken and not heard.
abbrev pub Says : TalkEnded → List (List ℕ) → List (List ℕ) → Option (List (List ℕ))
    → Option (List (List ℕ)) → Type 0
Says Closed replies unheard old new = (unheard ≡ []) × SaysAll replies old new
Says Failed replies unheard old new = (unheard ≡ []) × SaysMost replies old new
Says Memory replies [] old new = SaysMost replies old new
Says Memory replies (payload ∷ behind) old new = (behind ≡ []) × SaysAll replies old new

-- At most so many payloads were answered by this rule, what the talker told before and tells now
-- being these: of those that were to come some were heard, and what was asked is what the rule has
-- asked for the requests among them, in order.
pub record AnswersPayloads (most : ℕ) (rule : ReplyRule) (asked : Asked) (old new : TalkTold)
    (ended : TalkEnded) : Type 0 where
  pub heard : List (List ℕ)
  pub unheard : List (List ℕ)
  pub answers : IsAnswered rule (payload_requests heard) asked
  pub taken : Takes (heard ++ unheard) old.to_come new.to_come
  pub few : length heard + length unheard ≤ most
  -- it is closed only where none is to come, or as many were heard as may be
  pub closed : ended ≡ Closed → NoneToCome new.to_come ⊎ (length heard ≡ most)
  pub says : Says ended (said_to heard answers.replies) unheard old.said new.said
  -- where memory ran out in what is asked for the last one, the reply to it wasn't said
  pub cut : answers.is_whole ≡ false
      → (ended ≡ Memory) × SaysAllButLast (said_to heard answers.replies) old.said new.said

-- A talk of at most so many payloads was served at a seat by this rule, clock and link telling these
-- before and those now: the seat asked this, and the payloads were answered by it.
pub record ServesUpTo {S : Type 0} (most : ℕ) (rule : ReplyRule)
    (grown : S → List (Marked Event Outcome) → S → Type 0) (before after : S)
    (given now : Option (List ℕ)) (told more : LinkTold) (old new : TalkTold) (ended : TalkEnded)
    : Type 0 where
  pub asked : Asked
  pub asks : HasAsked grown before after given now told more asked
  pub talks : AnswersPayloads most rule asked old new ended

-- A talk was served at a seat.
abbrev pub ServesTalk : {S : Type 0} → ReplyRule
    → (S → List (Marked Event Outcome) → S → Type 0) → S → S → Option (List ℕ) → Option (List ℕ)
    → LinkTold → LinkTold → TalkTold → TalkTold → TalkEnded → Type 0
ServesTalk rule grown before after given now told more old new ended =
    ServesUpTo most_payloads rule grown before after given now told more old new ended
