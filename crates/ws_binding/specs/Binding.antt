-- A connection that is attended to as a WebSocket.
use Rattle.std.specs.Prelude.{ℕ, List, Option, None}
use Rattle.http_forwarding.specs.Carries.{LinkTold}
use Rattle.turn_desk.specs.Entries.{Marked}
use Rattle.cse_machine.specs.declared.event.Event.{Event}
use Rattle.cse_machine.specs.declared.event.Outcome.{Outcome}
use Rattle.desk_replies.specs.Asking.{Asked}
use Rattle.desk_replies.specs.Rule.{ReplyRule}
use Rattle.ws_binding.specs.Talk.{AnswersPayloads, ServesTalk, most_payloads}
use Rattle.ws_binding.specs.Talker.{TalkTold, talk_told}
use Rattle.ws_binding.specs.declared.binding.Talked.{Talked}
use Rattle.ws_binding.specs.declared.talk.TalkEnded.{TalkEnded}

-- what a talker over a connection tells: nothing, neither what is to come nor what was said
abbrev pub silent : TalkTold
silent = talk_told None None

-- A talk over a connection was served at a seat.
abbrev pub ServesSilently : {S : Type 0} → ReplyRule
    → (S → List (Marked Event Outcome) → S → Type 0) → S → S → Option (List ℕ) → Option (List ℕ)
    → LinkTold → LinkTold → TalkEnded → Type 0
ServesSilently rule grown before after given now told more ended =
    ServesTalk rule grown before after given now told more silent silent ended

-- A connection was attended to as a WebSocket, by this rule: payloads were heard, at most as many as
-- may be, and what was asked is what the rule has asked for the requests among them, in order. A
-- WebSocket doesn't tell which payloads these are, nor what was said to them.
abbrev pub TalksWs : {X : Type 0} → ReplyRule → X → Asked → Talked X → Type 0
TalksWs rule came asked attended =
    AnswersPayloads most_payloads rule asked silent silent attended.ended
