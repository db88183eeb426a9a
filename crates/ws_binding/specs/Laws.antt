-- What is said in a talk, by the outcomes of its requests.
use Rattle.std.specs.Prelude.{◌≡◌, ◌++◌, ℕ, List, take, Some}
use Rattle.m2m_io.specs.Link.{Carrying}
use Rattle.primitive_json.specs.declared.reply.ReplyParts.{ReplyParts}
use Rattle.cse_machine.specs.declared.event.Outcome.{Outcome}
use Rattle.desk_replies.specs.Asking.{Asked}
use Rattle.desk_replies.specs.Replies.{GivesReplies}
use Rattle.desk_replies.specs.Rule.{plainly}
use Rattle.ws_binding.specs.Payloads.{payload_requests, said_to}
use Rattle.ws_binding.specs.Talk.{AnswersPayloads, most_payloads}
use Rattle.ws_binding.specs.Talker.{talk_told}
use Rattle.ws_binding.specs.declared.talk.TalkEnded.TheVariants.{Closed}

-- The replies in a talk: to each payload one, in order. A payload that is no request gets a refusal
-- with the identifier that it has, and every other the reply that the outcome of its request gives,
-- for which this was carried to other CSEs.
pub record WsTalk (payloads : List (List ℕ)) (outcomes : List Outcome) (carried : List Carrying)
    (said : List (List ℕ)) : Type 0 where
  pub replies : List ReplyParts
  pub gives : GivesReplies (payload_requests payloads) outcomes replies carried
  pub said_are : said ≡ said_to payloads replies

-- A talk has these payloads: those among them that are requests were asked, in order, and nothing
-- else; and what was said behind what was said before is their talk, by the outcomes and what was
-- carried for them.
pub record IsTalkOf (payloads : List (List ℕ)) (asked : Asked) (said_before said_now : List (List ℕ))
    : Type 0 where
  pub said : List (List ℕ)
  pub said_now_is : said_now ≡ said_before ++ said
  pub asks : asked.requests ≡ payload_requests payloads
  pub talk : WsTalk payloads asked.outcomes asked.carried said

-- A talk that is closed has the payloads that were to come, up to the 10,000th, where its talker
-- tells them and nothing is asked behind a request.
abbrev pub AClosedTalkHasAllThatWasToCome : Type 0
AClosedTalkHasAllThatWasToCome =
    (asked : Asked) (to_come left said_before said_now : List (List ℕ))
    → GivesReplies asked.requests asked.outcomes asked.replies asked.carried
    → AnswersPayloads most_payloads plainly asked (talk_told (Some to_come) (Some said_before))
    (talk_told (Some left) (Some said_now)) Closed
    → IsTalkOf (take most_payloads to_come) asked said_before said_now
