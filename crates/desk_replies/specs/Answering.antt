-- A request that is answered by what a desk answers.
use Rattle.std.specs.Prelude.{ℕ, List, Option, Result}
use Rattle.primitive_json.specs.declared.reply.ReplyParts.{ReplyParts}
use Rattle.primitive_json.specs.declared.request.RequestParts.{RequestParts}
use Rattle.turn_desk.specs.Entries.{Marked}
use Rattle.http_forwarding.specs.Carries.{LinkTold}
use Rattle.cse_machine.specs.declared.event.Event.{Event}
use Rattle.cse_machine.specs.declared.event.Outcome.{Outcome}
use Rattle.desk_replies.specs.Asking.{Asked, HasAsked}
use Rattle.desk_replies.specs.Rule.{AnswersOne, ReplyRule}

-- A seat asked what a rule has for a request, and the reply comes of that.
pub record Answers {S E : Type 0} (rule : ReplyRule)
    (grown : S → List (Marked Event Outcome) → S → Type 0) (before after : S)
    (given now : Option (List ℕ)) (told more : LinkTold) (request : RequestParts)
    (result : Result ReplyParts E) : Type 0 where
  pub asked : Asked
  pub asks : HasAsked grown before after given now told more asked
  pub answers : AnswersOne rule request asked result
