-- What another CSE says to the bytes of a request.
use Rattle.std.specs.Prelude.{◌≡◌, ◌⊎◌, ℕ, Bool, true, not, ◌&&◌, List, [], ◌++◌, Option, Some}
use Rattle.std.specs.Prelude.{is_some, IsTrue}
use Rattle.std.specs.List.{list_all}
use Rattle.std.specs.Option.{option_map_or}
use Rattle.m2m_io.specs.Link.{Exchange}
use Rattle.turn_desk.specs.Growth.{IsOwnRun}
use Rattle.entity_model.specs.Entity.{EntityData}
use Rattle.cse_machine.specs.Step.{Step}
use Rattle.desk_replies.specs.Rule.{plainly}
use Rattle.cse_server.specs.Connection.{Serves}
use Rattle.cse_server.specs.Outside.{LinkTold, Outside, link_told, outside, sink_told}
use Rattle.cse_server.specs.declared.connection.Ended.{Ended}
use Rattle.cse_server.specs.declared.connection.Ended.TheVariants.{Closed, NoFrame}

-- the exchange failed: there is no answer
abbrev pub is_unanswered : Exchange → Bool
is_unanswered exchange = not (is_some exchange.answer)

-- The exchanges that are told failed, each of them; where none are told, this is said of none.
abbrev pub are_unanswered : Option (List Exchange) → Bool
are_unanswered told = option_map_or (list_all is_unanswered) told true

-- A link tells its exchanges, and each of them failed.
abbrev pub answers_none : Option (List Exchange) → Bool
answers_none told = is_some told && are_unanswered told

-- a link that was asked nothing yet
abbrev pub unasked : LinkTold
unasked = link_told (Some []) 0

-- The entity before served these bytes as one connection, at readings of its clock, which told
-- `given` before and tells `now`, and is then the one after. Nobody else asked it. It served them
-- to their end, and what it wrote is the answer: its talk with the bytes.
pub record PeerTalks (before after : EntityData) (given now : Option (List ℕ))
    (bytes answer : List ℕ) : Type 0 where
  pub new : Outside
  pub ended : Ended
  pub serves : Serves plainly (IsOwnRun Step) before after
      (outside (Some bytes) (sink_told (Some []) (Some 0)) given unasked) new ended
  pub whole : (ended ≡ Closed) ⊎ (ended ≡ NoFrame)
  pub clock : new.readings ≡ now
  pub answer_is : new.out.written ≡ Some answer

-- So it talked, and its own link answered none of its exchanges.
pub record TalksAlone (before after : EntityData) (given now : Option (List ℕ))
    (bytes answer : List ℕ) : Type 0 where
  pub talks : PeerTalks before after given now bytes answer
  pub alone : IsTrue (answers_none talks.new.link.exchanges)

-- The answer was appended to a reply, which had these bytes before and has those after.
pub record AnswersTalking (before after : EntityData) (given now : Option (List ℕ))
    (bytes old new : List ℕ) : Type 0 where
  pub answer : List ℕ
  pub appended : new ≡ old ++ answer
  pub talks : TalksAlone before after given now bytes answer
