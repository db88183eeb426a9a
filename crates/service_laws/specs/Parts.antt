-- That each request of a connection is answered at its place as it is alone.
use Rattle.std.specs.Prelude.{◌≡◌, List, ◌∷◌, ◌++◌, map, None, Ok}
use Rattle.std.specs.List.{All, flat_map}
use Rattle.std.specs.declared.alloc.AllocError.{AllocError}
use Rattle.entity_model.specs.Entity.{EntityData}
use Rattle.turn_desk.specs.Entries.{events_of}
use Rattle.turn_desk.specs.Growth.{IsOwnRun}
use Rattle.http_forwarding.specs.Carries.{LinkTold}
use Rattle.cse_machine.specs.History.{History, HistoryLeaves}
use Rattle.cse_machine.specs.Step.{Step}
use Rattle.cse_machine.specs.declared.event.Event.TheVariants.{Ask}
use Rattle.cse_server.specs.Connection.{Serves}
use Rattle.cse_server.specs.Outside.{Outside}
use Rattle.cse_server.specs.declared.connection.Ended.{Ended}
use Rattle.desk_replies.specs.Answering.{Answers}
use Rattle.desk_replies.specs.Rule.{Group, IsWhole, ReplyRule, reply_by, requests_of}

-- What was asked before a request of a connection left an entity of the home of the first one; and
-- this entity answered the request, with what the rule has asked behind it, as a request alone, over
-- a link that told `old` by then and told `new` behind it.
pub record IsAnsweredAtItsPlace (rule : ReplyRule) (opening : EntityData) (earlier : List Group)
    (group : Group) : Type 0 where
  pub history : History
  pub found : EntityData
  pub left : EntityData
  pub leaves : HistoryLeaves opening history found
  pub events_are : events_of history ≡ map Ask (flat_map (requests_of rule) earlier)
  pub same_home : found.home ≡ opening.home
  pub old : LinkTold
  pub new : LinkTold
  pub answers : Answers {E = AllocError} rule (IsOwnRun Step) found left None None old new
      group.request (Ok (reply_by rule group))

-- Each request of a connection that was answered whole is answered so, by whatever rule. So what
-- holds of a request that is answered alone holds of each request of a connection, as that each
-- member of a group answers at its place (`EachMemberAnswersAtItsPlace`).
abbrev pub EachIsAnsweredAtItsPlace : Type 0
EachIsAnsweredAtItsPlace =
    (rule : ReplyRule) (opening after : EntityData) (old new : Outside) (ended : Ended)
    (served : Serves rule (IsOwnRun Step) opening after old new ended)
    (earlier later : List Group) (group : Group)
    → served.talks.answers.groups ≡ earlier ++ group ∷ later
    → All (IsWhole rule) earlier → IsWhole rule group
    → IsAnsweredAtItsPlace rule opening earlier group
