-- That a request which goes on to another CSE is answered there (TS-0001, 10.2.2).
use Rattle.std.specs.Prelude.{◌≡◌, ◌≤◌, ◌<◌, ◌^◌, ℕ, List, [], length, Option, Some, IfSome}
use Rattle.std.specs.Prelude.{IsTrue}
use Rattle.std.specs.List.{AllByRecursion, list_all}
use Rattle.m2m_names.specs.Name.{originator_limit}
use Rattle.filter_criteria.specs.Conditions.{OfEachCondition, ValueOf}
use Rattle.filter_criteria.specs.declared.condition.Sort.{Sort}
use Rattle.filter_criteria.specs.declared.condition.Sort.TheVariants.{Moment, Count, Labels, Types}
use Rattle.filter_criteria.specs.declared.condition.Sort.TheVariants.{Use}
use Rattle.filter_criteria.specs.declared.filter.FilterParts.{FilterParts}
use Rattle.primitive_json.specs.Kinds.{numeral_limit}
use Rattle.primitive_json.specs.Laws.{HasShortExpiry}
use Rattle.primitive_json.specs.declared.reply.ReplyParts.{ReplyParts}
use Rattle.primitive_json.specs.declared.request.RequestParts.{RequestParts}
use Rattle.http_frames.specs.Frame.{body_limit, head_limit}
use Rattle.http_frames.specs.Text.{head_text}
use Rattle.http_frames.specs.declared.frame.Side.TheVariants.{Request}
use Rattle.http_binding.specs.Replying.{body_of}
use Rattle.http_client_binding.specs.Asking.{request_frame, request_text}
use Rattle.http_client_binding.specs.TargetWriting.{root_path}
use Rattle.http_client_binding.specs.declared.target.Aim.TheVariants.{Peer}
use Rattle.http_forwarding.specs.Answers.{Carried}
use Rattle.entity_model.specs.Entity.{EntityData}
use Rattle.entity_model.specs.Sound.{IsSoundEntity}
use Rattle.cse_machine.specs.declared.event.Event.TheVariants.{Ask}
use Rattle.cse_machine.specs.declared.event.Outcome.TheVariants.{Forward}
use Rattle.cse_machine.specs.Step.{Step}
use Rattle.binding_laws.specs.AsRead.{IsAsRead}
use Rattle.binding_laws.specs.ReadBack.{AreAlike, SaysAll, is_no_space}
use Rattle.peer_link.specs.PeerTalk.{PeerTalks}
use Rattle.service_laws.specs.Peers.{AnswersOnce, GivesTold}

-- what a filter has of a condition of each sort can be said in a query: numbers have at most 18
-- digits, and labels have no space
abbrev pub IsSayable : (sort : Sort) → ValueOf sort → Type 0
IsSayable Moment at = Unit {0}
IsSayable Count n = IfSome n (λ n. n < 10 ^ numeral_limit)
IsSayable Labels labels =
    AllByRecursion (λ (label : List ℕ). IsTrue (list_all is_no_space label)) labels
IsSayable Types types = Unit {0}
IsSayable Use usage = Unit {0}

-- A request can be said to the CSE at a URL: the URL has no path but `/`; the full form of the
-- originator is no longer than an originator may be; numbers have at most 18 digits; labels have no
-- space; and head and body are within the limits of a message.
pub record CanBeSaid (sent : RequestParts) (url : List ℕ) : Type 0 where
  pub root : root_path url ≡ []
  pub fr : IfSome sent.fr (λ originator. length originator ≤ originator_limit)
  pub rqet : HasShortExpiry sent
  pub fc : IfSome sent.fc (OfEachCondition IsSayable)
  pub head : length (head_text (request_frame sent url Peer)) ≤ head_limit
  pub body : length (body_of sent.pc) ≤ body_limit Request

-- A sound entity was asked a request, as each is that is read, and it goes on to the CSE at a URL,
-- to which it can be said.
pub record GoesOnSaid (reading : ℕ) (request : RequestParts) (before after : EntityData)
    (url : List ℕ) (sent : RequestParts) : Type 0 where
  pub sound : IsSoundEntity before
  pub step : Step reading (Ask request) before (Forward url sent) after
  pub read : IsAsRead request
  pub said : CanBeSaid sent url

-- The frame of such a request says all that it has, and nothing that is read otherwise.
abbrev pub WhatGoesOnSaysAll : Type 0
WhatGoesOnSaysAll =
    (reading : ℕ) (request : RequestParts) (before after : EntityData) (url : List ℕ)
    (sent : RequestParts) → GoesOnSaid reading request before after url sent → SaysAll sent url

-- Where the answer of the link is the talk of another CSE with its bytes, the reply is the one that
-- the machine of that CSE gives the request that goes on, but for a filter without conditions,
-- which is none; and the caller gets it so.
abbrev pub WhatGoesOnIsAnsweredThere : Type 0
WhatGoesOnIsAnsweredThere =
    (reading : ℕ) (request : RequestParts) (before after : EntityData) (url : List ℕ)
    (sent : RequestParts) → GoesOnSaid reading request before after url sent
    → (there left : EntityData) (given now : Option (List ℕ)) (answer : List ℕ)
    → (talks : PeerTalks there left given now (request_text sent url Peer) answer)
    → (read : Option FilterParts) × AreAlike sent.fc read × (told : ReplyParts)
    × AnswersOnce there left given now talks.new.link (record sent { fc = read }) told
    × ((reply : ReplyParts) → Carried (Some answer) sent.rqi reply
    → GivesTold sent.rqi told reply)
