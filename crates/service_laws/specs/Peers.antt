-- What another CSE answers to a request that goes on to it (TS-0001, 10.2.2).
use Rattle.std.specs.Prelude.{◌≡◌, ◌⊎◌, ℕ, List, [], ◌∷◌, ◌++◌, Option, Some, Result, Ok, Err}
use Rattle.std.specs.Prelude.{IfSome, IsTrue, true}
use Rattle.m2m_io.specs.Link.{Carrying}
use Rattle.m2m_io.specs.Told.{Tells}
use Rattle.m2m_value.specs.Sound.{IsSound}
use Rattle.primitive_json.specs.declared.reply.ReplyParts.{ReplyParts}
use Rattle.primitive_json.specs.declared.request.RequestParts.{RequestParts}
use Rattle.http_frames.specs.declared.frame.Frame.{Frame}
use Rattle.http_frames.specs.declared.frame.Side.TheVariants.{Request}
use Rattle.http_frames.specs.Stream.{BeginsWithFrame, HasNoFrame}
use Rattle.http_target.specs.declared.fault.BindFault.{BindFault}
use Rattle.http_binding.specs.Binding.{binding, echo_of}
use Rattle.http_binding.specs.Replying.{reply_text}
use Rattle.http_client_binding.specs.Asking.{request_frame, request_text}
use Rattle.http_client_binding.specs.declared.target.Aim.TheVariants.{Peer}
use Rattle.http_forwarding.specs.Answers.{Carried, handed_on, unreached}
use Rattle.entity_model.specs.Entity.{EntityData}
use Rattle.cse_machine.specs.declared.event.Event.TheVariants.{Ask}
use Rattle.cse_machine.specs.Answer.{starved}
use Rattle.cse_machine.specs.declared.event.Outcome.{Outcome}
use Rattle.cse_machine.specs.declared.event.Outcome.TheVariants.{Done, Forward, Item, Ticked}
use Rattle.cse_machine.specs.declared.event.Outcome.TheVariants.{Starved}
use Rattle.cse_machine.specs.Step.{Step}
use Rattle.desk_replies.specs.Replies.{GivesReply}
use Rattle.cse_server.specs.Outside.{LinkTold}
use Rattle.cse_server.specs.Talk.{malformed}
use Rattle.peer_link.specs.PeerTalk.{PeerTalks, answers_none}
use Rattle.filter_criteria.specs.declared.filter.FilterParts.{FilterParts}
use Rattle.binding_laws.specs.ReadBack.{AreAlike, SaysAll}
use Rattle.binding_laws.specs.Telling.{CanBeTold}

-- The reply that the outcome of a request gives a CSE whose own link answers nothing. A request
-- that would go on to a further CSE has the reply that this one isn't reachable (TS-0004, 6.6.3),
-- unless memory runs out.
abbrev pub RepliesAlone : RequestParts → Outcome → ReplyParts → Type 0
RepliesAlone request (Done answered) reply = reply ≡ answered
RepliesAlone request (Forward poa sent) reply =
    (reply ≡ unreached sent.rqi) ⊎ (reply ≡ starved sent)
RepliesAlone request (Item given) reply = reply ≡ starved request
RepliesAlone request Ticked reply = reply ≡ starved request
RepliesAlone request (Starved done) reply = reply ≡ starved request

-- The entity before was asked a request by one event, at a reading that its clock gave, and is then
-- the one after; and the outcome gave this reply. Where the entity's own link answered none of its
-- exchanges, as it tells afterwards, the reply is the one that is given where nothing goes on.
pub record AnswersOnce (before after : EntityData) (given now : Option (List ℕ))
    (link : LinkTold) (asked : RequestParts) (reply : ReplyParts) : Type 0 where
  pub reading : ℕ
  pub outcome : Outcome
  pub carried : List Carrying
  pub clock : Tells (λ readings. readings ++ reading ∷ []) given now
  pub step : Step reading (Ask asked) before outcome after
  pub gives : GivesReply asked outcome reply carried
  pub alone : IsTrue (answers_none link.exchanges) → RepliesAlone asked outcome reply

-- What an entity answers by what a frame is bound to: to a request, what the machine gives it; and
-- to none a refusal with the identifier that the frame has, and the entity stays as it is.
abbrev pub AnswersBound : EntityData → EntityData → Option (List ℕ) → Option (List ℕ)
    → LinkTold → Result RequestParts BindFault → Option (List ℕ) → ReplyParts → Type 0
AnswersBound before after given now link (Ok asked) id reply =
    AnswersOnce before after given now link asked reply
AnswersBound before after given now link (Err fault) id reply =
    (reply ≡ malformed id) × (after ≡ before)

-- What the caller gets of a reply that another CSE wrote: the reply, with the identifier of the
-- caller's request, where it can be told; and else that the CSE isn't reachable.
pub record GivesTold (rqi : List ℕ) (told reply : ReplyParts) : Type 0 where
  pub handed : CanBeTold told → reply ≡ handed_on rqi told
  pub unread : ¬ (CanBeTold told) → reply ≡ unreached rqi

-- The answer is one reply, which the entity gives what the frame is bound to, and which closes the
-- connection; its content is sound, and the caller gets it so.
pub record IsPeersAnswer (before after : EntityData) (given now : Option (List ℕ))
    (link : LinkTold) (frame : Frame) (rqi answer : List ℕ) : Type 0 where
  pub reply : ReplyParts
  pub answers : AnswersBound before after given now link (binding frame) (echo_of frame) reply
  pub text : answer ≡ reply_text reply true
  pub sound : IfSome reply.pc IsSound
  pub gives : (other : ReplyParts) → Carried (Some answer) rqi other → GivesTold rqi reply other

-- Where the answer of a link is the talk of another CSE with the bytes that were sent for a
-- request, and the frame of the request stands at the front of these, it is what the machine of
-- that CSE gives to what the frame is bound to.
abbrev pub AnAnswerIsThePeers : Type 0
AnAnswerIsThePeers =
    (sent : RequestParts) (url rest : List ℕ) (before after : EntityData)
    (given now : Option (List ℕ)) (answer : List ℕ)
    → BeginsWithFrame Request (request_text sent url Peer) (request_frame sent url Peer) rest
    → (talks : PeerTalks before after given now (request_text sent url Peer) answer)
    → IsPeersAnswer before after given now talks.new.link (request_frame sent url Peer) sent.rqi
    answer

-- The answer gives the caller the refusal BAD_REQUEST, with the identifier of the caller's request,
-- and the entity stays as it is.
pub record IsRefusedThere (before after : EntityData) (rqi answer : List ℕ) : Type 0 where
  pub stays : after ≡ before
  pub gives : Carried (Some answer) rqi (malformed (Some rqi))

-- So it is where the frame binds to no request.
abbrev pub WhatBindsToNothingIsRefusedThere : Type 0
WhatBindsToNothingIsRefusedThere =
    (sent : RequestParts) (url rest : List ℕ) (fault : BindFault) (before after : EntityData)
    (given now : Option (List ℕ)) (answer : List ℕ)
    → BeginsWithFrame Request (request_text sent url Peer) (request_frame sent url Peer) rest
    → binding (request_frame sent url Peer) ≡ Err fault
    → PeerTalks before after given now (request_text sent url Peer) answer
    → IsRefusedThere before after sent.rqi answer

-- And so it is where no frame stands at the front of the bytes, as of a request whose head or body
-- is longer than that of a message may be.
abbrev pub WhatIsNoMessageIsRefusedThere : Type 0
WhatIsNoMessageIsRefusedThere =
    (sent : RequestParts) (url : List ℕ) (before after : EntityData)
    (given now : Option (List ℕ)) (answer : List ℕ)
    → HasNoFrame Request (request_text sent url Peer)
    → PeerTalks before after given now (request_text sent url Peer) answer
    → IsRefusedThere before after sent.rqi answer

-- Where the frame of the request says all that it has, and nothing that is read otherwise, the
-- answer is one reply, which the machine of the other CSE gives that very request; but for a filter
-- without conditions, which is none. Its content is sound.
abbrev pub TheRequestIsAnsweredThere : Type 0
TheRequestIsAnsweredThere =
    (sent : RequestParts) (url : List ℕ) (before after : EntityData)
    (given now : Option (List ℕ)) (answer : List ℕ)
    → SaysAll sent url
    → (talks : PeerTalks before after given now (request_text sent url Peer) answer)
    → (read : Option FilterParts) × AreAlike sent.fc read × (reply : ReplyParts)
    × AnswersOnce before after given now talks.new.link (record sent { fc = read }) reply
    × (answer ≡ reply_text reply true) × IfSome reply.pc IsSound
