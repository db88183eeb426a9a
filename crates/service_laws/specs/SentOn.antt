-- What another CSE answers to each request that goes on to it, whatever the request holds
-- (TS-0001, 10.2.2).
use Rattle.std.specs.Prelude.{◌≡◌, ℕ, ◌⊎◌, true, List, Option, Some}
use Rattle.primitive_json.specs.Requests.{IsSoundRequest}
use Rattle.primitive_json.specs.declared.reply.ReplyParts.{ReplyParts}
use Rattle.primitive_json.specs.declared.request.RequestParts.{RequestParts}
use Rattle.http_frames.specs.Stream.{BeginsWithFrame}
use Rattle.http_frames.specs.declared.frame.Frame.{Frame}
use Rattle.http_frames.specs.declared.frame.Side.TheVariants.{Request}
use Rattle.http_binding.specs.Binding.{Binds}
use Rattle.http_binding.specs.Replying.{reply_text}
use Rattle.http_client_binding.specs.Asking.{request_text}
use Rattle.http_client_binding.specs.declared.target.Aim.TheVariants.{Peer}
use Rattle.http_forwarding.specs.Answers.{Carried}
use Rattle.entity_model.specs.Entity.{EntityData}
use Rattle.entity_model.specs.Sound.{IsSoundEntity}
use Rattle.cse_machine.specs.declared.event.Event.TheVariants.{Ask}
use Rattle.cse_machine.specs.declared.event.Outcome.TheVariants.{Forward}
use Rattle.cse_machine.specs.Step.{Step}
use Rattle.binding_laws.specs.OneMessage.{CanStandInHead}
use Rattle.cse_server.specs.Outside.{LinkTold}
use Rattle.peer_link.specs.PeerTalk.{PeerTalks}
use Rattle.service_laws.specs.Peers.{AnswersOnce, GivesTold, IsRefusedThere}

-- A sound entity was asked a request, which has what each request keeps, and the request goes on to
-- the CSE at a URL.
pub record IsSentOn (reading : ℕ) (request : RequestParts) (before after : EntityData)
    (url : List ℕ) (sent : RequestParts) : Type 0 where
  pub sound : IsSoundEntity before
  pub keeps : IsSoundRequest request
  pub step : Step reading (Ask request) before (Forward url sent) after

-- Its texts can stand in a head: none has the end of a line, as the machine refuses a request with
-- another identifier, originator or address.
abbrev pub WhatIsSentOnCanStandInHead : Type 0
WhatIsSentOnCanStandInHead =
    (reading : ℕ) (request : RequestParts) (before after : EntityData) (url : List ℕ)
    (sent : RequestParts) → IsSentOn reading request before after url sent
    → CanStandInHead sent url Peer

-- The bytes begin with a message, which binds to this request.
pub record BytesBind (bytes : List ℕ) (asked : RequestParts) : Type 0 where
  pub frame : Frame
  pub rest : List ℕ
  pub begins : BeginsWithFrame Request bytes frame rest
  pub binds : Binds frame asked

-- The bytes bind to no request: no message stands at their front, or the message binds to none.
abbrev pub BytesBindToNone : List ℕ → Type 0
BytesBindToNone bytes = (asked : RequestParts) → ¬ (BytesBind bytes asked)

-- The answer is one reply, which the machine of the other CSE gives this request; and the caller
-- gets it so.
pub record IsAnsweredThere (there left : EntityData) (given now : Option (List ℕ))
    (link : LinkTold) (asked : RequestParts) (rqi answer : List ℕ) : Type 0 where
  pub told : ReplyParts
  pub answers : AnswersOnce there left given now link asked told
  pub text : answer ≡ reply_text told true
  pub gives : (reply : ReplyParts) → Carried (Some answer) rqi reply → GivesTold rqi told reply

-- Where the answer of the link is the talk of another CSE with the bytes of a request that goes on,
-- the bytes bind to a request, and it is what the machine of that CSE gives that request; or they
-- bind to none, and the caller gets BAD_REQUEST.
abbrev pub WhatIsSentOnIsAnsweredOrRefused : Type 0
WhatIsSentOnIsAnsweredOrRefused =
    (reading : ℕ) (request : RequestParts) (before after : EntityData) (url : List ℕ)
    (sent : RequestParts) → IsSentOn reading request before after url sent
    → (there left : EntityData) (given now : Option (List ℕ)) (answer : List ℕ)
    → (talks : PeerTalks there left given now (request_text sent url Peer) answer)
    → ((asked : RequestParts) × BytesBind (request_text sent url Peer) asked
    × IsAnsweredThere there left given now talks.new.link asked sent.rqi answer)
    ⊎ (BytesBindToNone (request_text sent url Peer)
    × IsRefusedThere there left sent.rqi answer)
