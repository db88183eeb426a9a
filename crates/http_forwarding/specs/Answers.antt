-- The reply that the answer of another CSE gives (TS-0001, 10.2.2; TS-0004, 6.6.3).
use Rattle.std.specs.Prelude.{◌≡◌, ℕ, ◌⊎◌, Bool, List, Option, Some, None, Ok}
use Rattle.m2m_names.specs.declared.codes.Rsc.TheVariants.{NotReachable}
use Rattle.primitive_json.specs.declared.reply.ReplyParts.{ReplyParts}
use Rattle.http_binding.specs.Replying.{reply_frame, reply_text}
use Rattle.http_frames.specs.Frame.{IsFrame}
use Rattle.http_frames.specs.Text.{IsSoundFrame}
use Rattle.http_frames.specs.declared.frame.Frame.{Frame}
use Rattle.http_frames.specs.declared.frame.Side.TheVariants.{Reply}
use Rattle.http_client_binding.specs.Laws.{IsTold}
use Rattle.http_client_binding.specs.ReplyReading.{reply_in}

-- The bytes are one message and nothing else (RFC 9112, section 2.1), which says this reply.
pub record SaysReply (answer : List ℕ) (reply : ReplyParts) : Type 0 where
  pub frame : Frame
  pub is_frame : IsFrame Reply answer frame
  pub says : reply_in frame ≡ Ok reply

-- The bytes are no message that says a reply.
abbrev pub SaysNone : List ℕ → Type 0
SaysNone answer = (reply : ReplyParts) → ¬ (SaysReply answer reply)

-- the reply of the other CSE, with the identifier of the request
abbrev pub handed_on : List ℕ → ReplyParts → ReplyParts
handed_on rqi said = record said { rqi = Some rqi }

-- the reply that the other CSE isn't reachable (TS-0004, 6.6.3)
abbrev pub unreached : List ℕ → ReplyParts
unreached rqi = record { rsc = NotReachable; rqi = Some rqi; pc = None }

-- The reply to a request with this identifier, by the bytes that its exchange gave: that of the
-- other CSE, where they say one.
abbrev pub CarriedBy : List ℕ → List ℕ → ReplyParts → Type 0
CarriedBy answer rqi reply =
    ((said : ReplyParts) × SaysReply answer said × (reply ≡ handed_on rqi said))
    ⊎ (SaysNone answer × (reply ≡ unreached rqi))

-- The same where an exchange that failed has no answer.
abbrev pub Carried : Option (List ℕ) → List ℕ → ReplyParts → Type 0
Carried None rqi reply = reply ≡ unreached rqi
Carried (Some answer) rqi reply = CarriedBy answer rqi reply

-- What the bytes of an answer are read as: the reply that they say, or that they say none.
abbrev pub ReadsAnswer : List ℕ → Option ReplyParts → Type 0
ReadsAnswer answer (Some reply) = SaysReply answer reply
ReadsAnswer answer None = SaysNone answer

-- The message that bytes are, or that they are none.
abbrev pub IsLoneFrame : List ℕ → Option Frame → Type 0
IsLoneFrame answer (Some frame) = IsFrame Reply answer frame
IsLoneFrame answer None = (frame : Frame) → ¬ (IsFrame Reply answer frame)

-- The reply that a message says, or that it says none.
abbrev pub SaysIn : Frame → Option ReplyParts → Type 0
SaysIn frame (Some reply) = reply_in frame ≡ Ok reply
SaysIn frame None = (reply : ReplyParts) → ¬ (reply_in frame ≡ Ok reply)

-- ---- laws

-- An answer gives one reply.
abbrev pub AnswerGivesOneReply : Type 0
AnswerGivesOneReply =
    (answer : Option (List ℕ)) (rqi : List ℕ) (reply other : ReplyParts)
    → Carried answer rqi reply → Carried answer rqi other → reply ≡ other

-- What another CSE writes of a reply is what the caller gets, with the identifier of the caller's
-- request: where the reply is of its kinds, and its message within the limits.
abbrev pub WhatIsToldIsCarried : Type 0
WhatIsToldIsCarried =
    (told : ReplyParts) (close : Bool) (rqi : List ℕ) → IsTold told
    → IsSoundFrame Reply (reply_frame told close)
    → Carried (Some (reply_text told close)) rqi (handed_on rqi told)
