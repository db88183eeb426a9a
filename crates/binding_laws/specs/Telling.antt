-- Which replies can be told to another CSE, and that the bytes of another reply say none (RFC 9112,
-- section 2.1; TS-0009, 6.3 to 6.5).
use Rattle.std.specs.Prelude.{◌≡◌, ◌≤◌, Bool, length, IfSome, Ok}
use Rattle.m2m_value.specs.Data.{depth}
use Rattle.m2m_value.specs.Reading.{reading_depth}
use Rattle.m2m_value.specs.Sound.{IsSound}
use Rattle.primitive_json.specs.Laws.{IsReplyOfKinds}
use Rattle.primitive_json.specs.declared.reply.ReplyParts.{ReplyParts}
use Rattle.http_frames.specs.Frame.{IsFrame, body_limit}
use Rattle.http_frames.specs.declared.frame.Frame.{Frame}
use Rattle.http_frames.specs.declared.frame.Side.TheVariants.{Reply}
use Rattle.http_binding.specs.Replying.{body_of, reply_text}
use Rattle.http_client_binding.specs.ReplyReading.{reply_in}

-- A reply as each is that a CSE makes: its identifier is of its kind, and its content is sound.
pub record IsSoundTold (reply : ReplyParts) : Type 0 where
  pub rqi : IsReplyOfKinds reply
  pub pc : IfSome reply.pc IsSound

-- The content of a reply is no deeper than a text is read, and its text no longer than the body of
-- a message may be.
pub record CanBeTold (reply : ReplyParts) : Type 0 where
  pub depth : IfSome reply.pc (λ content. depth content ≤ reading_depth)
  pub body : length (body_of reply.pc) ≤ body_limit Reply

-- The bytes of a reply that can't be told are no message, or one that says no reply.
abbrev pub WhatCanNotBeToldSaysNone : Type 0
WhatCanNotBeToldSaysNone =
    (reply said : ReplyParts) (close : Bool) (frame : Frame) → IsSoundTold reply
    → ¬ (CanBeTold reply) → IsFrame Reply (reply_text reply close) frame
    → ¬ (reply_in frame ≡ Ok said)
