-- Laws of the binding.
use Rattle.std.specs.Prelude.{◌≡◌, ◌≤◌, ℕ, Bool, List, ◌++◌, length, Option, Some}
use Rattle.std.specs.Prelude.{is_some, option_map}
use Rattle.m2m_names.specs.declared.operations.Op.{Op}
use Rattle.primitive_json.specs.Laws.{IsOfKinds, HasShortExpiry, IsReplyOfKinds}
use Rattle.primitive_json.specs.Members.{creates}
use Rattle.primitive_json.specs.declared.request.RequestParts.{RequestParts}
use Rattle.primitive_json.specs.declared.reply.ReplyParts.{ReplyParts}
use Rattle.http_frames.specs.declared.frame.Frame.{Frame}
use Rattle.http_frames.specs.declared.frame.Side.TheVariants.{Reply}
use Rattle.http_frames.specs.Frame.{body_limit}
use Rattle.http_frames.specs.Stream.{BeginsWithFrame}
use Rattle.http_frames.specs.Text.{IsSoundFrame}
use Rattle.http_binding.specs.Binding.{Binds, echo_of}
use Rattle.http_binding.specs.Methods.{method_named, method_text, operation_of}
use Rattle.http_binding.specs.Replying.{body_of, reply_frame, reply_text}

-- A frame binds to at most one request.
abbrev pub BindsToOne : Type 0
BindsToOne =
    (frame : Frame) (request other : RequestParts) → Binds frame request → Binds frame other
    → request ≡ other

-- The method that asks for an operation, beside the type that is to be created where the operation
-- creates one, is read as that operation.
abbrev pub OperationIsReadBack : Type 0
OperationIsReadBack =
    (op : Op) (type : Option ℕ) → is_some type ≡ creates op
    → option_map (λ method. operation_of method type) (method_named (method_text op)) ≡ Some op

-- A frame binds to requests alone whose parameters are of their kinds (TS-0004, 8.2.2), and whose
-- milliseconds have at most 18 digits.
abbrev pub BindsToKinds : Type 0
BindsToKinds =
    (frame : Frame) (request : RequestParts) → Binds frame request
    → IsOfKinds request × HasShortExpiry request

-- The reply to a frame that binds repeats the identifier of the request.
abbrev pub EchoIsId : Type 0
EchoIsId =
    (frame : Frame) (request : RequestParts) → Binds frame request
    → echo_of frame ≡ Some request.rqi

-- The identifier that the reply repeats, if it does, is one, and its body is no longer than a
-- frame's may be.
pub record IsWithinLimits (reply : ReplyParts) : Type 0 where
  pub rqi : IsReplyOfKinds reply
  pub body : length (body_of reply.pc) ≤ body_limit Reply

-- The frame of such a reply is sound, and stands at the front of its text, whatever follows.
abbrev pub ReplyIsReadBack : Type 0
ReplyIsReadBack =
    (reply : ReplyParts) (close : Bool) → IsWithinLimits reply
    → IsSoundFrame Reply (reply_frame reply close)
    × ((rest : List ℕ)
    → BeginsWithFrame Reply (reply_text reply close ++ rest) (reply_frame reply close) rest)
