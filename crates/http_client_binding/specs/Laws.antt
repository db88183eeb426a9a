-- Laws of the binding on the side that asks.
use Rattle.std.specs.Prelude.{◌≡◌, ◌≤◌, ℕ, Bool, List, ◌++◌, length, IsTrue, IfSome, count_by}
use Rattle.std.specs.Prelude.{Ok, bytes_eq}
use Rattle.m2m_value.specs.Data.{depth}
use Rattle.m2m_value.specs.Reading.{reading_depth}
use Rattle.m2m_value.specs.Sound.{IsSound}
use Rattle.filter_criteria.specs.Conditions.{name_of_condition}
use Rattle.filter_criteria.specs.declared.condition.Condition.{Condition}
use Rattle.primitive_json.specs.Laws.{IsOfKinds, IsReplyOfKinds}
use Rattle.primitive_json.specs.Notes.{IsSomeUrl}
use Rattle.primitive_json.specs.declared.request.RequestParts.{RequestParts}
use Rattle.primitive_json.specs.declared.reply.ReplyParts.{ReplyParts}
use Rattle.http_frames.specs.declared.frame.Side.TheVariants.{Request}
use Rattle.http_frames.specs.Frame.{head_limit, body_limit}
use Rattle.http_frames.specs.Stream.{BeginsWithFrame}
use Rattle.http_frames.specs.Text.{IsSoundFrame, IsTarget, head_text, frame_text}
use Rattle.http_binding.specs.Replying.{body_of, reply_frame}
use Rattle.http_target.specs.Targets.{address_of_path}
use Rattle.http_client_binding.specs.declared.target.Aim.{Aim}
use Rattle.http_client_binding.specs.ReplyReading.{reply_in}
use Rattle.http_client_binding.specs.Asking.{target_text, request_frame}
use Rattle.http_client_binding.specs.QueryWriting.{written_order}
use Rattle.http_client_binding.specs.TargetWriting.{path_of_address, has_own_path}

-- The identifier of a reply is of its kind, and its content no deeper than a text is read.
pub record IsTold (reply : ReplyParts) : Type 0 where
  pub rqi : IsReplyOfKinds reply
  pub pc : IfSome reply.pc (λ content. IsSound content × (depth content ≤ reading_depth))

-- The frame of such a reply says the reply.
abbrev pub ReplyIsSaid : Type 0
ReplyIsSaid =
    (reply : ReplyParts) (close : Bool) → IsTold reply
    → reply_in (reply_frame reply close) ≡ Ok reply

-- An address is read back from its path, where it has one of its own.
abbrev pub AddressIsReadBack : Type 0
AddressIsReadBack =
    (to : List ℕ) → IsTrue (has_own_path to) → address_of_path (path_of_address to) ≡ to

-- Each condition that a filter may have stands in the order of writing, and once.
abbrev pub EachConditionIsWritten : Type 0
EachConditionIsWritten =
    (condition : Condition)
    → count_by (λ other. bytes_eq (name_of_condition other) (name_of_condition condition))
    written_order ≡ 1

-- The parameters of a request are of their kinds, it goes to a URL, its target is one of the
-- grammar, and its head and its body are no longer than a frame's may be.
pub record IsSendable (r : RequestParts) (url : List ℕ) (aim : Aim) : Type 0 where
  pub kinds : IsOfKinds r
  pub is_url : IsSomeUrl url
  pub target : IsTarget (target_text r url aim)
  pub head : length (head_text (request_frame r url aim)) ≤ head_limit
  pub body : length (body_of r.pc) ≤ body_limit Request

-- The frame of such a request is sound, and stands at the front of its text, whatever follows.
abbrev pub RequestIsReadBack : Type 0
RequestIsReadBack =
    (r : RequestParts) (url : List ℕ) (aim : Aim) → IsSendable r url aim
    → IsSoundFrame Request (request_frame r url aim)
    × ((rest : List ℕ)
    → BeginsWithFrame Request (frame_text (request_frame r url aim) ++ rest)
    (request_frame r url aim) rest)
