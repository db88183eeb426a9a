-- That the bytes for a request to a URL are its own message, or begin with none (RFC 9112, section
-- 2.1).
use Rattle.std.specs.Prelude.{◌≤◌, ℕ, List, length, IfSome, IsTrue}
use Rattle.std.specs.Char.{is_ascii_graphic}
use Rattle.std.specs.List.{list_all}
use Rattle.primitive_json.specs.Laws.{IsWhenOfKind}
use Rattle.primitive_json.specs.Notes.{IsSomeUrl}
use Rattle.primitive_json.specs.declared.request.RequestParts.{RequestParts}
use Rattle.http_frames.specs.Frame.{IsFrame, body_limit, head_limit}
use Rattle.http_frames.specs.Stream.{HasNoFrame}
use Rattle.http_frames.specs.Text.{IsTarget, head_text}
use Rattle.http_frames.specs.declared.frame.Side.TheVariants.{Request}
use Rattle.http_binding.specs.Replying.{body_of}
use Rattle.http_client_binding.specs.Asking.{request_frame, request_text, target_text}
use Rattle.http_client_binding.specs.declared.target.Aim.{Aim}

-- the text has printable ASCII characters alone, and so no space and no end of a line
abbrev pub IsGraphic : List ℕ → Type 0
IsGraphic text = IsTrue (list_all is_ascii_graphic text)

-- The texts of a request can stand in a head, however long they are: it goes to a URL, its target
-- is one of the grammar, its originator and its identifier are printable, and a moment at which it
-- expires is one of a timestamp.
pub record CanStandInHead (r : RequestParts) (url : List ℕ) (aim : Aim) : Type 0 where
  pub is_url : IsSomeUrl url
  pub target : IsTarget (target_text r url aim)
  pub fr : IfSome r.fr IsGraphic
  pub rqi : IsGraphic r.rqi
  pub rqet : IfSome r.rqet IsWhenOfKind

-- The head and the body of a request are no longer than those of a message may be.
pub record FitsAMessage (r : RequestParts) (url : List ℕ) (aim : Aim) : Type 0 where
  pub head : length (head_text (request_frame r url aim)) ≤ head_limit
  pub body : length (body_of r.pc) ≤ body_limit Request

-- The bytes for such a request are its own message where head and body fit; and where one doesn't,
-- no message stands at the front of the bytes.
abbrev pub BytesAreTheMessageOrNone : Type 0
BytesAreTheMessageOrNone =
    (r : RequestParts) (url : List ℕ) (aim : Aim) → CanStandInHead r url aim
    → (FitsAMessage r url aim → IsFrame Request (request_text r url aim) (request_frame r url aim))
    × (¬ (FitsAMessage r url aim) → HasNoFrame Request (request_text r url aim))
