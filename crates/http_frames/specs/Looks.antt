-- What a look for a frame answers says of the bytes.
use Rattle.std.specs.Prelude.{◌<◌, ◌≤◌, ℕ, List, length}
use Rattle.httparse.specs.declared.spans.HeaderSpan.{HeaderSpan}
use Rattle.http_frames.specs.declared.frame.Side.{Side}
use Rattle.http_frames.specs.declared.look.FrameStatus.{FrameStatus}
use Rattle.http_frames.specs.declared.look.FrameStatus.TheVariants.{Whole, Short, Never}
use Rattle.http_frames.specs.Frame.{frame_limit}
use Rattle.http_frames.specs.Spans.{IsFrameAt, CanNotBegin}
use Rattle.http_frames.specs.Waiting.{StaysUnsettled}

-- Nothing is settled before so many bytes are there, which are more than there are and no more than
-- a frame may have.
pub record WaitsFor (side : Side) (bytes : List ℕ) (need : ℕ) : Type 0 where
  pub more_wanted : length bytes < need
  pub stays : StaysUnsettled side bytes need
  pub most : need ≤ frame_limit side

-- A frame stands there; or the look waits for more; or no frame can stand there.
abbrev pub IsLook : Side → List ℕ → List HeaderSpan → List ℕ → FrameStatus → Type 0
IsLook side bytes headers body (Whole spans) = IsFrameAt side bytes headers body spans
IsLook side bytes headers body (Short need) = WaitsFor side bytes need
IsLook side bytes headers body Never = CanNotBegin side bytes
