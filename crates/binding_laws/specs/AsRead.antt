-- What is known of a request that was read, from a message or from a line (TS-0004, 8.2.2; TS-0009,
-- 6.2 to 6.5).
use Rattle.std.specs.Prelude.{◌≡◌, ◌≤◌, ◌<◌, ℕ, List, IfSome, IsUtf8, Ok}
use Rattle.std.specs.List.{AllByRecursion}
use Rattle.m2m_value.specs.Data.{Data, depth}
use Rattle.m2m_value.specs.Reading.{reading, reading_depth}
use Rattle.m2m_value.specs.Sound.{IsSound}
use Rattle.primitive_json.specs.Laws.{IsOfKinds}
use Rattle.primitive_json.specs.Reading.{read_request}
use Rattle.primitive_json.specs.declared.request.RequestParts.{RequestParts}
use Rattle.http_frames.specs.declared.frame.Frame.{Frame}
use Rattle.http_binding.specs.Binding.{Binds}

-- a text of bytes that are UTF-8, as each is that a request keeps
pub record IsText (text : List ℕ) : Type 0 where
  pub bytes : AllByRecursion (λ (b : ℕ). b < 256) text
  pub utf8 : IsUtf8 text

-- A request as each is that is read, from a message or from a line: its parameters are of their
-- kinds, its labels are texts, and its content is a value, no deeper than a text is read.
pub record IsAsRead (request : RequestParts) : Type 0 where
  pub kinds : IsOfKinds request
  pub labels : IfSome request.fc (λ filter. AllByRecursion IsText filter.lbl)
  pub pc : IfSome request.pc (λ content. IsSound content × (depth content ≤ reading_depth))

-- A frame binds to requests alone that are so, where the content is sound, as each value is that is
-- kept.
abbrev pub WhatIsBoundIsAsRead : Type 0
WhatIsBoundIsAsRead =
    (frame : Frame) (request : RequestParts) → Binds frame request → IfSome request.pc IsSound
    → IsAsRead request

-- And so is a request that is read from the value of a line.
abbrev pub WhatALineSaysIsAsRead : Type 0
WhatALineSaysIsAsRead =
    (line : List ℕ) (value : Data) (request : RequestParts) → reading line ≡ Ok value
    → IsSound value → read_request value ≡ Ok request → IsAsRead request
