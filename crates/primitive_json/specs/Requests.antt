-- What a request keeps.
use Rattle.std.specs.Prelude.{IfSome, IsUtf8}
use Rattle.primitive_json.specs.declared.request.RequestParts.{RequestParts}
use Rattle.primitive_json.specs.declared.request.When.{When}
use Rattle.primitive_json.specs.declared.request.When.TheVariants.{At, Millis}
use Rattle.filter_criteria.specs.Bounds.{IsMoment, IsCount}

-- a moment of a timestamp, or a count of milliseconds (TS-0004, 6.3.3)
abbrev pub IsSoundWhen : When → Type 0
IsSoundWhen (At at) = IsMoment at
IsSoundWhen (Millis n) = IsCount n

-- The texts of a request are UTF-8, and its time of expiry is sound; the content and the filter
-- keep their own (TS-0001, 8.1.2).
pub record IsSoundRequest (r : RequestParts) : Type 0 where
  pub to : IsUtf8 r.to
  pub fr : IfSome r.fr IsUtf8
  pub rqi : IsUtf8 r.rqi
  pub rqet : IfSome r.rqet IsSoundWhen
