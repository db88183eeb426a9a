-- Two entities, and what a line does to them.
use Rattle.std.specs.Prelude.{◌≡◌, ◌≢◌, ◌⊎◌, ℕ, max, Bool, true, false, List, Option, Some, None}
use Rattle.primitive_json.specs.declared.request.RequestParts.{RequestParts}
use Rattle.resource_model.specs.Home.{HomeData}
use Rattle.entity_model.specs.Entity.{EntityData}
use Rattle.entity_model.specs.Opening.{opening}
use Rattle.equal_sights.specs.Sight.{sight}
use Rattle.cse_machine.specs.History.{IsDone}
use Rattle.cse_machine.specs.Step.{Step}
use Rattle.cse_machine.specs.declared.event.Event.TheVariants.{Ask as AskEvent, Tick}
use Rattle.cse_machine.specs.declared.event.Outcome.{Outcome}
use Rattle.cse_machine.specs.declared.event.Outcome.TheVariants.{Done, Forward, Item, Ticked}
use Rattle.cse_machine.specs.declared.event.Outcome.TheVariants.{Starved}
use Rattle.primitive_replay.specs.declared.line.Line.{Line}
use Rattle.primitive_replay.specs.declared.line.Line.TheVariants.{Empty, Reading, Ask}
use Rattle.twin_replay.specs.Texts.{agree_line, answer_text, differ_line, outcome_text}
use Rattle.twin_replay.specs.declared.lines.Part.{Part}
use Rattle.twin_replay.specs.declared.lines.Part.TheVariants.{Before, LeftSide, RightSide, Asking}
use Rattle.twin_replay.specs.declared.lines.TwinLine.{TwinLine}
use Rattle.twin_replay.specs.declared.lines.TwinLine.TheVariants.{OpensLeft, PreparesLeft}
use Rattle.twin_replay.specs.declared.lines.TwinLine.TheVariants.{OpensRight, PreparesRight}
use Rattle.twin_replay.specs.declared.lines.TwinLine.TheVariants.{Compares, AsksBoth}
use Rattle.twin_replay.specs.declared.sides.Sides.{Sides}

-- Both sides before the first line: each is an entity with this home, which opened at the reading
-- 0.
abbrev pub starting : HomeData → Sides
starting home = record {
  home = home;
  part = Before;
  reading = 0;
  left = opening home 0;
  right = opening home 0;
}

-- ---- the preparations

-- the test of IsDone: there was memory for an event of which this came
abbrev pub has_memory : Outcome → Bool
has_memory (Done reply) = true
has_memory (Forward poa onward) = true
has_memory (Item given) = true
has_memory Ticked = true
has_memory (Starved done) = false

-- An entity took a request at a reading, and there was memory for it.
pub record TakesRequest (reading : ℕ) (request : RequestParts) (before after : EntityData) : Type 0
  where
    pub outcome : Outcome
    pub step : Step reading (AskEvent request) before outcome after
    pub done : IsDone outcome

-- An entity was prepared by a line that is replayed: the readings, and then the entities, before it
-- and behind it.
abbrev pub Prepares : Line → ℕ → ℕ → EntityData → EntityData → Type 0
Prepares Empty reading now before after = (now ≡ reading) × (after ≡ before)
Prepares (Reading moment) reading now before after = (now ≡ moment) × (after ≡ before)
Prepares (Ask request) reading now before after =
    (now ≡ reading) × TakesRequest reading request before after

-- The left side was prepared by a line.
pub record PreparesOnLeft (line : Line) (sides next : Sides) : Type 0 where
  pub reading : ℕ
  pub after : EntityData
  pub prepares : Prepares line sides.reading reading sides.left after
  pub next_is : next ≡ record sides { reading = reading; left = after }

-- The right side was.
pub record PreparesOnRight (line : Line) (sides next : Sides) : Type 0 where
  pub reading : ℕ
  pub after : EntityData
  pub prepares : Prepares line sides.reading reading sides.right after
  pub next_is : next ≡ record sides { reading = reading; right = after }

-- ---- the comparison

-- the later one of the last moments of both sides
abbrev pub later_last : Sides → ℕ
later_last sides = max sides.left.last sides.right.last

-- The text says that the originator has the same sight of two entities, exactly where it has.
abbrev pub IsVerdict : List ℕ → EntityData → EntityData → List ℕ → Type 0
IsVerdict originator left right text =
    ((sight originator left ≡ sight originator right) × (text ≡ agree_line))
    ⊎ ((sight originator left ≢ sight originator right) × (text ≡ differ_line))

-- Both sides were brought to the later one of their last moments, and this is the verdict on them,
-- for the originator that asks them at that moment from there on.
pub record ComparesSides (originator : List ℕ) (sides next : Sides) (text : List ℕ) : Type 0 where
  pub left : EntityData
  pub right : EntityData
  pub left_ticks : Step (later_last sides) Tick sides.left Ticked left
  pub right_ticks : Step (later_last sides) Tick sides.right Ticked right
  pub next_is : next ≡ record sides {
    part = Asking originator;
    reading = later_last sides;
    left = left;
    right = right;
  }
  pub verdict : IsVerdict originator left right text

-- ---- the requests

-- Both sides took a request, at the moment at which they were compared, and this is the text of
-- what came of it.
pub record AsksSides (request : RequestParts) (sides next : Sides) (text : List ℕ) : Type 0 where
  pub left : EntityData
  pub right : EntityData
  pub left_outcome : Outcome
  pub right_outcome : Outcome
  pub left_step : Step sides.reading (AskEvent request) sides.left left_outcome left
  pub right_step : Step sides.reading (AskEvent request) sides.right right_outcome right
  pub next_is : next ≡ record sides { left = left; right = right }
  pub text_is : text ≡
      answer_text (outcome_text request left_outcome) (outcome_text request right_outcome)

-- ---- any line

-- Nothing but the part of the lines has changed, and the reading is 0 again. Nothing is written.
pub record OpensSide (part : Part) (sides next : Sides) (said : Option (List ℕ)) : Type 0 where
  pub next_is : next ≡ record sides { part = part; reading = 0 }
  pub silent : said ≡ None

-- What a line does to the two sides, and what is written for it: nothing before both are compared;
-- and there, and for each request behind it, one text.
abbrev pub TakesLine : TwinLine → Sides → Sides → Option (List ℕ) → Type 0
TakesLine OpensLeft sides next said = OpensSide LeftSide sides next said
TakesLine (PreparesLeft line) sides next said = PreparesOnLeft line sides next × (said ≡ None)
TakesLine OpensRight sides next said = OpensSide RightSide sides next said
TakesLine (PreparesRight line) sides next said = PreparesOnRight line sides next × (said ≡ None)
TakesLine (Compares originator) sides next said =
    (text : List ℕ) × (said ≡ Some text) × ComparesSides originator sides next text
TakesLine (AsksBoth request) sides next said =
    (text : List ℕ) × (said ≡ Some text) × AsksSides request sides next text
