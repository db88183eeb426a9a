-- Lines on a stream of bytes.
use Rattle.std.specs.Prelude.{◌≡◌, ℕ, ◌+◌, ◌≤◌, List, [], ◌∷◌, ◌++◌, length, Option, Some, None, ⊤}
use Rattle.std.specs.Prelude.{IfSome}
use Rattle.std.specs.Io.KnownBytes.{IsAtEnd, Keeps}
use Rattle.std.specs.Str.Lines.{lines}
use Rattle.std.specs.declared.result.Result.{Result}
use Rattle.std.specs.declared.result.Result.TheVariants.{Ok, Err}
use Rattle.primitive_replay.specs.Front.{HasNoEnd, held_limit}
use Rattle.primitive_replay.specs.Lines.{line_at, line_read}
use Rattle.primitive_replay.specs.declared.fault.LineFault.{LineFault}
use Rattle.primitive_replay.specs.declared.fault.LineFault.TheVariants.{Bad, ReadFault, OutOfMemory}
use Rattle.primitive_replay.specs.declared.line.Line.{Line}

-- the lines with these texts, from the one at this place on, are none of them bad, and are these
abbrev pub AreLines : ℕ → List (List ℕ) → List Line → Type 0
AreLines place [] [] = ⊤
AreLines place [] (line ∷ heard) = ⊥
AreLines place (text ∷ texts) [] = ⊥
AreLines place (text ∷ texts) (line ∷ heard) =
    (line_at line_read place text ≡ Some line) × AreLines (place + 1) texts heard

-- The bytes begin with these lines, of which the first stands at this place, and then this is left.
pub record BeginsWithLines (place : ℕ) (bytes : List ℕ) (heard : List Line) (rest : List ℕ)
    : Type 0 where
  pub front : List ℕ
  pub texts : List (List ℕ)
  pub bytes_are : bytes ≡ front ++ rest
  pub texts_are : lines bytes ≡ texts ++ lines rest
  pub each : AreLines place texts heard

-- The bytes begin with lines of these texts, and then this is left.
pub record BeginsWithTexts (bytes : List ℕ) (texts : List (List ℕ)) (rest : List ℕ) : Type 0 where
  pub front : List ℕ
  pub bytes_are : bytes ≡ front ++ rest
  pub texts_are : lines bytes ≡ texts ++ lines rest

-- The first line of the bytes, which stands at this place, is bad where lines have this form.
pub record BeginsBadly {L : Type 0} (form : List ℕ → Option L) (place : ℕ) (bytes : List ℕ)
    : Type 0 where
  pub text : List ℕ
  pub later : List (List ℕ)
  pub texts_are : lines bytes ≡ text ∷ later
  pub bad : line_at form place text ≡ None

-- Of the rest some bytes were read, before those that are left now: few more than the longest line
-- has.
pub record HoldsLittle (rest left : List ℕ) : Type 0 where
  pub held : List ℕ
  pub rest_is : rest ≡ held ++ left
  pub few : length held ≤ held_limit

-- Of the rest some bytes were read, few more than the longest line has, and no line ends in them.
pub record HoldsNoLine (rest left : List ℕ) : Type 0 where
  pub reads : HoldsLittle rest left
  pub none : HasNoEnd reads.held

-- ---- one line

-- the stream, where it is told, was these lines, the first of them at this place, and then what it
-- is now
abbrev pub LeadsTo : ℕ → Option (List ℕ) → List Line → Option (List ℕ) → Type 0
LeadsTo place None heard now = ⊤
LeadsTo place (Some bytes) heard None = ⊥
LeadsTo place (Some bytes) heard (Some rest) = BeginsWithLines place bytes heard rest

-- the stream, where it is told, was lines of these texts, and then what it is now
abbrev pub LeadsOver : List (List ℕ) → Option (List ℕ) → Option (List ℕ) → Type 0
LeadsOver texts None now = ⊤
LeadsOver texts (Some bytes) None = ⊥
LeadsOver texts (Some bytes) (Some rest) = BeginsWithTexts bytes texts rest

-- A line with a text was taken from the stream, and the text is this line at its place, where lines
-- have this form.
pub record TakesOff {L : Type 0} (form : List ℕ → Option L) (place : ℕ) (line : L)
    (old new : Option (List ℕ)) : Type 0 where
  pub text : List ℕ
  pub is : line_at form place text ≡ Some line
  pub stream : LeadsOver (text ∷ []) old new

-- what is told of the line at this place, which stood at the front of the stream, where lines have
-- this form: it is taken; or there is none; or the stream is as it was, and the line is bad or
-- wasn't read
abbrev pub NextIs : {L : Type 0} → (List ℕ → Option L) → ℕ → Result (Option L) LineFault
    → Option (List ℕ) → Option (List ℕ) → Type 0
NextIs form place (Ok (Some line)) old new = TakesOff form place line old new
NextIs form place (Ok None) old new = IsAtEnd old
NextIs form place (Err Bad) old new = Keeps old new × IfSome old (BeginsBadly form place)
NextIs form place (Err ReadFault) old new = Keeps old new
NextIs form place (Err OutOfMemory) old new = Keeps old new
