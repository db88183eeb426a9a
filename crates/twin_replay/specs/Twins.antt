-- Lines, taken one after another by the two sides, and what is written for them.
use Rattle.std.specs.Prelude.{◌≡◌, ◌⊎◌, ℕ, ◌+◌, ◌≤◌, List, [], ◌∷◌, ◌++◌, length, Option, Some}
use Rattle.std.specs.Prelude.{None, IfSome, true, false, flat_map, option_to_list, if◌then◌else◌}
use Rattle.std.specs.Io.KnownBytes.{IsAtEnd}
use Rattle.m2m_io.specs.declared.status.Status.{Status}
use Rattle.m2m_io.specs.declared.status.Status.TheVariants.{Done, Usage, BadLine, ReadFault}
use Rattle.m2m_io.specs.declared.status.Status.TheVariants.{WriteFault, Memory, BadStream}
use Rattle.resource_model.specs.Home.{HomeData}
use Rattle.cse_server.specs.Outside.{Puts, PutsPart, SinkTold}
use Rattle.primitive_replay.specs.Lines.{line_at}
use Rattle.primitive_replay.specs.Stream.{BeginsBadly, BeginsWithTexts, HoldsLittle, HoldsNoLine}
use Rattle.primitive_replay.specs.Stream.{LeadsOver}
use Rattle.twin_replay.specs.Forms.{form_of, is_asking}
use Rattle.twin_replay.specs.Sides.{TakesLine, starting}
use Rattle.twin_replay.specs.declared.lines.Part.{Part}
use Rattle.twin_replay.specs.declared.lines.TwinLine.{TwinLine}
use Rattle.twin_replay.specs.declared.sides.Sides.{Sides}

-- ---- what is said to lines

-- the form of the line that comes next
abbrev pub next_form : Sides → List ℕ → Option TwinLine
next_form sides = form_of sides.home sides.part

-- The text at this place is a line that may stand there, and the sides took it; this is written for
-- it.
pub record TakesText (place : ℕ) (sides : Sides) (text : List ℕ) (next : Sides)
    (said : Option (List ℕ)) : Type 0 where
  pub line : TwinLine
  pub is : line_at (next_form sides) place text ≡ Some line
  pub takes : TakesLine line sides next said

-- The sides took the lines with these texts one after another, from the one at this place on, and
-- these texts are written for them. Memory ran out for none of them.
abbrev pub TakesTexts : ℕ → Sides → List (List ℕ) → Sides → List (List ℕ) → Type 0
TakesTexts place sides [] after said = (after ≡ sides) × (said ≡ [])
TakesTexts place sides (text ∷ texts) after said =
    (next : Sides) × (first : Option (List ℕ)) × (later : List (List ℕ))
    × TakesText place sides text next first × (said ≡ option_to_list first ++ later)
    × TakesTexts (place + 1) next texts after later

-- ---- what is written

-- These texts were written, each by one put.
abbrev pub PutsEach : List (List ℕ) → SinkTold → SinkTold → Type 0
PutsEach texts old new = Puts (flat_map (λ (text : List ℕ). text) texts) (length texts) old new

-- All texts but the last were written, each by one put, and of the last one a part, by one put
-- more.
pub record PutsPartOfLast (texts : List (List ℕ)) (old new : SinkTold) : Type 0 where
  pub whole : List (List ℕ)
  pub last : List ℕ
  pub between : SinkTold
  pub texts_are : texts ≡ whole ++ last ∷ []
  pub before : PutsEach whole old between
  pub part : PutsPart last between new

-- What is written where it ended so, these being the texts for the lines that were taken: all of
-- them, but where writing failed a part of the last one.
abbrev pub WritesTexts : Status → List (List ℕ) → SinkTold → SinkTold → Type 0
WritesTexts Done texts old new = PutsEach texts old new
WritesTexts Usage texts old new = ⊥
WritesTexts (BadLine n) texts old new = PutsEach texts old new
WritesTexts ReadFault texts old new = PutsEach texts old new
WritesTexts WriteFault texts old new = PutsPartOfLast texts old new
WritesTexts Memory texts old new = PutsEach texts old new
WritesTexts BadStream texts old new = ⊥

-- ---- how the lines end

-- The next line, which has this place, is bad: it may not stand there; or there is none, and no
-- originator is named yet.
abbrev pub StandsBadly : ℕ → Sides → List ℕ → Type 0
StandsBadly place sides rest =
    BeginsBadly (next_form sides) place rest ⊎ ((rest ≡ []) × (is_asking sides.part ≡ false))

-- Of the rest one line was taken at most, for which memory then ran out, and of what is behind it
-- some bytes were read, few more than the longest line has.
pub record LosesOne (rest left : List ℕ) : Type 0 where
  pub lost : List (List ℕ)
  pub behind : List ℕ
  pub takes : BeginsWithTexts rest lost behind
  pub one : length lost ≤ 1
  pub reads : HoldsLittle behind left

-- When the lines end so, these being the sides, what is left behind the lines that were taken, and
-- what the source has left now, and the next line having this place: it is done where nothing is
-- left and the originator is named; at a bad line where the next one is; at a fault of reading each
-- line that was read to its end was taken; and little was read behind the lines that were taken.
abbrev pub Stops : Status → ℕ → Sides → List ℕ → Option (List ℕ) → Type 0
Stops Done place sides rest now = (rest ≡ []) × (is_asking sides.part ≡ true) × IsAtEnd now
Stops Usage place sides rest now = ⊥
Stops (BadLine n) place sides rest now =
    (n ≡ place) × StandsBadly place sides rest × IfSome now (HoldsLittle rest)
Stops ReadFault place sides rest now = IfSome now (HoldsNoLine rest)
Stops WriteFault place sides rest now = IfSome now (HoldsLittle rest)
Stops Memory place sides rest now = IfSome now (LosesOne rest)
Stops BadStream place sides rest now = ⊥

-- ---- all together

-- what the input has left and the output tells at one moment, where they tell it
pub record Told : Type 0 where
  pub left : Option (List ℕ)
  pub out : SinkTold

abbrev pub told : Option (List ℕ) → SinkTold → Told
told left out = record { left = left; out = out }

-- Lines were taken by these sides, from the one at this place on, and ended so. Of the bytes that
-- the source had left, `texts` are those of the lines that were taken, and `said` is what is
-- written for them.
pub record TwinsFrom (place : ℕ) (before : Sides) (old new : Told) (status : Status) : Type 0 where
  pub texts : List (List ℕ)
  pub after : Sides
  pub said : List (List ℕ)
  pub takes : TakesTexts place before texts after said
  pub stream : IfSome old.left (λ bytes. (rest : List ℕ) × BeginsWithTexts bytes texts rest
      × Stops status (place + length texts) after rest new.left)
  pub written : WritesTexts status said old.out new.out

-- Two entities with this home, which opened at the reading 0, were prepared, compared and asked by
-- the lines of the input, from the first one on, and what is written for these was written to the
-- output, as far as the status says.
abbrev pub Twins : HomeData → Told → Told → Status → Type 0
Twins home old new status = TwinsFrom 1 (starting home) old new status

-- ---- on the way

-- Lines are taken by these sides, from the one at this place up to the next, and what is written
-- for them was written.
pub record TwinsUpTo (place next : ℕ) (before after : Sides) (old new : Told) : Type 0 where
  pub texts : List (List ℕ)
  pub said : List (List ℕ)
  pub takes : TakesTexts place before texts after said
  pub places : place + length texts ≡ next
  pub stream : LeadsOver texts old.left new.left
  pub written : PutsEach said old.out new.out

-- How it ends where no line is left and the next one would have this place.
abbrev pub end_status : Part → ℕ → Status
end_status part place = if is_asking part then Done else BadLine place

-- What comes of a line that is taken, and of what is written for it: it was written by one put, and
-- the lines go on; or in part, as that failed; or memory ran out for it, and nothing was written.
abbrev pub SaysLine : Option Status → TwinLine → Sides → Sides → SinkTold → SinkTold → Type 0
SaysLine None line sides next old new = (said : Option (List ℕ))
    × TakesLine line sides next said × PutsEach (option_to_list said) old new
SaysLine (Some Done) line sides next old new = ⊥
SaysLine (Some Usage) line sides next old new = ⊥
SaysLine (Some (BadLine n)) line sides next old new = ⊥
SaysLine (Some ReadFault) line sides next old new = ⊥
SaysLine (Some WriteFault) line sides next old new = (text : List ℕ)
    × TakesLine line sides next (Some text) × PutsPart text old new
SaysLine (Some Memory) line sides next old new = new ≡ old
SaysLine (Some BadStream) line sides next old new = ⊥
