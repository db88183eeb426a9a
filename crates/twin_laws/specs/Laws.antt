-- What equal sights say of what is written to the lines of `twin`.
use Rattle.std.specs.Prelude.{◌≡◌, ℕ, ◌+◌, Bool, true, false, List, [], ◌∷◌, ◌++◌, codes, Option}
use Rattle.std.specs.Prelude.{Some, None, ⊤}
use Rattle.resource_model.specs.Home.{HomeData, IsHome}
use Rattle.entity_model.specs.Entity.{swept}
use Rattle.cse_machine.specs.History.{IsDone}
use Rattle.machine_laws.specs.Sight.{is_calm, is_poll}
use Rattle.primitive_replay.specs.Script.{as_line}
use Rattle.twin_replay.specs.Sides.{TakesLine, starting}
use Rattle.twin_replay.specs.Texts.{agree_line}
use Rattle.twin_replay.specs.Twins.{TakesTexts}
use Rattle.twin_replay.specs.declared.lines.TwinLine.{TwinLine}
use Rattle.twin_replay.specs.declared.lines.TwinLine.TheVariants.{OpensLeft, PreparesLeft}
use Rattle.twin_replay.specs.declared.lines.TwinLine.TheVariants.{OpensRight, PreparesRight}
use Rattle.twin_replay.specs.declared.lines.TwinLine.TheVariants.{Compares, AsksBoth}
use Rattle.twin_replay.specs.declared.sides.Sides.{Sides}

-- ---- one line

-- the text is a line that begins with `same`
pub record ReadsTheSame (text : List ℕ) : Type 0 where
  pub rest : List ℕ
  pub text_is : text ≡ as_line (codes "same " ++ rest)

-- there was memory on both sides for what a line asks
abbrev pub HasMemory : (line : TwinLine) (sides next : Sides) (said : Option (List ℕ))
    → TakesLine line sides next said → Type 0
HasMemory OpensLeft sides next said takes = ⊤
HasMemory (PreparesLeft line) sides next said takes = ⊤
HasMemory OpensRight sides next said takes = ⊤
HasMemory (PreparesRight line) sides next said takes = ⊤
HasMemory (Compares originator) sides next said takes = ⊤
HasMemory (AsksBoth request) sides next said takes =
    IsDone takes.2.left_outcome × IsDone takes.2.right_outcome

-- what is written for a line says that both sides give the same, where it asks both and doesn't
-- poll
abbrev pub SaysTheSame : TwinLine → Sides → Option (List ℕ) → Type 0
SaysTheSame OpensLeft sides said = ⊤
SaysTheSame (PreparesLeft line) sides said = ⊤
SaysTheSame OpensRight sides said = ⊤
SaysTheSame (PreparesRight line) sides said = ⊤
SaysTheSame (Compares originator) sides said = ⊤
SaysTheSame (AsksBoth request) sides said =
    is_poll (swept sides.reading sides.left) request ≡ false
    → (text : List ℕ) × (said ≡ Some text) × ReadsTheSame text

-- nothing is judged anew by what the line asks
abbrev pub is_calm_line : TwinLine → Bool
is_calm_line OpensLeft = true
is_calm_line (PreparesLeft line) = true
is_calm_line OpensRight = true
is_calm_line (PreparesRight line) = true
is_calm_line (Compares originator) = true
is_calm_line (AsksBoth request) = is_calm request

-- the line compares both sides, and their sights agree
abbrev pub SaysAgree : TwinLine → Option (List ℕ) → Type 0
SaysAgree OpensLeft said = ⊥
SaysAgree (PreparesLeft line) said = ⊥
SaysAgree OpensRight said = ⊥
SaysAgree (PreparesRight line) said = ⊥
SaysAgree (Compares originator) said = said ≡ Some agree_line
SaysAgree (AsksBoth request) said = ⊥

-- ---- lines, one after another

-- Of the lines with these texts, which the sides took, what is written for each says that both give
-- the same, as long as there is memory for them, up to and with the first by which others are
-- judged anew.
abbrev pub AreAnsweredTheSame : (place : ℕ) (sides : Sides) (texts : List (List ℕ)) (after : Sides)
    (said : List (List ℕ)) → TakesTexts place sides texts after said → Type 0
AreAnsweredTheSame place sides [] after said takes = ⊤
AreAnsweredTheSame place sides (text ∷ texts) after said takes =
    HasMemory takes.3.line sides takes.0 takes.1 takes.3.takes
    → SaysTheSame takes.3.line sides takes.1
    × (is_calm_line takes.3.line ≡ true
    → AreAnsweredTheSame (place + 1) takes.0 texts after takes.2 takes.5)

-- That is so of the lines behind the one at which the sights agree.
abbrev pub AgreeAndAnswerTheSame : (place : ℕ) (sides : Sides) (texts : List (List ℕ))
    (after : Sides) (said : List (List ℕ)) → TakesTexts place sides texts after said → Type 0
AgreeAndAnswerTheSame place sides [] after said takes = ⊤
AgreeAndAnswerTheSame place sides (text ∷ texts) after said takes =
    (SaysAgree takes.3.line takes.1
    → AreAnsweredTheSame (place + 1) takes.0 texts after takes.2 takes.5)
    × AgreeAndAnswerTheSame (place + 1) takes.0 texts after takes.2 takes.5

-- Whatever lines prepare two entities that opened with one home: where `twin` says that the sights
-- agree, it says of each request behind that, but of polls, that both give the same, up to and with
-- the first by which others are judged anew.
abbrev pub AgreeingSidesAnswerTheSame : Type 0
AgreeingSidesAnswerTheSame =
    (home : HomeData) (texts : List (List ℕ)) (after : Sides) (said : List (List ℕ))
    → IsHome home → (takes : TakesTexts 1 (starting home) texts after said)
    → AgreeAndAnswerTheSame 1 (starting home) texts after said takes
