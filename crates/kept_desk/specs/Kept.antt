-- Which answers may be given of an object that keeps what it does.
use Rattle.std.specs.Prelude.{◌≡◌, ◌⊎◌, ℕ, true, List, [], ◌∷◌, ⊤}
use Rattle.turn_desk.specs.declared.entry.Entry.{Entry}
use Rattle.turn_desk.specs.Entries.{Marked, as_own, entry_of, own_entries}
use Rattle.turn_desk.specs.Growth.{Asks}
use Rattle.kept_desk.specs.declared.turn.Turn.{Turn}
use Rattle.kept_desk.specs.declared.turn.Turn.TheVariants.{Do, Settle}
use Rattle.kept_desk.specs.declared.turn.Report.{Report}
use Rattle.kept_desk.specs.declared.turn.Report.TheVariants.{Done, Settled, Failed}
use Rattle.kept_desk.specs.declared.turn.Answer.{Answer}
use Rattle.kept_desk.specs.declared.turn.Answer.TheVariants.{Kept, Lost}

-- a turn and the report on it
abbrev pub Reported : Type 0 → Type 0 → Type 0
Reported E O = Entry (Turn E) (Report O)

-- the report says that all that was done up to then is on the disk
abbrev pub SaysSettled : {O : Type 0} → Report O → Type 0
SaysSettled (Done outcome settled) = settled ≡ true
SaysSettled Settled = ⊤
SaysSettled Failed = ⊥

-- the report isn't one on what was asked
abbrev pub SaysNothing : {E O : Type 0} → Turn E → Report O → Type 0
SaysNothing (Do event) (Done outcome settled) = ⊥
SaysNothing (Do event) Settled = ⊤
SaysNothing (Do event) Failed = ⊤
SaysNothing Settle (Done outcome settled) = ⊤
SaysNothing Settle Settled = ⊥
SaysNothing Settle Failed = ⊤

-- one of these reports says that all is on the disk
abbrev pub HasSettled : {E O : Type 0} → List (Reported E O) → Type 0
HasSettled [] = ⊥
HasSettled (e ∷ entries) = SaysSettled e.outcome ⊎ HasSettled entries

-- one of these says nothing on what was asked
abbrev pub HasFailed : {E O : Type 0} → List (Reported E O) → Type 0
HasFailed [] = ⊥
HasFailed (e ∷ entries) = SaysNothing e.event e.outcome ⊎ HasFailed entries

-- the report has this outcome
abbrev pub HasOutcome : {O : Type 0} → Report O → O → Type 0
HasOutcome (Done outcome settled) told = outcome ≡ told
HasOutcome Settled told = ⊥
HasOutcome Failed told = ⊥

-- The answer may be given to an event whose turn is the first of these: its outcome, where this
-- report or a later one says that all is on the disk; or that it is lost, where one of them says
-- nothing on what was asked.
abbrev pub MayGive : {E O : Type 0} → List (Reported E O) → Answer O → Type 0
MayGive [] (Kept outcome) = ⊥
MayGive (e ∷ later) (Kept outcome) = HasOutcome e.outcome outcome × HasSettled (e ∷ later)
MayGive turns Lost = HasFailed turns

-- where the first of these is such a turn, and the answers to the others are of a kind: the answers
abbrev pub AnswersFrom : {E O : Type 0} → Turn E → Reported E O → List (Reported E O)
    → (List (Marked E (Answer O)) → Type 0) → List (Marked E (Answer O)) → Type 0
AnswersFrom {E = E} {O = O} (Do event) e later Rest answers =
    (answer : Answer O) × (rest : List (Marked E (Answer O)))
    × (answers ≡ as_own (entry_of e.reading event answer) ∷ rest)
    × MayGive (e ∷ later) answer × Rest rest
AnswersFrom Settle e later Rest answers = Rest answers

-- These are the events among turns, in order, each with an answer that may be given.
abbrev pub AreAnswers : {E O : Type 0} → List (Reported E O) → List (Marked E (Answer O)) → Type 0
AreAnswers [] answers = answers ≡ []
AreAnswers (e ∷ later) answers = AnswersFrom e.event e later (AreAnswers later) answers

-- The seat grew by turns, and these are the answers to its own.
abbrev pub KeptGrown : {S E O : Type 0}
    → (S → List (Marked (Turn E) (Report O)) → S → Type 0)
    → S → List (Marked E (Answer O)) → S → Type 0
KeptGrown {E = E} {O = O} grown before answers after =
    (all : List (Marked (Turn E) (Report O))) × grown before all after
    × AreAnswers (own_entries all) answers

-- what is answered where this is reported on a turn to settle
abbrev pub answer_on : {O : Type 0} → O → Report O → Answer O
answer_on outcome (Done other settled) = Lost
answer_on outcome Settled = Kept outcome
answer_on outcome Failed = Lost

-- The seat asked to settle, and this is the answer behind that.
abbrev pub Settles : {S E O : Type 0}
    → (S → List (Marked (Turn E) (Report O)) → S → Type 0)
    → S → ℕ → O → Answer O → S → Type 0
Settles {O = O} grown before reading outcome answer after =
    (report : Report O) × Asks grown before (entry_of reading Settle report) after
    × (answer ≡ answer_on outcome report)
