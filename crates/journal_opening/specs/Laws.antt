-- Laws of journals.
use Rattle.std.specs.Prelude.{◌≡◌, ℕ, ◌<◌, List, [], ◌∷◌, ◌++◌, length, true}
use Rattle.resource_model.specs.Home.{HomeData, IsHome}
use Rattle.entity_model.specs.Entity.{EntityData}
use Rattle.entity_model.specs.Opening.{opening}
use Rattle.entity_snapshot.specs.Snapshots.{SpellsEntity}
use Rattle.cse_machine.specs.History.{History, HistoryLeaves}
use Rattle.journal_file.specs.Gates.{KeepsText, is_batch}
use Rattle.journal_lines.specs.Header.{header_of}
use Rattle.journal_lines.specs.Lines.{IsReadBack, deed_at, lines_of, moment_bound}
use Rattle.journal_lines.specs.declared.deed.Dated.{Dated}
use Rattle.journal_lines.specs.declared.deed.Deed.{Deed}
use Rattle.journal_opening.specs.Journals.{AreDone, IsJournalOf, Makes, deeds_of, made_by, made_of}
use Rattle.journal_opening.specs.Opening.{IsOfMachine, IsRefused, OpensAs}
use Rattle.journal_opening.specs.declared.fault.OpeningFault.{OpeningFault}

-- A header alone is a journal: of no deeds.
abbrev pub HeadersAreJournals : Type 0
HeadersAreJournals = (home : HomeData) (opened : ℕ) → IsHome home → opened < moment_bound
    → IsJournalOf home (opening home opened) [] (header_of home opened)

-- The snapshot of an entity is a journal of its home: of no deeds, so that it makes the entity.
abbrev pub SnapshotsAreJournals : Type 0
SnapshotsAreJournals = (e : EntityData) (text : List ℕ) → SpellsEntity e text
    → IsJournalOf e.home e [] text

-- What a journal of a home makes is an entity of that home.
abbrev pub JournalsStayAtTheirHome : Type 0
JournalsStayAtTheirHome = (home : HomeData) (text : List ℕ) (e : EntityData) → Makes home text e
    → e.home ≡ home

-- The lines of one deed more make a journal of one deed more.
abbrev pub JournalsGrow : Type 0
JournalsGrow = (home : HomeData) (base : EntityData) (deeds : List Dated) (text : List ℕ)
    (moment : ℕ) (deed : Deed) → IsJournalOf home base deeds text → moment < moment_bound
    → IsReadBack deed
    → IsJournalOf home base (deeds ++ deed_at moment deed ∷ []) (text ++ lines_of moment deed)
    × (made_of (deeds ++ deed_at moment deed ∷ []) base
    ≡ made_by (deed_at moment deed) (made_of deeds base))

-- The lines of deeds are a batch, which can be put behind a journal's text.
abbrev pub LinesAreBatches : Type 0
LinesAreBatches = (moment : ℕ) (deed : Deed) (more : List ℕ)
    → is_batch (lines_of moment deed ++ more) ≡ true

-- The deeds of a history for which there was memory make the entity that it left.
abbrev pub DeedsMakeWhatTheirHistoryLeft : Type 0
DeedsMakeWhatTheirHistoryLeft = (base e : EntityData) (history : History)
    → HistoryLeaves base history e → AreDone history
    → made_of (deeds_of history) base ≡ e

-- A file that keeps a journal opens as what its deeds make, and as nothing else; it isn't refused.
pub record JournalsOpenAsTheirDeeds (home : HomeData) (base : EntityData) (deeds : List Dated)
    (text bytes : List ℕ) : Type 0 where
  pub opens : (len : ℕ) (e : EntityData) → OpensAs home bytes len e
      → (len ≡ length text) × (e ≡ made_of deeds base)
  pub refuses : (fault : OpeningFault) → IsRefused home bytes fault → IsOfMachine fault

abbrev pub WhatIsKeptIsOpened : Type 0
WhatIsKeptIsOpened = (home : HomeData) (base : EntityData) (deeds : List Dated)
    (text bytes : List ℕ) → IsJournalOf home base deeds text → KeepsText text bytes
    → JournalsOpenAsTheirDeeds home base deeds text bytes
