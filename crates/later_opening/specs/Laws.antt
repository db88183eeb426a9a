-- Laws of the journals of CSEs that answer later.
use Rattle.std.specs.Prelude.{◌≡◌, ℕ, true, List, [], ◌∷◌, ◌++◌, length, map}
use Rattle.resource_model.specs.Home.{HomeData}
use Rattle.entity_model.specs.Entity.{EntityData}
use Rattle.accepted_requests.specs.Entries.{no_entries}
use Rattle.later_replies.specs.Entries.{LaterData, opened}
use Rattle.journal_file.specs.Gates.{KeepsText}
use Rattle.journal_lines.specs.declared.deed.Dated.{Dated}
use Rattle.journal_opening.specs.Journals.{IsJournalOf, made_of}
use Rattle.journal_opening.specs.Opening.{IsOfMachine}
use Rattle.journal_opening.specs.declared.fault.OpeningFault.{OpeningFault}
use Rattle.later_opening.specs.Acts.{SpellsAct, deeds_in}
use Rattle.later_opening.specs.Journals.{IsLaterJournalOf, MakesLater}
use Rattle.later_opening.specs.Making.{act_fits, made_of_acts, requests_of}
use Rattle.later_opening.specs.Opening.{IsRefusedLater, OpensLaterAs}
use Rattle.later_opening.specs.Numbers.{AreNumbered, WereAcceptedBy}
use Rattle.later_opening.specs.declared.act.Act.{Act}
use Rattle.later_opening.specs.declared.act.Act.TheVariants.{Deed}

-- The lines of one act more, which fits, make a journal of one act more.
abbrev pub LaterJournalsGrow : Type 0
LaterJournalsGrow = (home : HomeData) (base : EntityData) (acts : List Act) (text : List ℕ)
    (act : Act) (more : List ℕ) → IsLaterJournalOf home base acts text → SpellsAct act more
    → act_fits act (made_of (deeds_in acts) base).last (requests_of acts no_entries) ≡ true
    → IsLaterJournalOf home base (acts ++ act ∷ []) (text ++ more)

-- A journal without a word is one of its deeds, and makes what these make.
abbrev pub as_acts : List Dated → List Act
as_acts deeds = map Deed deeds

abbrev pub JournalsAreLaterJournals : Type 0
JournalsAreLaterJournals = (home : HomeData) (base : EntityData) (deeds : List Dated)
    (text : List ℕ) → IsJournalOf home base deeds text
    → IsLaterJournalOf home base (as_acts deeds) text
    × (made_of_acts (as_acts deeds) base ≡ opened (made_of deeds base))

-- In what a journal makes numbers rise along the accepted requests, and none is above the last that
-- was given. None was accepted later than at the moment of the entity inside.
abbrev pub NumbersRise : Type 0
NumbersRise = (home : HomeData) (text : List ℕ) (d : LaterData) → MakesLater home text d
    → AreNumbered d.requests × WereAcceptedBy d.inner.last d.requests

-- A file that keeps such a journal opens as what its acts make, and as nothing else; it isn't
-- refused.
pub record JournalsOpenAsTheirActs (home : HomeData) (base : EntityData) (acts : List Act)
    (text bytes : List ℕ) : Type 0 where
  pub opens : (len : ℕ) (d : LaterData) → OpensLaterAs home bytes len d
      → (len ≡ length text) × (d ≡ made_of_acts acts base)
  pub refuses : (fault : OpeningFault) → IsRefusedLater home bytes fault → IsOfMachine fault

abbrev pub WhatIsKeptIsOpenedLater : Type 0
WhatIsKeptIsOpenedLater = (home : HomeData) (base : EntityData) (acts : List Act)
    (text bytes : List ℕ) → IsLaterJournalOf home base acts text → KeepsText text bytes
    → JournalsOpenAsTheirActs home base acts text bytes
