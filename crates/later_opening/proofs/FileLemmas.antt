-- What the opening of such a journal does to its file.
use Rattle.std.proofs.Common.{◌≡◌, ℕ, List, take, drop, sym, ap, ◌∙◌, subst, take-append-drop}
use Rattle.kept_file.proofs.MomentLemmas.{runs_on}
use Rattle.kept_file.specs.Crashes.{LeavesOnly}
use Rattle.resource_model.specs.Home.{HomeData}
use Rattle.entity_model.specs.Entity.{EntityData}
use Rattle.later_replies.specs.Entries.{LaterData}
use Rattle.journal_file.specs.Gates.{KeepsText}
use Rattle.journal_opening.proofs.FileLemmas.{stays_keeps}
use Rattle.journal_opening.specs.Opening.{IsOfMachine, StaysAsItWas}
use Rattle.journal_opening.specs.declared.fault.OpeningFault.{OpeningFault}
use Rattle.later_opening.proofs.ReadingLemmas.{later_journal_opens, text_opened_later}
use Rattle.later_opening.specs.Journals.{IsLaterJournalOf}
use Rattle.later_opening.specs.Opening.{IsRefusedLater, OpensLaterAs}
use Rattle.later_opening.specs.declared.act.Act.{Act}

-- the text of what is opened is kept
pub keeps_opened : (home : HomeData) (bytes : List ℕ) (len : ℕ) (d : LaterData) → OpensLaterAs home bytes len d → KeepsText (take len bytes) bytes
keeps_opened home bytes len d opens = record { behind = drop len bytes; split = sym (take-append-drop len bytes); shut = opens.shut }

-- what is opened is refused by the machine alone
pub opened_refused : (home : HomeData) (bytes : List ℕ) (len : ℕ) (d : LaterData) (fault : OpeningFault) → OpensLaterAs home bytes len d
    → IsRefusedLater home bytes fault → IsOfMachine fault
opened_refused home bytes len d fault opens refused =
    let m = opens.makes in
    (later_journal_opens home m.base m.acts (take len bytes) bytes m.journal (keeps_opened home bytes len d opens)).refuses fault refused

-- a read, and then the file is made ready
pub closes_keeps : {F : Type 0} (seen : F → List ℕ) (may_leave : F → List ℕ → Type 0) (moment : F → ℕ) (left_since : F → ℕ → List ℕ → Type 0)
    (old mid new : F) (home : HomeData) (base : EntityData) (acts : List Act) (text : List ℕ) (len : ℕ) (d : LaterData)
    → StaysAsItWas seen may_leave moment left_since old mid → OpensLaterAs home (seen old) len d → IsLaterJournalOf home base acts text → KeepsText text (seen old)
    → LeavesOnly moment left_since mid new (KeepsText (take len (seen mid)))
    → LeavesOnly moment left_since old new (KeepsText text)
closes_keeps seen may_leave moment left_since old mid new home base acts text len d stays opens journal keeps closes =
    let is : take len (seen mid) ≡ text =
    ap (λ (l : List ℕ). take len l) stays.same ∙ text_opened_later home base acts text (seen old) journal keeps len d opens in
    runs_on moment left_since old mid new (KeepsText text)
    (stays_keeps seen may_leave moment left_since old mid text stays keeps)
    (subst (λ t. LeavesOnly moment left_since mid new (KeepsText t)) is closes)
