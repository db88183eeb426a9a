-- What the opening of a journal does to its file.
use Rattle.std.proofs.Common.{◌≡◌, ◌≢◌, ℕ, ◌≤◌, List, length, take, drop, true, Ok, Err, IfOk, refl, sym, ap, ◌∙◌, subst, arith, take-append-drop}
use Rattle.std.specs.declared.result.Result.{Result}
use Rattle.kept_file.proofs.MomentLemmas.{Run, begins, leaves_wider, runs_on, syncs_on}
use Rattle.kept_file.specs.Crashes.{GoesOn, LeavesNoMore, LeavesOnly, LeavesThis}
use Rattle.m2m_io.specs.Counts.{CountsFault, CountsFaults, Rose}
use Rattle.resource_model.specs.Home.{HomeData}
use Rattle.entity_model.specs.Entity.{EntityData}
use Rattle.journal_file.specs.Gates.{KeepsText, is_shut}
use Rattle.journal_lines.specs.declared.deed.Dated.{Dated}
use Rattle.journal_opening.proofs.ReadingLemmas.{journal_opens, text_opened}
use Rattle.journal_opening.specs.Journals.{IsJournalOf, made_of}
use Rattle.journal_opening.specs.Opening.{IsOfMachine, IsRefused, OpensAs, StaysAsItWas}
use Rattle.journal_opening.specs.declared.fault.OpeningFault.{OpeningFault}
use Rattle.journal_opening.specs.declared.fault.OpeningFault.TheVariants.{Failed}

-- the text of what is opened is kept
pub keeps_opened : (home : HomeData) (bytes : List ℕ) (len : ℕ) (e : EntityData) → OpensAs home bytes len e → KeepsText (take len bytes) bytes
keeps_opened home bytes len e opens = record { behind = drop len bytes; split = sym (take-append-drop len bytes); shut = opens.shut }

-- what is opened is refused by the machine alone
pub opened_refused : (home : HomeData) (bytes : List ℕ) (len : ℕ) (e : EntityData) (fault : OpeningFault) → OpensAs home bytes len e
    → IsRefused home bytes fault → IsOfMachine fault
opened_refused home bytes len e fault opens refused =
    let m = opens.makes in
    (journal_opens home m.base m.deeds (take len bytes) bytes m.journal (keeps_opened home bytes len e opens)).refuses fault refused

module _ {F : Type 0} (seen : F → List ℕ) (may_leave : F → List ℕ → Type 0) (moment : F → ℕ) (left_since : F → ℕ → List ℕ → Type 0)
    (only_now : (x : F) (c : List ℕ) → left_since x (moment x) c → may_leave x c) where
  -- a read
  pub stays_read : (old new : F) → LeavesThis (seen old) (may_leave old) → seen new ≡ seen old → LeavesNoMore (may_leave old) (may_leave new)
      → GoesOn (moment old) (moment new) (left_since old) (left_since new) (may_leave new)
      → StaysAsItWas seen may_leave moment left_since old new
  stays_read old new kept same less time =
      let P : List ℕ → Type 0 = λ c. c ≡ seen old in
      let start = begins seen may_leave moment left_since only_now P old kept refl in
      let run = syncs_on seen may_leave moment left_since only_now P old old new start less time in
      record {
        same = same;
        kept = λ c left. kept c (less c left) ∙ sym same;
        any_moment = run.leaves;
      }

  -- no call
  pub stays_here : (x : F) → LeavesThis (seen x) (may_leave x) → StaysAsItWas seen may_leave moment left_since x x
  stays_here x kept =
      let start = begins seen may_leave moment left_since only_now (λ c. c ≡ seen x) x kept refl in
      record { same = refl; kept = kept; any_moment = start.leaves }

-- one call after another
pub stays_then : {F : Type 0} (seen : F → List ℕ) (may_leave : F → List ℕ → Type 0) (moment : F → ℕ) (left_since : F → ℕ → List ℕ → Type 0)
    (old mid new : F) → StaysAsItWas seen may_leave moment left_since old mid → StaysAsItWas seen may_leave moment left_since mid new
    → StaysAsItWas seen may_leave moment left_since old new
stays_then seen may_leave moment left_since old mid new first second = record {
  same = second.same ∙ first.same;
  kept = second.kept;
  any_moment = runs_on moment left_since old mid new (λ c. c ≡ seen old) first.any_moment
      (leaves_wider moment left_since mid new (λ c. c ≡ seen mid) (λ c. c ≡ seen old) (λ c is. is ∙ first.same) second.any_moment);
}

-- what a file keeps that stays as it was
pub stays_keeps : {F : Type 0} (seen : F → List ℕ) (may_leave : F → List ℕ → Type 0) (moment : F → ℕ) (left_since : F → ℕ → List ℕ → Type 0)
    (old new : F) (text : List ℕ) → StaysAsItWas seen may_leave moment left_since old new → KeepsText text (seen old)
    → LeavesOnly moment left_since old new (KeepsText text)
stays_keeps seen may_leave moment left_since old new text stays keeps =
    leaves_wider moment left_since old new (λ c. c ≡ seen old) (KeepsText text) (λ c is. subst (KeepsText text) (sym is) keeps) stays.any_moment

-- a read, and then the file is made ready
pub closes_keeps : {F : Type 0} (seen : F → List ℕ) (may_leave : F → List ℕ → Type 0) (moment : F → ℕ) (left_since : F → ℕ → List ℕ → Type 0)
    (old mid new : F) (home : HomeData) (base : EntityData) (deeds : List Dated) (text : List ℕ) (len : ℕ) (e : EntityData)
    → StaysAsItWas seen may_leave moment left_since old mid → OpensAs home (seen old) len e → IsJournalOf home base deeds text → KeepsText text (seen old)
    → LeavesOnly moment left_since mid new (KeepsText (take len (seen mid)))
    → LeavesOnly moment left_since old new (KeepsText text)
closes_keeps seen may_leave moment left_since old mid new home base deeds text len e stays opens journal keeps closes =
    let is : take len (seen mid) ≡ text =
    ap (λ (l : List ℕ). take len l) stays.same ∙ text_opened home base deeds text (seen old) journal keeps len e opens in
    runs_on moment left_since old mid new (KeepsText text)
    (stays_keeps seen may_leave moment left_since old mid text stays keeps)
    (subst (λ t. LeavesOnly moment left_since mid new (KeepsText t)) is closes)
