-- A journal that was opened is at rest.
use Rattle.std.proofs.Common.{◌≡◌, ℕ, false, List, [], ◌∷◌, length, take, refl, sym, ◌∙◌, ap, subst, arith}
use Rattle.std.proofs.lemmas.List.{length-take-le, take_at}
use Rattle.resource_model.specs.Home.{HomeData}
use Rattle.entity_model.specs.Entity.{EntityData}
use Rattle.kept_file.specs.Crashes.{LeavesOnly, LeavesThis}
use Rattle.journal_file.specs.Gates.{IsSettled, KeepsText, at_rest, text_of}
use Rattle.journal_file.specs.declared.journal.Journal.{Journal}
use Rattle.journal_opening.specs.Journals.{Makes}
use Rattle.journal_opening.specs.Opening.{OpensAs, StaysAsItWas}
use Rattle.journal_opening.proofs.HomeLemmas.{made_at_home}
use Rattle.kept_object.specs.State.{KeptData}
use Rattle.journaled_entity.specs.Keeping.{KeepsEntity}
use Rattle.journaled_entity.specs.Opened.{OpensAt}

-- ---- the file

module _ {F : Type 0} (seen : F → List ℕ) (may_leave : F → List ℕ → Type 0) (home : HomeData) (bytes : List ℕ) (e : EntityData)
    (journal : Journal F) (opens : OpensAs home bytes journal.len e) (rest : seen journal.file ≡ at_rest (take journal.len bytes)) where
  text_is : text_of seen journal ≡ take journal.len bytes
  text_is = ap (λ l. take journal.len l) rest ∙ take_at (take journal.len bytes) (10 ∷ []) journal.len (length-take-le journal.len bytes opens.within)

  -- its file is at rest
  pub opened_rests : LeavesThis (seen journal.file) (may_leave journal.file) → IsSettled seen may_leave journal
  opened_rests kept = record {
    rest = rest ∙ ap at_rest (sym text_is);
    len = ap length text_is ∙ length-take-le journal.len bytes opens.within;
    kept = kept;
  }

  -- its text keeps the entity
  pub opened_keeps : KeepsEntity e (text_of seen journal)
  opened_keeps = subst (KeepsEntity e) (sym text_is) (record {
    made = e;
    makes = subst (λ h. Makes h (take journal.len bytes) e) (sym (made_at_home home (take journal.len bytes) e opens.makes)) opens.makes;
    same = record { same = refl; later = omega arith };
  })

-- ---- the entity as it is opened

module _ {F : Type 0} (seen : F → List ℕ) (may_leave : F → List ℕ → Type 0) (home : HomeData) (bytes : List ℕ) (left : F) (len : ℕ) (e : EntityData)
    (journal : Journal F) (file_is : journal.file ≡ left) (len_is : journal.len ≡ len) (opens : OpensAs home bytes len e)
    (rest : seen left ≡ at_rest (take len bytes)) where
  opens_as : OpensAs home bytes journal.len e
  opens_as = subst (λ n. OpensAs home bytes n e) (sym len_is) opens

  rests : seen journal.file ≡ at_rest (take journal.len bytes)
  rests = ap seen file_is ∙ rest ∙ ap (λ n. at_rest (take n bytes)) (sym len_is)

  pub settles : LeavesThis (seen left) (may_leave left) → IsSettled seen may_leave journal
  settles kept =
      let P : F → Type 0 = λ f. LeavesThis (seen f) (may_leave f) in
      opened_rests seen may_leave home bytes e journal opens_as rests (subst P (sym file_is) kept)

  pub keeps_text : KeepsEntity e (text_of seen journal)
  keeps_text = opened_keeps seen may_leave home bytes e journal opens_as rests

pub opens_at : {F : Type 0} (tells : Type 0) (seen : F → List ℕ) (may_leave : F → List ℕ → Type 0) (home : HomeData) (file left : F) (len : ℕ) (e : EntityData)
    (journal : Journal F) (opened : KeptData EntityData F) → journal.file ≡ left → journal.len ≡ len → journal.is_failed ≡ false
    → opened.object ≡ e → opened.journal ≡ journal → opened.pending ≡ []
    → (tells → OpensAs home (seen file) len e) → (tells → seen left ≡ at_rest (take len (seen file)))
    → (tells → LeavesThis (seen left) (may_leave left)) → OpensAt tells seen may_leave home file opened
opens_at {F = F} tells seen may_leave home file left len e journal opened file_is len_is fresh object is none opens rest kept = record {
  makes = λ told.
      subst (λ (x : EntityData). OpensAs home (seen file) opened.journal.len x) (sym object)
      (subst (λ (n : ℕ). OpensAs home (seen file) n e) (sym (ap (λ (j : Journal F). j.len) is ∙ len_is)) (opens told));
  whole = λ told. record {
    works = ap (λ (j : Journal F). j.is_failed) is ∙ fresh;
    nothing = none;
    settled = subst (IsSettled seen may_leave) (sym is) (settles seen may_leave home (seen file) left len e journal file_is len_is (opens told) (rest told) (kept told));
    text =
        subst (λ (x : EntityData). KeepsEntity x (text_of seen opened.journal)) (sym object)
        (subst (λ (j : Journal F). KeepsEntity e (text_of seen j)) (sym is) (keeps_text seen may_leave home (seen file) left len e journal file_is len_is (opens told) (rest told)));
  };
}

-- the file of the entity as it is opened
pub leaves_opened : {F : Type 0} (moment : F → ℕ) (left_since : F → ℕ → List ℕ → Type 0) (text : List ℕ) (file left : F) (journal : Journal F)
    (opened : KeptData EntityData F) → journal.file ≡ left → opened.journal ≡ journal
    → LeavesOnly moment left_since file left (KeepsText text) → LeavesOnly moment left_since file opened.journal.file (KeepsText text)
leaves_opened {F = F} moment left_since text file left journal opened file_is is leaves =
    let P : F → Type 0 = λ (f : F). LeavesOnly moment left_since file f (KeepsText text) in
    subst P (sym (ap (λ (j : Journal F). j.file) is ∙ file_is)) leaves

-- and as a file that is left as it was
pub stays_opened : {F : Type 0} (seen : F → List ℕ) (may_leave : F → List ℕ → Type 0) (moment : F → ℕ) (left_since : F → ℕ → List ℕ → Type 0) (file left : F)
    (journal : Journal F) (opened : KeptData EntityData F) → journal.file ≡ left → opened.journal ≡ journal
    → StaysAsItWas seen may_leave moment left_since file left → StaysAsItWas seen may_leave moment left_since file opened.journal.file
stays_opened {F = F} seen may_leave moment left_since file left journal opened file_is is stays =
    let P : F → Type 0 = λ (f : F). StaysAsItWas seen may_leave moment left_since file f in
    subst P (sym (ap (λ (j : Journal F). j.file) is ∙ file_is)) stays
