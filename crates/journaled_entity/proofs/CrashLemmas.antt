-- What a crash leaves opens as an entity that the first turns made.
use Rattle.std.proofs.Common.{◌≡◌, inr, ⊎_elim, ℕ, ◌<◌, ◌≤◌, List, [], ◌∷◌, ◌++◌, length, drop, sym, ◌∙◌, ap, subst}
use Rattle.std.proofs.lemmas.Bool.{cases_lt}
use Rattle.std.proofs.lemmas.List.{drop-append-le}
use Rattle.entity_model.specs.Entity.{EntityData}
use Rattle.journal_events.specs.Steps.{KeptEntityStep}
use Rattle.journal_events.specs.declared.event.KeptOutcome.{KeptOutcome}
use Rattle.journal_file.specs.Gates.{KeepsText}
use Rattle.journal_events.specs.Kept.{ChangesTheMomentAlone}
use Rattle.journal_opening.specs.Opening.{OpensAs}
use Rattle.journal_opening.proofs.ReadingLemmas.{journal_opens}
use Rattle.kept_desk.specs.Kept.{HasSettled, MayGive}
use Rattle.kept_desk.specs.declared.turn.Answer.TheVariants.{Kept}
use Rattle.kept_object.specs.Crashing.{FileKeepsAFront}
use Rattle.kept_object.specs.State.{KeptData}
use Rattle.kept_object.specs.Steps.{KeptStep}
use Rattle.kept_object.proofs.CrashLemmas.{loses_none}
use Rattle.journaled_entity.specs.Crashes.{ReopensAsAFront, ReopensWhatWasAnswered}
use Rattle.journaled_entity.specs.Keeping.{KeepsEntity}
use Rattle.journaled_entity.specs.Losses.{Turned}
use Rattle.journaled_entity.proofs.RunLemmas.{run_fares}

-- what is opened is what the text makes that keeps the entity
opens_kept : (kept : EntityData) (text bytes : List ℕ) → KeepsEntity kept text → KeepsText text bytes
    → (len : ℕ) (e : EntityData) → OpensAs kept.home bytes len e → ChangesTheMomentAlone e kept
opens_kept kept text bytes keeps file len e opens =
    let m = keeps.makes in
    let it = (journal_opens kept.home m.base m.deeds text bytes m.journal file).opens len e opens in
    let same : keeps.made ≡ e = m.made ∙ sym it.1 in
    let P : EntityData → Type 0 = λ (x : EntityData). ChangesTheMomentAlone x kept in
    subst P same keeps.same

-- a report behind others
settled_behind : (es fs : List Turned) → HasSettled fs → HasSettled (es ++ fs)
settled_behind [] fs some = some
settled_behind (e ∷ es) fs some = inr (settled_behind es fs some)

-- what may be answered is among the first turns, behind which no report says that all is on the disk
among_first : (n : ℕ) (done earlier later : List Turned) (turn : Turned) (outcome : KeptOutcome) → (HasSettled (drop n done) → ⊥)
    → done ≡ earlier ++ turn ∷ later → MayGive (turn ∷ later) (Kept outcome) → length earlier < n
among_first n done earlier later turn outcome holds is may = ⊎_elim (λ below. below)
    (λ within. absurd (holds
    (subst HasSettled (sym (ap (drop n) is ∙ drop-append-le n earlier (turn ∷ later) within)) (settled_behind (drop n earlier) (turn ∷ later) may.1))))
    (cases_lt (length earlier) n)

module _ {F : Type 0} (tells : Type 0) (seen : F → List ℕ) (may_leave : F → List ℕ → Type 0) (moment : F → ℕ) (left_since : F → ℕ → List ℕ → Type 0) where
  reopens : (opened : KeptData EntityData F) (all done : List Turned) (bytes : List ℕ)
      → FileKeepsAFront (KeptStep KeptEntityStep KeepsEntity tells seen may_leave moment left_since) KeepsEntity opened all done bytes
      → ReopensAsAFront tells seen may_leave moment left_since opened all done bytes
  reopens opened all done bytes (text, front, file) =
      let m = front.keeps_it.makes in
      record {
        front = front.front;
        back = front.back;
        split = front.split;
        made = front.made;
        run = front.run;
        works = front.works;
        holds = front.holds;
        answered = λ earlier later turn outcome. among_first (length front.front) done earlier later turn outcome front.holds;
        waits = λ item has still. run_fares tells seen may_leave moment left_since item front.front opened front.made front.run front.works has still;
        opens = opens_kept front.made.object text bytes front.keeps_it file;
        refuses = (journal_opens front.made.object.home m.base m.deeds text bytes m.journal file).refuses;
      }

  pub reopens_answered : (tells → (file : F) (c : List ℕ) → left_since file (moment file) c → may_leave file c)
      → (tells → (file : F) (t : ℕ) (c : List ℕ) → t ≤ moment file → may_leave file c → left_since file t c)
      → ReopensWhatWasAnswered tells seen may_leave moment left_since
  reopens_answered only_now counts_now = λ opened between after done later told is first second bytes left.
      reopens opened (done ++ later) done bytes
      (loses_none KeptEntityStep KeepsEntity tells seen may_leave moment left_since only_now counts_now opened between after done later told is first second bytes left)
