-- What a crash leaves opens as a CSE that the first turns made.
use Rattle.std.proofs.Common.{◌≡◌, inr, ⊎_elim, ℕ, ◌<◌, ◌≤◌, List, [], ◌∷◌, ◌++◌, length, drop, sym, ◌∙◌, ap, subst, arith, lt-ltb}
use Rattle.std.proofs.lemmas.Bool.{cases_lt, ltb-true}
use Rattle.std.proofs.lemmas.List.{drop-append-le}
use Rattle.std.specs.List.{AllByRecursion}
use Rattle.m2m_value.specs.Shapes.{largest_count}
use Rattle.entity_model.specs.Entity.{EntityData}
use Rattle.entity_model.specs.Sound.{IsSoundEntity}
use Rattle.journal_file.specs.Gates.{KeepsText}
use Rattle.kept_desk.specs.Kept.{HasSettled, MayGive}
use Rattle.kept_desk.specs.declared.turn.Answer.TheVariants.{Kept}
use Rattle.kept_object.proofs.CrashLemmas.{loses_none}
use Rattle.kept_object.specs.Crashing.{FileKeepsAFront}
use Rattle.kept_object.specs.State.{KeptData}
use Rattle.kept_object.specs.Steps.{KeptStep}
use Rattle.resource_model.specs.Home.{HomeData}
use Rattle.journal_events.specs.declared.event.KeptOutcome.{KeptOutcome}
use Rattle.later_replies.specs.Effects.{most_entries}
use Rattle.later_replies.specs.Entries.{LaterData, LaterEntryData, LaterRequestsData, due_of}
use Rattle.later_opening.proofs.NumberLemmas.{made_numbered}
use Rattle.later_opening.proofs.ReadingLemmas.{later_journal_opens}
use Rattle.later_opening.specs.Numbers.{WereAcceptedBy}
use Rattle.later_opening.specs.Opening.{OpensLaterAs}
use Rattle.journaled_later.specs.Crashes.{ReopensLaterAsAFront, ReopensWhatWasAccepted}
use Rattle.journaled_later.specs.Keeping.{IsAtEarlier, KeepsLater}
use Rattle.journaled_later.specs.Machine.{LaterTurned}
use Rattle.journaled_later.specs.Steps.{KeptLaterStep}
use Rattle.later_replies.specs.Sound.{IsKeptAsRun, IsSoundLater, Rises, StandsAt, WaitsSince, last_from, numbers_of}

-- what is opened is what the text makes that keeps the CSE
opens_kept : (kept : LaterData) (text bytes : List ℕ) → KeepsLater kept text → KeepsText text bytes
    → (len : ℕ) (d : LaterData) → OpensLaterAs kept.inner.home bytes len d → IsAtEarlier d kept
opens_kept kept text bytes keeps file len d opens =
    let m = keeps.makes in
    let it = (later_journal_opens kept.inner.home m.base m.acts text bytes m.journal file).opens len d opens in
    let same : keeps.made ≡ d = m.made ∙ sym it.1 in
    subst (λ (x : LaterData). IsAtEarlier x kept) same keeps.same

-- ---- what holds at every moment

-- what waited since the moment of one CSE was accepted at that of what is opened
waits_since : (last made : ℕ) (es : List LaterEntryData) → made ≤ last → AllByRecursion (λ (e : LaterEntryData). e.accepted ≤ made) es → AllByRecursion (WaitsSince last) es → AllByRecursion (WaitsSince made) es
waits_since last made [] le by since = tt
waits_since last made (e ∷ es) le by since = (
  λ waits. let at : e.accepted ≡ last = since.0 waits in let early : e.accepted ≤ made = by.0 in omega (arith, le, at, early),
  waits_since last made es le by.1 since.1,
)

stands_earlier : (last made : ℕ) (es : List LaterEntryData) → made ≤ last → AllByRecursion (StandsAt last) es → AllByRecursion (StandsAt made) es
stands_earlier last made [] le all = tt
stands_earlier last made (e ∷ es) le all =
    (let late : last < due_of e = ltb-true last (due_of e) all.0 in lt-ltb made (due_of e) (omega (arith, le, late)), stands_earlier last made es le all.1)

sound_earlier : (d made : LaterData) → IsAtEarlier made d → WereAcceptedBy made.inner.last made.requests → IsSoundEntity made.inner → IsSoundLater d → IsSoundLater made
sound_earlier d made same by inner sound =
    let le : made.inner.last ≤ d.inner.last = same.inner.later in
    let back : d.requests ≡ made.requests = sym same.requests in
    let home : d.inner.home ≡ made.inner.home = ap (λ (e : EntityData). e.home) same.inner.same in
    record {
      inner = inner;
      numbers = subst (λ (q : LaterRequestsData). Rises 0 (numbers_of q.entries)) back sound.numbers;
      given = subst (λ (q : LaterRequestsData). last_from 0 (numbers_of q.entries) ≤ q.given) back sound.given;
      most = subst (λ (q : LaterRequestsData). q.given ≤ largest_count) back sound.most;
      room = subst (λ (q : LaterRequestsData). length q.entries ≤ most_entries) back sound.room;
      kept = subst (λ (h : HomeData). AllByRecursion (IsKeptAsRun h) made.requests.entries) home
          (subst (λ (q : LaterRequestsData). AllByRecursion (IsKeptAsRun d.inner.home) q.entries) back sound.kept);
      waiting = waits_since d.inner.last made.inner.last made.requests.entries le by
          (subst (λ (q : LaterRequestsData). AllByRecursion (WaitsSince d.inner.last) q.entries) back sound.waiting);
      standing = stands_earlier d.inner.last made.inner.last made.requests.entries le
          (subst (λ (q : LaterRequestsData). AllByRecursion (StandsAt d.inner.last) q.entries) back sound.standing);
    }

-- ---- a crash

-- a report behind others
settled_behind : (es fs : List LaterTurned) → HasSettled fs → HasSettled (es ++ fs)
settled_behind [] fs some = some
settled_behind (e ∷ es) fs some = inr (settled_behind es fs some)

-- what may be answered is among the first turns, behind which no report says that all is on the disk
among_first : (n : ℕ) (done earlier later : List LaterTurned) (turn : LaterTurned) (outcome : KeptOutcome) → (HasSettled (drop n done) → ⊥)
    → done ≡ earlier ++ turn ∷ later → MayGive (turn ∷ later) (Kept outcome) → length earlier < n
among_first n done earlier later turn outcome holds is may = ⊎_elim (λ below. below)
    (λ within. absurd (holds
    (subst HasSettled (sym (ap (drop n) is ∙ drop-append-le n earlier (turn ∷ later) within)) (settled_behind (drop n earlier) (turn ∷ later) may.1))))
    (cases_lt (length earlier) n)

module _ {F : Type 0} (tells : Type 0) (seen : F → List ℕ) (may_leave : F → List ℕ → Type 0) (moment : F → ℕ) (left_since : F → ℕ → List ℕ → Type 0) where
  reopens : (opened : KeptData LaterData F) (all done : List LaterTurned) (bytes : List ℕ)
      → FileKeepsAFront (KeptStep KeptLaterStep KeepsLater tells seen may_leave moment left_since) KeepsLater opened all done bytes
      → ReopensLaterAsAFront tells seen may_leave moment left_since opened all done bytes
  reopens opened all done bytes (text, front, file) =
      let m = front.keeps_it.makes in
      let kept = front.made.object in
      let opens = opens_kept kept text bytes front.keeps_it file in
      record {
        front = front.front;
        back = front.back;
        split = front.split;
        made = front.made;
        run = front.run;
        works = front.works;
        holds = front.holds;
        answered = λ earlier later turn outcome. among_first (length front.front) done earlier later turn outcome front.holds;
        opens = opens;
        sound = λ len d it inner sound.
            sound_earlier kept d (opens len d it) (made_numbered kept.inner.home _ d it.makes).1 inner sound;
        refuses = (later_journal_opens kept.inner.home m.base m.acts text bytes m.journal file).refuses;
      }

  pub reopens_accepted : (tells → (file : F) (c : List ℕ) → left_since file (moment file) c → may_leave file c)
      → (tells → (file : F) (t : ℕ) (c : List ℕ) → t ≤ moment file → may_leave file c → left_since file t c)
      → ReopensWhatWasAccepted tells seen may_leave moment left_since
  reopens_accepted only_now counts_now = λ opened between after done later told is first second bytes left.
      reopens opened (done ++ later) done bytes
      (loses_none KeptLaterStep KeepsLater tells seen may_leave moment left_since only_now counts_now opened between after done later told is first second bytes left)
