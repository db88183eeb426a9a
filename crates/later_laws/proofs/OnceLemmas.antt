-- What waits, and comes to run, is run exactly once.
use Rattle.std.specs.Prelude.{map, max, min, nat_lt, Contains}
use Rattle.std.specs.List.{AllByRecursion}
use Rattle.std.proofs.Common.{◌≡◌, ◌⊎◌, ⊎_elim, ℕ, ◌+◌, ◌<◌, ◌≤◌, ◌==◌, ◌||◌, true, false, List, [], ◌∷◌, ◌++◌, inl, inr, refl, sym, ap, subst, ◌∙◌, arith}
use Rattle.std.proofs.lemmas.Bool.{cases_Bool, eq-eqb, eqb-true, lt-ltb, ltb-false, or_parts}
use Rattle.std.proofs.lemmas.List.{map-append}
use Rattle.std.proofs.lemmas.List.Elements.{Contains-append_left, Contains-append_right}
use Rattle.turn_desk.specs.declared.entry.Entry.{Entry}
use Rattle.entity_model.specs.Entity.{EntityData, last_reading}
use Rattle.cse_machine.specs.History.{History, HistoryLeaves}
use Rattle.cse_machine.specs.Step.{Step}
use Rattle.cse_machine.specs.declared.event.Event.{Event}
use Rattle.cse_machine.specs.declared.event.Outcome.{Outcome}
use Rattle.cse_machine.proofs.SameLemmas.{same_entity}
use Rattle.later_replies.specs.Answered.{IsDeletedByOwn}
use Rattle.later_replies.specs.Sound.{IsSoundLater, Rises, WaitsSince, last_from, numbers_of}
use Rattle.later_replies.specs.Entries.{LaterData, LaterEntryData, does_wait, due_of, still_standing, still_stands}
use Rattle.later_replies.specs.Runs.{is_to_run, runs_all}
use Rattle.later_laws.specs.Laws.{ComesToRun, all_run_numbers, run_numbers, times}
use Rattle.later_laws.specs.Turns.{HasTurns, IsTurn, Ran, Turn, all_ran, inner_history, turn_history}
use Rattle.later_laws.proofs.GoingLemmas.{contains_filtered, contains_mapped, contains_none, contains_one_of, not_run_stays, stands_or_deleted}
use Rattle.later_laws.proofs.OrderLemmas.{rises_append}
use Rattle.later_laws.proofs.SoundLemmas.{InOrder, run_numbers_by, turn_keeps, turns_keep}
use Rattle.later_laws.proofs.StaysLemmas.{sound_in_order}
use Rattle.later_laws.proofs.TurnLemmas.{turn_leads, turns_lead}

-- the accepted request that was run
abbrev pub entry_run : Ran → LaterEntryData
entry_run r = r.entry

-- ---- elements

pub each_at : {A : Type 0} (P : A → Type 0) (xs : List A) (x : A) → AllByRecursion P xs → Contains xs x → P x
each_at P [] x all has = absurd (contains_none x has)
each_at P (y ∷ ys) x all has =
    ⊎_elim (λ same. subst P same all.0) (λ behind. each_at P ys x all.1 behind) (contains_one_of y ys x has)

-- ---- numbers that rise stand once

rises_least : (past n : ℕ) (ns : List ℕ) → Rises past ns → Contains ns n → past < n
rises_least past n [] rises has = absurd (contains_none n has)
rises_least past n (m ∷ ms) rises has =
    let lt : past < m = rises.0 in
    ⊎_elim (λ same. let e : m ≡ n = same in omega (arith, lt, e))
    (λ behind. let more : m < n = rises_least m n ms rises.1 behind in omega (arith, lt, more)) (contains_one_of m ms n has)

times_none : (past n : ℕ) (ns : List ℕ) → Rises past ns → n ≤ past → times n ns ≡ 0
times_none past n [] rises le = refl
times_none past n (m ∷ ms) rises le = elim (cases_Bool (m == n)) [
  | inl t ↦ (
      let same : m ≡ n = eqb-true m n t in
      let lt : past < m = rises.0 in
      absurd (omega (arith, same, lt, le)))
  | inr f ↦ rw f (times_none m n ms rises.1 (let lt : past < m = rises.0 in omega (arith, lt, le)))
]

pub times_once : (past n : ℕ) (ns : List ℕ) → Rises past ns → Contains ns n → times n ns ≡ 1
times_once past n [] rises has = absurd (contains_none n has)
times_once past n (m ∷ ms) rises has = ⊎_elim (λ same. here same) (λ behind. there (times_once m n ms rises.1 behind)) (contains_one_of m ms n has)
  where
    here : m ≡ n → times n (m ∷ ms) ≡ 1
    here same = rw (eq-eqb m n same) (ap (λ (k : ℕ). k + 1) (times_none m n ms rises.1 (omega (arith, same))))

    there : times n ms ≡ 1 → times n (m ∷ ms) ≡ 1
    there once = elim (cases_Bool (m == n)) [
      | inl t ↦ here (eqb-true m n t)
      | inr f ↦ rw f once
    ]

-- ---- the moment

bounded_max : (l c : ℕ) → l ≤ last_reading → max l (min c last_reading) ≤ last_reading
bounded_max l c le = omega (arith, le)

step_bounded : (reading : ℕ) (event : Event) (outcome : Outcome) (before after : EntityData) → Step reading event before outcome after → before.last ≤ last_reading → after.last ≤ last_reading
step_bounded reading event outcome before after step le = elim ((same_entity reading event outcome before after step).last) [
  | inl moved ↦ subst (λ (l : ℕ). l ≤ last_reading) (sym moved) (bounded_max before.last reading le)
  | inr unswept ↦ subst (λ (e : EntityData). e.last ≤ last_reading) (sym unswept.same) le
]

pub history_bounded : (history : History) (before after : EntityData) → HistoryLeaves before history after → before.last ≤ last_reading → after.last ≤ last_reading
history_bounded [] before after leads le = subst (λ (e : EntityData). e.last ≤ last_reading) (sym leads) le
history_bounded (e ∷ history) before after leads le =
    history_bounded history leads.0 after leads.2 (step_bounded e.reading e.event e.outcome before leads.0 leads.1 le)

-- ---- an event that doesn't run what waits

-- its moment isn't later than the acceptance
not_later : (moment : ℕ) (event : Event) (x : LaterEntryData) → does_wait x ≡ true → is_to_run moment event x ≡ false → moment ≤ x.accepted
not_later moment event x waits never =
    let either : (runs_all event || nat_lt x.accepted moment) ≡ false = rw waits at never in
    ltb-false x.accepted moment (or_parts _ _ either).1

-- nothing is due at the moment of its acceptance
early_stands : (moment : ℕ) (x : LaterEntryData) → moment ≤ x.accepted → x.accepted ≤ last_reading → still_stands moment x ≡ true
early_stands moment x late bounded = lt-ltb moment (due_of x) (omega (arith, late, bounded))

-- it stays, unless its originator deletes it
stays_or_deleted : (past : ℕ) (before after : LaterData) (e : Entry Event Outcome) (t : Turn) (x : LaterEntryData) → InOrder past before.inner.last before.requests → before.inner.last ≤ last_reading → (is : IsTurn before e t after) → Contains before.requests.entries x → does_wait x ≡ true → is_to_run is.moment e.event x ≡ false → Contains after.requests.entries x ⊎ IsDeletedByOwn before.inner.home (still_standing is.moment is.left) e.event x.number
stays_or_deleted past before after e t x order bounded is has waits never =
    let since : x.accepted ≡ before.inner.last = each_at (WaitsSince before.inner.last) before.requests.entries x order.waiting has waits in
    let accepted : x.accepted ≤ last_reading = subst (λ (l : ℕ). l ≤ last_reading) (sym since) bounded in
    let left = not_run_stays (is_to_run is.moment e.event) before.requests.entries t.ran is.left.entries x is.are_left has never in
    stands_or_deleted before after e t x is left (early_stands is.moment x (not_later is.moment e.event x waits never) accepted)

-- ---- an event that runs it

pub runs_it : (before after : LaterData) (e : Entry Event Outcome) (t : Turn) (x : LaterEntryData) → (is : IsTurn before e t after) → Contains before.requests.entries x → is_to_run is.moment e.event x ≡ true → Contains (map entry_run t.ran) x
runs_it before after e t x is has runs =
    subst (λ (l : List LaterEntryData). Contains l x) (sym is.ran) (contains_filtered (is_to_run is.moment e.event) before.requests.entries x runs has)

-- ---- histories

-- those of two lists of runs
run_of_both : (first second : List Ran) (x : LaterEntryData) → Contains (map entry_run first) x ⊎ Contains (map entry_run second) x → Contains (map entry_run (first ++ second)) x
run_of_both first second x either =
    subst (λ (l : List LaterEntryData). Contains l x) (sym (map-append entry_run first second))
    (⊎_elim (λ it. Contains-append_left (map entry_run first) (map entry_run second) x it) (λ it. Contains-append_right (map entry_run first) (map entry_run second) x it) either)

pub comes_to_run : (events : History) (turns : List Turn) (past : ℕ) (before after : LaterData) (x : LaterEntryData) → InOrder past before.inner.last before.requests → before.inner.last ≤ last_reading → (has : HasTurns before events turns after) → Contains before.requests.entries x → does_wait x ≡ true → ComesToRun before events turns after has x → Contains (map entry_run (all_ran turns)) x
comes_to_run [] turns past before after x order bounded has there waits comes = absurd comes
comes_to_run (e ∷ events) turns past before after x order bounded has there waits comes =
    subst (λ (ts : List Turn). Contains (map entry_run (all_ran ts)) x) (sym has.3)
    (run_of_both has.0.ran (all_ran has.1) x
    (by
    (λ later kept. comes_to_run events has.1 (last_from past (run_numbers has.0)) has.2 after x (turn_keeps past before has.2 e has.0 order has.4).order
    (history_bounded (turn_history has.0) before.inner has.2.inner (turn_leads before has.2 e has.0 has.4) bounded) has.5 kept waits later)
    comes))
  where
    runs : is_to_run has.4.moment e.event x ≡ true → Contains (map entry_run has.0.ran) x
    runs it = runs_it before has.2 e has.0 x has.4 there it

    by : (ComesToRun has.2 events has.1 after has.5 x → Contains has.2.requests.entries x → Contains (map entry_run (all_ran has.1)) x) → ComesToRun before (e ∷ events) turns after has x → Contains (map entry_run has.0.ran) x ⊎ Contains (map entry_run (all_ran has.1)) x
    by behind (inl it) = inl (runs it)
    by behind (inr later) = elim (cases_Bool (is_to_run has.4.moment e.event x)) [
      | inl it ↦ inl (runs it)
      | inr never ↦ ⊎_elim (λ kept. inr (behind later.1 kept)) (λ deleted. absurd (later.0 deleted)) (stays_or_deleted past before has.2 e has.0 x order bounded has.4 there waits never)
    ]

-- the numbers of what was run
pub numbers_run : (turns : List Turn) → all_run_numbers turns ≡ numbers_of (map entry_run (all_ran turns))
numbers_run [] = refl
numbers_run (t ∷ turns) =
    ap (λ (ns : List ℕ). ns ++ all_run_numbers turns) (run_numbers_by t.ran)
    ∙ ap (λ (ns : List ℕ). numbers_of (map entry_run t.ran) ++ ns) (numbers_run turns)
    ∙ sym (map-append (λ (y : LaterEntryData). y.number) (map entry_run t.ran) (map entry_run (all_ran turns)))
    ∙ ap numbers_of (sym (map-append entry_run t.ran (all_ran turns)))

-- it is run so, and so often
pub record IsRunOnce (first second : List Turn) (x : LaterEntryData) : Type 0 where
  pub runs : Contains (map entry_run (all_ran second)) x
  pub once : times x.number (all_run_numbers first ++ all_run_numbers second) ≡ 1

pub runs_once : (start before after : LaterData) (earlier later : History) (first second : List Turn) (x : LaterEntryData) → IsSoundLater start → HasTurns start earlier first before → (has : HasTurns before later second after) → Contains before.requests.entries x → does_wait x ≡ true → ComesToRun before later second after has x → IsRunOnce first second x
runs_once start before after earlier later first second x sound began has there waits comes =
    let front = turns_keep earlier first 0 start before (sound_in_order start sound) began in
    let past : ℕ = last_from 0 (all_run_numbers first) in
    let back = turns_keep later second past before after front.order has in
    let bounded = history_bounded (inner_history first) start.inner before.inner (turns_lead earlier first start before began) sound.inner.last in
    let runs : Contains (map entry_run (all_ran second)) x = comes_to_run later second past before after x front.order bounded has there waits comes in
    let number : Contains (all_run_numbers second) x.number =
    subst (λ (ns : List ℕ). Contains ns x.number) (sym (numbers_run second)) (contains_mapped (λ (y : LaterEntryData). y.number) (map entry_run (all_ran second)) x runs) in
    record {
      runs = runs;
      once = times_once 0 x.number (all_run_numbers first ++ all_run_numbers second) (rises_append 0 (all_run_numbers first) (all_run_numbers second) front.rises back.rises)
          (Contains-append_right (all_run_numbers first) (all_run_numbers second) x.number number);
    }
