-- What is asked of a CSE that answers later and is kept, as events of one that answers later.
use Rattle.std.proofs.Common.{◌≡◌, ◌⊎◌, inl, inr, ℕ, ◌&&◌, ◌||◌, nat_lt, Bool, true, false, if◌then◌else◌, List, [], ◌∷◌, refl, sym, ◌∙◌, ap, subst, true≢false}
use Rattle.std.proofs.lemmas.Bool.{cases_Bool}
use Rattle.turn_desk.specs.Entries.{Runs, entry_of}
use Rattle.turn_desk.specs.declared.entry.Entry.{Entry}
use Rattle.entity_model.specs.Entity.{EntityData, swept}
use Rattle.cse_machine.specs.History.{History}
use Rattle.cse_machine.specs.Step.{Step}
use Rattle.cse_machine.specs.declared.event.Event.{Event}
use Rattle.cse_machine.specs.declared.event.Event.TheVariants.{Ask, Take, Tick}
use Rattle.cse_machine.specs.declared.event.Outcome.{Outcome}
use Rattle.later_replies.specs.Entries.{LaterData, LaterEntryData, LaterRequestsData, does_wait, still_standing}
use Rattle.accepted_requests.specs.Sizes.{results_size}
use Rattle.later_replies.specs.Runs.{AreBounded, ArePassed, runs_all}
use Rattle.later_replies.specs.Step.{IsTakenLater, LaterStep}
use Rattle.kept_desk.specs.declared.turn.Report.{Report}
use Rattle.kept_desk.specs.declared.turn.Report.TheVariants.{Done as Did, Settled, Failed}
use Rattle.kept_desk.specs.declared.turn.Turn.{Turn}
use Rattle.kept_desk.specs.declared.turn.Turn.TheVariants.{Do, Settle}
use Rattle.kept_object.specs.State.{KeptData}
use Rattle.kept_object.specs.Steps.{KeptStep, OnTurn}
use Rattle.journal_events.proofs.MachineLemmas.{one_of_machine}
use Rattle.journal_events.specs.Machine.{machine_event}
use Rattle.journal_events.specs.Steps.{is_next}
use Rattle.journal_events.specs.declared.event.KeptEvent.{KeptEvent}
use Rattle.journal_events.specs.declared.event.KeptEvent.TheVariants.{OfMachine, Next, Sent}
use Rattle.journal_events.specs.declared.event.KeptOutcome.{KeptOutcome}
use Rattle.journal_events.specs.declared.event.KeptOutcome.TheVariants as outcomes
use Rattle.journaled_later.specs.Keeping.{KeepsLater}
use Rattle.journaled_later.specs.Machine.{HasOneFor, IsAskedAs, IsHistoryOf, IsToldAs, LaterTurned}
use Rattle.journaled_later.specs.Steps.{IsTakenKept, KeptLaterStep, runs_whatever}

-- ---- which are run

either_runs : (b : Bool) → runs_all (if b then Take else Tick) ≡ true
either_runs true = refl
either_runs false = refl

-- the event of the machine runs the same
runs_alike : (reading : ℕ) (between : EntityData) (event : KeptEvent) (came : KeptOutcome) → runs_all (machine_event reading between event came) ≡ runs_whatever event
runs_alike reading between (OfMachine asked) came = refl
runs_alike reading between Next came = refl
runs_alike reading between (Sent number) (outcomes.OfMachine came) = refl
runs_alike reading between (Sent number) (outcomes.Next given) = refl
runs_alike reading between (Sent number) outcomes.Taken = either_runs (is_next number (swept reading between))

-- ---- what is taken

-- the accepted requests stay where nothing is asked
nothing_asked : (reading moment : ℕ) (event : Event) (before after : EntityData) (standing : LaterRequestsData) (came : Outcome) → (event ≡ Take) ⊎ (event ≡ Tick)
    → Step reading event before came after → IsTakenLater reading moment event before standing came after standing
nothing_asked reading moment Take before after standing came which step = record { told = came; step = step; answered = (refl, refl) }
nothing_asked reading moment Tick before after standing came which step = record { told = came; step = step; answered = (refl, refl) }
nothing_asked reading moment (Ask request) before after standing came (inl is) step = (let none : Ask request ≡ Take = is in cc)
nothing_asked reading moment (Ask request) before after standing came (inr is) step = (let none : Ask request ≡ Tick = is in cc)

either_event : (b : Bool) → ((if b then Take else Tick) ≡ Take) ⊎ ((if b then Take else Tick) ≡ Tick)
either_event true = inl refl
either_event false = inr refl

sender_event : (reading number : ℕ) (between : EntityData) (came : KeptOutcome) → (machine_event reading between (Sent number) came ≡ Take) ⊎ (machine_event reading between (Sent number) came ≡ Tick)
sender_event reading number between (outcomes.OfMachine came) = inr refl
sender_event reading number between (outcomes.Next given) = inr refl
sender_event reading number between outcomes.Taken = either_event (is_next number (swept reading between))

-- it is taken as an event of one that answers later
pub taken_later : (reading moment : ℕ) (event : KeptEvent) (outcome : KeptOutcome) (before after : EntityData) (standing left : LaterRequestsData) → IsTakenKept reading moment event before standing outcome after left
    → (came : Outcome) × IsTakenLater reading moment (machine_event reading before event outcome) before standing came after left × IsToldAs event outcome came
taken_later reading moment (OfMachine asked) (outcomes.OfMachine came) before after standing left taken = (came, taken, refl)
taken_later reading moment (OfMachine asked) (outcomes.Next given) before after standing left taken = absurd taken
taken_later reading moment (OfMachine asked) outcomes.Taken before after standing left taken = absurd taken
taken_later reading moment Next outcome before after standing left (step, same) =
    let one = one_of_machine reading Next outcome before after step in
    (one.0, subst (IsTakenLater reading moment Tick before standing one.0 after) (sym same) (nothing_asked reading moment Tick before after standing one.0 (inr refl) one.1), tt)
taken_later reading moment (Sent number) outcome before after standing left (step, same) =
    let one = one_of_machine reading (Sent number) outcome before after step in
    let event = machine_event reading before (Sent number) outcome in (
      one.0,
      subst (IsTakenLater reading moment event before standing one.0 after) (sym same)
          (nothing_asked reading moment event before after standing one.0 (sender_event reading number before outcome) one.1),
      tt,
    )

pub one_of_later : (reading : ℕ) (event : KeptEvent) (outcome : KeptOutcome) (before after : LaterData) → (step : KeptLaterStep reading event before outcome after)
    → (came : Outcome) × LaterStep reading (machine_event reading step.between event outcome) before came after × IsToldAs event outcome came
one_of_later reading event outcome before after step =
    let asked = machine_event reading step.between event outcome in
    let taken = taken_later reading step.moment event outcome step.between after.inner (still_standing step.moment step.ran) after.requests step.taken in
    let B : Bool → Type 0 = λ (b : Bool). AreBounded (λ (e : LaterEntryData). does_wait e && (b || nat_lt e.accepted step.moment)) (results_size before.requests.entries) before.requests.entries step.ran.entries in
    let P : Bool → Type 0 = λ (b : Bool). ArePassed reading (λ (e : LaterEntryData). does_wait e && (b || nat_lt e.accepted step.moment)) before.requests.entries before.inner step.ran.entries step.between in (
      taken.0,
      record {
        moment = step.moment;
        at = step.at;
        ran = step.ran;
        between = step.between;
        runs = subst P (sym (runs_alike reading step.between event outcome)) step.runs;
        bounded = subst B (sym (runs_alike reading step.between event outcome)) step.bounded;
        given = step.given;
        taken = taken.1;
      },
      taken.2,
    )

-- ---- turns

asked_as : (reading : ℕ) (between : EntityData) (event : KeptEvent) (outcome : KeptOutcome) (came : Outcome) → IsToldAs event outcome came → IsAskedAs event outcome (machine_event reading between event outcome) came
asked_as reading between (OfMachine asked) (outcomes.OfMachine told) came is = (refl, is)
asked_as reading between (OfMachine asked) (outcomes.Next given) came is = absurd is
asked_as reading between (OfMachine asked) outcomes.Taken came is = absurd is
asked_as reading between Next outcome came is = refl
asked_as reading between (Sent number) outcome came is = sender_event reading number between outcome

module _ {F : Type 0} (tells : Type 0) (seen : F → List ℕ) (may_leave : F → List ℕ → Type 0) (moment : F → ℕ) (left_since : F → ℕ → List ℕ → Type 0) where
  abbrev Turns : ℕ → Turn KeptEvent → KeptData LaterData F → Report KeptOutcome → KeptData LaterData F → Type 0
  Turns = KeptStep KeptLaterStep KeepsLater tells seen may_leave moment left_since

  abbrev Does : ℕ → Turn KeptEvent → KeptData LaterData F → Report KeptOutcome → KeptData LaterData F → Type 0
  Does = OnTurn KeptLaterStep KeepsLater tells seen may_leave moment left_since

  -- where the journal hasn't failed behind a turn, it hadn't before
  pub worked : (reading : ℕ) (turn : Turn KeptEvent) (report : Report KeptOutcome) (s t : KeptData LaterData F) → Turns reading turn s report t → t.journal.is_failed ≡ false → s.journal.is_failed ≡ false
  worked reading turn report s t turned works = elim (cases_Bool s.journal.is_failed) [
    | inl failed ↦ (
        let same : t ≡ s = (turned.stuck failed).1 in
        absurd (true≢false (sym failed ∙ sym (ap (λ (x : KeptData LaterData F). x.journal.is_failed) same) ∙ works)))
    | inr right ↦ right
  ]

  -- what a turn leaves is what an event leaves, or what was there
  pub record TurnLeaves (reading : ℕ) (turn : Turn KeptEvent) (report : Report KeptOutcome) (s t : KeptData LaterData F) (rest : History) : Type 0 where
    pub history : History
    pub one : HasOneFor reading turn report history rest
    pub leads : (end : LaterData) → Runs LaterStep t.object rest end → Runs LaterStep s.object history end

  pub turn_leaves : (reading : ℕ) (turn : Turn KeptEvent) (report : Report KeptOutcome) (s t : KeptData LaterData F) (rest : History) → Does reading turn s report t → t.journal.is_failed ≡ false
      → TurnLeaves reading turn report s t rest
  turn_leaves reading (Do event) (Did came settled) s t rest does works =
      let one = one_of_later reading event came s.object t.object does.steps in
      let e : Entry Event Outcome = entry_of reading (machine_event reading does.steps.between event came) one.0 in
      record { history = e ∷ rest; one = (e, refl, refl, asked_as reading does.steps.between event came one.0 one.2); leads = λ end runs. (t.object, one.1, runs) }
  turn_leaves reading (Do event) Settled s t rest does works = absurd does
  turn_leaves reading (Do event) Failed s t rest does works = absurd (true≢false (sym does.failed ∙ works))
  turn_leaves reading Settle report s t rest (inl nothing) works =
      record { history = rest; one = refl; leads = λ end runs. subst (λ (x : KeptData LaterData F). Runs LaterStep x.object rest end) nothing.same runs }
  turn_leaves reading Settle (Did came settled) s t rest (inr puts) works = absurd puts.came
  turn_leaves reading Settle Settled s t rest (inr puts) works =
      record { history = rest; one = refl; leads = λ end runs. subst (λ (d : LaterData). Runs LaterStep d rest end) puts.came.object runs }
  turn_leaves reading Settle Failed s t rest (inr puts) works = absurd (true≢false (sym puts.came ∙ works))

  pub run_worked : (turns : List LaterTurned) (s t : KeptData LaterData F) → Runs Turns s turns t → t.journal.is_failed ≡ false → s.journal.is_failed ≡ false
  run_worked [] s t run works = sym (ap (λ (x : KeptData LaterData F). x.journal.is_failed) run) ∙ works
  run_worked (turn ∷ turns) s t (between, turned, run) works =
      worked turn.reading turn.event turn.outcome s between turned (run_worked turns between t run works)

  pub turns_history : (before after : KeptData LaterData F) (turns : List LaterTurned) → Runs Turns before turns after → after.journal.is_failed ≡ false
      → (history : History) × IsHistoryOf turns history × Runs LaterStep before.object history after.object
  turns_history before after [] run works = ([], refl, ap (λ (x : KeptData LaterData F). x.object) run)
  turns_history before after (turn ∷ turns) (between, turned, run) works =
      let rest = turns_history between after turns run works in
      let right = run_worked turns between after run works in
      let left = turn_leaves turn.reading turn.event turn.outcome before between rest.0
      (turned.works (worked turn.reading turn.event turn.outcome before between turned right)) right in
      (left.history, (rest.0, left.one, rest.1), left.leads after.object rest.2)
