-- What happens inside is a legal history.
use Rattle.std.specs.Prelude.{filter, map}
use Rattle.std.proofs.Common.{◌≡◌, ℕ, Bool, List, [], ◌∷◌, ◌++◌, inl, inr, refl, sym, ap, subst, ◌∙◌}
use Rattle.turn_desk.specs.Entries.{Runs, entry_of}
use Rattle.turn_desk.specs.declared.entry.Entry.{Entry}
use Rattle.turn_desk.specs.Joins.{Runs-append}
use Rattle.resource_model.specs.Home.{HomeData}
use Rattle.entity_model.specs.Entity.{EntityData}
use Rattle.cse_machine.specs.History.{History, HistoryLeaves}
use Rattle.cse_machine.specs.Step.{Step}
use Rattle.cse_machine.specs.declared.event.Event.{Event}
use Rattle.cse_machine.specs.declared.event.Outcome.{Outcome}
use Rattle.cse_machine.proofs.SameLemmas.{same_entity}
use Rattle.later_replies.specs.Answered.{ComesTo}
use Rattle.later_replies.proofs.AnswerLemmas.{comes_to}
use Rattle.later_replies.specs.Entries.{LaterData, LaterEntryData, still_standing}
use Rattle.later_replies.specs.Runs.{ArePassed, IsPassed, is_to_run}
use Rattle.later_replies.specs.Step.{IsAnsweredBy, LaterStep, event_effect}
use Rattle.later_laws.specs.Turns.{AreLeft, HasTurns, IsTurn, Ran, Turn, inner_history, run_history, turn_history}

-- ---- the runs

-- what was run, and that it leads from the entity before to the one after
pub record HasRan (reading : ℕ) (runs : LaterEntryData → Bool) (entries : List LaterEntryData) (before : EntityData) (left : List LaterEntryData) (after : EntityData) : Type 0 where
  pub ran : List Ran
  pub are : map (λ (r : Ran). r.entry) ran ≡ filter runs entries
  pub kept : AreLeft runs entries ran left
  pub leads : HistoryLeaves before (run_history reading ran) after

one_more : (reading : ℕ) (runs : LaterEntryData → Bool) (e : LaterEntryData) (entries : List LaterEntryData) (before between after : EntityData) (first : LaterEntryData) (later left : List LaterEntryData) → left ≡ first ∷ later → IsPassed reading runs e before first between → HasRan reading runs entries between later after → HasRan reading runs (e ∷ entries) before left after
one_more reading runs e entries before between after first later left is (inl p) rest =
    let r : Ran = record { entry = e; outcome = p.1.outcome } in
    record {
      ran = r ∷ rest.ran;
      are = rw p.0 (ap (λ (l : List LaterEntryData). e ∷ l) rest.are);
      kept = (rest.ran, later, rest.kept, inl (p.0, r, refl, refl, is ∙ ap (λ (x : LaterEntryData). x ∷ later) p.1.kept));
      leads = (between, p.1.step, rest.leads);
    }
one_more reading runs e entries before between after first later left is (inr q) rest = record {
  ran = rest.ran;
  are = rw q.0 rest.are;
  kept = (rest.ran, later, rest.kept, inr (q.0, refl, is ∙ ap (λ (x : LaterEntryData). x ∷ later) q.1));
  leads = subst (λ (b : EntityData). HistoryLeaves b (run_history reading rest.ran) after) q.2 rest.leads;
}

pub has_ran : (reading : ℕ) (runs : LaterEntryData → Bool) (entries : List LaterEntryData) (before : EntityData) (left : List LaterEntryData) (after : EntityData) → ArePassed reading runs entries before left after → HasRan reading runs entries before left after
has_ran reading runs [] before left after passed = record { ran = []; are = refl; kept = (refl, passed.0); leads = passed.1 }
has_ran reading runs (e ∷ entries) before left after passed =
    one_more reading runs e entries before passed.1 after passed.0 passed.2 left passed.3 passed.4
    (has_ran reading runs entries passed.1 passed.2 after passed.5)

-- ---- the home

pub home_kept : (history : History) (before after : EntityData) → HistoryLeaves before history after → after.home ≡ before.home
home_kept [] before after run = ap (λ (e : EntityData). e.home) run
home_kept (e ∷ history) before after run =
    home_kept history run.0 after run.2 ∙ (same_entity e.reading e.event e.outcome before run.0 run.1).home

-- ---- a turn

pub record HasTurn (before : LaterData) (e : Entry Event Outcome) (after : LaterData) : Type 0 where
  pub turn : Turn
  pub is : IsTurn before e turn after

pub turn_of : (before after : LaterData) (e : Entry Event Outcome) → LaterStep e.reading e.event before e.outcome after → HasTurn before e after
turn_of before after e s =
    let has = has_ran e.reading (is_to_run s.moment e.event) before.requests.entries before.inner s.ran.entries s.between s.runs in
    let home : s.between.home ≡ before.inner.home = home_kept (run_history e.reading has.ran) before.inner s.between has.leads in
    let t : Turn = record { reading = e.reading; event = e.event; ran = has.ran; told = s.taken.told } in
    record {
      turn = t;
      is = record {
        reading = refl;
        event = refl;
        between = s.between;
        runs_lead = has.leads;
        step = s.taken.step;
        moment = s.moment;
        at = s.at;
        ran = has.are;
        left = s.ran;
        are_left = has.kept;
        given = s.given;
        answered = subst (λ (h : HomeData). IsAnsweredBy (event_effect h (still_standing s.moment s.ran) s.moment e.event s.taken.told) (still_standing s.moment s.ran) s.taken.told e.outcome after.requests) home s.taken.answered;
      };
    }

-- what is asked inside in a turn leads from the entity before to the one after
pub turn_leads : (before after : LaterData) (e : Entry Event Outcome) (t : Turn) → IsTurn before e t after → HistoryLeaves before.inner (turn_history t) after.inner
turn_leads before after e t is =
    let run : HistoryLeaves before.inner (run_history e.reading t.ran ++ entry_of e.reading e.event t.told ∷ []) after.inner =
    Runs-append Step (run_history e.reading t.ran) (entry_of e.reading e.event t.told ∷ []) before.inner is.between after.inner is.runs_lead (after.inner, is.step, refl) in
    let by_reading : HistoryLeaves before.inner (run_history t.reading t.ran ++ entry_of t.reading e.event t.told ∷ []) after.inner =
    subst (λ (r : ℕ). HistoryLeaves before.inner (run_history r t.ran ++ entry_of r e.event t.told ∷ []) after.inner) (sym is.reading) run in
    subst (λ (v : Event). HistoryLeaves before.inner (run_history t.reading t.ran ++ entry_of t.reading v t.told ∷ []) after.inner) (sym is.event) by_reading

-- ---- turns

pub record HaveTurns (before : LaterData) (history : History) (after : LaterData) : Type 0 where
  pub turns : List Turn
  pub have : HasTurns before history turns after
  pub leads : HistoryLeaves before.inner (inner_history turns) after.inner

pub turns_of : (history : History) (before after : LaterData) → Runs LaterStep before history after → HaveTurns before history after
turns_of [] before after run = record { turns = []; have = (refl, run); leads = ap (λ (l : LaterData). l.inner) run }
turns_of (e ∷ history) before after run =
    let first = turn_of before run.0 e run.1 in
    let rest = turns_of history run.0 after run.2 in
    record {
      turns = first.turn ∷ rest.turns;
      have = (first.turn, rest.turns, run.0, refl, first.is, rest.have);
      leads = Runs-append Step (turn_history first.turn) (inner_history rest.turns) before.inner run.0.inner after.inner (turn_leads before run.0 e first.turn first.is) rest.leads;
    }

-- turns of a history lead inside from before to after
pub turns_lead : (history : History) (turns : List Turn) (before after : LaterData) → HasTurns before history turns after → HistoryLeaves before.inner (inner_history turns) after.inner
turns_lead [] turns before after has =
    subst (λ (ts : List Turn). HistoryLeaves before.inner (inner_history ts) after.inner) (sym has.0) (ap (λ (l : LaterData). l.inner) has.1)
turns_lead (e ∷ history) turns before after has =
    subst (λ (ts : List Turn). HistoryLeaves before.inner (inner_history ts) after.inner) (sym has.3)
    (Runs-append Step (turn_history has.0) (inner_history has.1) before.inner has.2.inner after.inner (turn_leads before has.2 e has.0 has.4) (turns_lead history has.1 has.2 after has.5))

-- what an event comes to, in a turn
pub turn_comes : (before after : LaterData) (e : Entry Event Outcome) (t : Turn) (is : IsTurn before e t after) → ComesTo before.inner.home (still_standing is.moment is.left) is.moment e.event t.told e.outcome after.requests
turn_comes before after e t is = comes_to before.inner.home (still_standing is.moment is.left) is.moment e.event t.told e.outcome after.requests is.answered

-- the same of the step itself
pub step_comes : (before after : LaterData) (e : Entry Event Outcome) (s : LaterStep e.reading e.event before e.outcome after)
    → ComesTo before.inner.home (still_standing s.moment s.ran) s.moment e.event s.taken.told e.outcome after.requests
step_comes before after e s =
    let has = has_ran e.reading (is_to_run s.moment e.event) before.requests.entries before.inner s.ran.entries s.between s.runs in
    let home : s.between.home ≡ before.inner.home = home_kept (run_history e.reading has.ran) before.inner s.between has.leads in
    comes_to before.inner.home (still_standing s.moment s.ran) s.moment e.event s.taken.told e.outcome after.requests
    (subst (λ (h : HomeData). IsAnsweredBy (event_effect h (still_standing s.moment s.ran) s.moment e.event s.taken.told) (still_standing s.moment s.ran) s.taken.told e.outcome after.requests) home s.taken.answered)
