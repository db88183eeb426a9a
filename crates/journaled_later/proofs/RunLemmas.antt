-- What is written down of runs.
use Rattle.std.proofs.Common.{◌≡◌, ℕ, ◌+◌, ◌<◌, Bool, true, List, [], ◌∷◌, ◌++◌, length, take, drop, get_or, set, filter, refl, sym, ◌∙◌, ap, subst, arith, take-append-drop}
use Rattle.std.proofs.lemmas.Bool.{and_parts}
use Rattle.std.proofs.lemmas.List.{drop_more, length-take-le, set_at}
use Rattle.std.specs.List.{list_all}
use Rattle.std.specs.Prelude.{IfSome, Option, Some, None}
use Rattle.primitive_json.specs.declared.reply.ReplyParts.{ReplyParts}
use Rattle.primitive_json.specs.declared.request.RequestParts.{RequestParts}
use Rattle.cse_machine.proofs.SameLemmas.{same_entity}
use Rattle.journal_events.proofs.MachineLemmas.{one_of_machine}
use Rattle.journal_events.specs.Machine.{machine_event}
use Rattle.journal_events.specs.Steps.{KeptEntityStep}
use Rattle.journal_events.specs.declared.event.KeptEvent.{KeptEvent}
use Rattle.journal_events.specs.declared.event.KeptEvent.TheVariants as events
use Rattle.journal_events.specs.declared.event.KeptOutcome.{KeptOutcome}
use Rattle.journal_events.specs.declared.event.KeptOutcome.TheVariants as outcomes
use Rattle.cse_machine.specs.Step.{Step}
use Rattle.cse_machine.specs.declared.event.Event.{Event}
use Rattle.cse_machine.specs.declared.event.Event.TheVariants.{Ask}
use Rattle.entity_model.specs.Entity.{EntityData}
use Rattle.accepted_requests.specs.Entries.{LaterEntryData, LaterRequestsData, does_wait, still_standing, still_stands}
use Rattle.m2m_value.specs.Spelling.{capped}
use Rattle.accepted_requests.specs.Sizes.{results_size}
use Rattle.cse_machine.specs.declared.event.Outcome.{Outcome}
use Rattle.kept_object.specs.Records.{Records}
use Rattle.journaled_entity.specs.Keeping.{KeepsEntity}
use Rattle.later_replies.proofs.RunLemmas.{PassedSoFar, passed_next, passed_none}
use Rattle.later_replies.specs.Runs.{IsBounded, IsPassed, counted_then, reply_of_run, with_outcome}
use Rattle.later_opening.specs.Making.{later_of}
use Rattle.later_lines.specs.Words.{IsReadBack, word_lines}
use Rattle.later_lines.specs.declared.word.Word.TheVariants.{Ran}
use Rattle.later_opening.specs.Snapshots.{AppendsResult, AppendsResultOf}
use Rattle.journaled_later.proofs.RecordLemmas.{inner_recorded, ran_recorded, records_none, records_then}
use Rattle.journaled_later.specs.Keeping.{KeepsLater}
use Rattle.journaled_later.specs.Recorded.{RecordsLater, RecordsRun, with_one}

-- ---- one run

pub run_recorded : (e : LaterEntryData) (outcome : Outcome) (before after : EntityData) (lines mid now : List ℕ) → after.home ≡ before.home → does_wait e ≡ true
    → Records KeepsEntity before lines after mid → AppendsResult (with_outcome e outcome) mid now → RecordsRun e before lines (with_outcome e outcome) after now
run_recorded e outcome before after lines mid now home waits inside result = λ front back given.
    records_then KeepsLater (later_of before (with_one front e back given)) (later_of after (with_one front e back given)) (later_of after (with_one front (with_outcome e outcome) back given))
    lines mid now
    (inner_recorded before after (with_one front e back given) lines mid home inside)
    (ran_recorded after front e back given (reply_of_run e.request outcome) mid now waits result.1 result.0)

-- none
pub none_recorded : (e : LaterEntryData) (inner : EntityData) (lines : List ℕ) → RecordsRun e inner lines e inner lines
none_recorded e inner lines = λ front back given. records_none KeepsLater (later_of inner (with_one front e back given)) lines

-- ---- many

-- so many are passed, and what was written down of it keeps the CSE
pub record RecordedSoFar (reading : ℕ) (runs : LaterEntryData → Bool) (place kept : ℕ) (all : List LaterEntryData) (before : EntityData) (old : List ℕ)
    (now : List LaterEntryData) (after : EntityData) (new : List ℕ) : Type 0 where
  pub passed : PassedSoFar reading runs place kept all before now after
  pub records : (given : ℕ) → RecordsLater before (record { entries = all; given = given }) old after (record { entries = now; given = given }) new

pub recorded_none : (reading : ℕ) (runs : LaterEntryData → Bool) (kept : ℕ) (all : List LaterEntryData) (before : EntityData) (old : List ℕ) → kept ≡ capped (results_size all) → RecordedSoFar reading runs 0 kept all before old all before old
recorded_none reading runs kept all before old is = record {
  passed = passed_none reading runs kept all before is;
  records = λ given. records_none KeepsLater (later_of before (record { entries = all; given = given })) old;
}

split_at : (now : List LaterEntryData) (place : ℕ) (r : LaterEntryData) → place < length now → now ≡ take place now ++ get_or now place r ∷ drop (place + 1) now
split_at now place r lt = sym (take-append-drop place now) ∙ ap (λ (l : List LaterEntryData). take place now ++ l) (drop_more now place r lt)

set_there : (now : List LaterEntryData) (place : ℕ) (r q : LaterEntryData) → place < length now → set now place q ≡ take place now ++ q ∷ drop (place + 1) now
set_there now place r q lt =
    let size : length (take place now) ≡ place = length-take-le place now (omega (arith, lt)) in
    ap (λ (l : List LaterEntryData). set l place q) (split_at now place r lt)
    ∙ set_at (take place now) (get_or now place r) (drop (place + 1) now) q place size

pub recorded_next : (reading : ℕ) (runs : LaterEntryData → Bool) (place kept more : ℕ) (all now new : List LaterEntryData) (r q : LaterEntryData) (before mid after : EntityData) (old lines then : List ℕ)
    → place < length all → place < length now → RecordedSoFar reading runs place kept all before old now mid lines → r ≡ get_or now place r
    → IsPassed reading runs r mid q after → IsBounded (runs r) kept r q → more ≡ counted_then (runs r) kept q → RecordsRun r mid lines q after then → new ≡ set now place q
    → RecordedSoFar reading runs (place + 1) more all before old new after then
recorded_next reading runs place kept more all now new r q before mid after old lines then lt within so at passed bounded sum recorded changed =
    let front = take place now in
    let back = drop (place + 1) now in
    let is_now : now ≡ front ++ r ∷ back = split_at now place r within ∙ ap (λ (x : LaterEntryData). front ++ x ∷ back) (sym at) in
    let is_new : new ≡ front ++ q ∷ back = changed ∙ set_there now place r q within in
    record {
      passed = passed_next reading runs place kept more all now new r q before mid after lt so.passed at passed bounded sum changed;
      records = λ given.
          let E : List LaterEntryData → LaterRequestsData = λ (l : List LaterEntryData). record { entries = l; given = given } in
          records_then KeepsLater (later_of before (E all)) (later_of mid (E now)) (later_of after (E new)) old lines then (so.records given)
          (subst (λ (l : List LaterEntryData). RecordsLater mid (E l) lines after (E new) then) (sym is_now)
          (subst (λ (l : List LaterEntryData). RecordsLater mid (E (front ++ r ∷ back)) lines after (E l) then) (sym is_new) (recorded front back given)));
    }

-- ---- none is due

pub none_due : (moment : ℕ) (es : List LaterEntryData) → list_all (still_stands moment) es ≡ true → filter (still_stands moment) es ≡ es
none_due moment [] all = refl
none_due moment (e ∷ es) all =
    let parts = and_parts (still_stands moment e) (list_all (still_stands moment) es) all in
    rw parts.0 (ap (λ (l : List LaterEntryData). e ∷ l) (none_due moment es parts.1))

pub nothing_goes : (moment : ℕ) (q : LaterRequestsData) → list_all (still_stands moment) q.entries ≡ true → q ≡ still_standing moment q
nothing_goes moment q all = sym (ap (λ (l : List LaterEntryData). record q { entries = l }) (none_due moment q.entries all))

-- ---- what a call of the recorder inside gives

-- an event of the machine comes to an outcome of it
pub record OfStep (reading : ℕ) (event : Event) (before : EntityData) (outcome : KeptOutcome) (after : EntityData) : Type 0 where
  pub came : Outcome
  pub is : outcome ≡ outcomes.OfMachine came
  pub step : Step reading event before came after

pub of_step : (reading : ℕ) (event : Event) (before : EntityData) (outcome : KeptOutcome) (after : EntityData) → KeptEntityStep reading (events.OfMachine event) before outcome after
    → OfStep reading event before outcome after
of_step reading event before (outcomes.OfMachine came) after step = record { came = came; is = refl; step = step }
of_step reading event before (outcomes.Next given) after step = absurd step
of_step reading event before outcomes.Taken after step = absurd step

pub same_came : (a b : Outcome) → outcomes.OfMachine a ≡ outcomes.OfMachine b → a ≡ b
same_came a b is = cc

-- the home of the entity stays
pub run_home : (reading : ℕ) (request : RequestParts) (came : Outcome) (before after : EntityData) → Step reading (Ask request) before came after → after.home ≡ before.home
run_home reading request came before after step = (same_entity reading (Ask request) came before after step).home

pub on_each : {A : Type 0} (P Q : A → Type 0) → ((a : A) → P a → Q a) → (o : Option A) → IfSome o P → IfSome o Q
on_each P Q on None holds = tt
on_each P Q on (Some a) holds = on a holds

-- ---- a whole event

pub kept_home : (reading : ℕ) (event : KeptEvent) (outcome : KeptOutcome) (before after : EntityData) → KeptEntityStep reading event before outcome after → after.home ≡ before.home
kept_home reading event outcome before after step =
    let one = one_of_machine reading event outcome before after step in
    (same_entity reading (machine_event reading before event outcome) one.0 before after one.1).home

-- runs, what is due, and the event
pub event_recorded : (before between after : EntityData) (q ran standing left : LaterRequestsData) (lines mid then now : List ℕ)
    → RecordsLater before q lines between ran mid → RecordsLater between ran mid between standing then → RecordsLater between standing then after left now
    → RecordsLater before q lines after left now
event_recorded before between after q ran standing left lines mid then now first due last =
    records_then KeepsLater (later_of before q) (later_of between standing) (later_of after left) lines then now
    (records_then KeepsLater (later_of before q) (later_of between ran) (later_of between standing) lines mid then first due) last

pub on_both : {A : Type 0} (P Q R : A → Type 0) → ((a : A) → P a → Q a → R a) → (o : Option A) → IfSome o P → IfSome o Q → IfSome o R
on_both P Q R on None first then = tt
on_both P Q R on (Some a) first then = on a first then

-- the result of an accepted request, which was put
pub result_put : (e : LaterEntryData) (number : ℕ) (reply : ReplyParts) (old new : List ℕ) → number ≡ e.number → Some reply ≡ e.reply → new ≡ old ++ word_lines (Ran number reply)
    → IsReadBack (Ran number reply) → AppendsResult e old new
result_put e number reply old new same some put back =
    subst (λ (o : Option ReplyParts). AppendsResultOf e.number o old new) some
    (subst (λ (n : ℕ). (new ≡ old ++ word_lines (Ran n reply)) × IsReadBack (Ran n reply)) same (put, back))
