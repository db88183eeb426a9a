-- The results that are kept are bounded.
use Rattle.std.specs.Prelude.{not, is_some}
use Rattle.std.specs.Option.{option_map_or}
use Rattle.std.proofs.Common.{◌≡◌, ◌==◌, ◌⊎◌, ⊎_elim, ℕ, ◌+◌, ◌<◌, ◌≤◌, max, Bool, true, false, List, [], ◌∷◌, ◌++◌, Option, Some, None, filter, inl, inr, refl, sym, ap, ◌∙◌, subst, arith, nat_lt, ltb-false, ltb-true, true≢false}
use Rattle.std.proofs.lemmas.Bool.{and_parts, cases_Bool}
use Rattle.std.proofs.lemmas.List.Sums.{sum_by-cons, sum_by_push}
use Rattle.turn_desk.specs.Entries.{Runs}
use Rattle.primitive_json.specs.declared.reply.ReplyParts.{ReplyParts}
use Rattle.turn_desk.specs.declared.entry.Entry.{Entry}
use Rattle.entity_model.specs.Entity.{EntityData}
use Rattle.cse_machine.specs.History.{History}
use Rattle.cse_machine.specs.declared.event.Event.{Event}
use Rattle.cse_machine.specs.declared.event.Outcome.{Outcome}
use Rattle.cse_machine.specs.declared.event.Outcome.TheVariants.{Starved}
use Rattle.group_fanout.specs.Rights.{claimed_originator}
use Rattle.accepted_requests.specs.Sizes.{content_size, most_kept, result_size, results_size}
use Rattle.later_replies.specs.Effects.{with_accepted}
use Rattle.later_replies.specs.Entries.{LaterData, LaterEntryData, LaterRequestsData, accepted_entry, does_wait, still_standing, still_stands}
use Rattle.later_replies.specs.Runs.{AreBounded, ArePassed, is_to_run, kept_then, with_outcome}
use Rattle.later_replies.specs.Step.{LaterStep}
use Rattle.later_laws.proofs.TurnLemmas.{step_comes}
use Rattle.later_laws.specs.Sizes.{KeepsWithin, largest_result}
use Rattle.later_replies.proofs.AnswerLemmas.{comes_holds}

-- ---- one

-- what waits has no result
no_reply_bare : (reply : Option ReplyParts) → not (is_some reply) ≡ true → option_map_or content_size reply 0 ≡ 0
no_reply_bare None waits = refl
no_reply_bare (Some told) waits = absurd (true≢false (sym waits))

waits_bare : (e : LaterEntryData) → does_wait e ≡ true → result_size e ≡ 0
waits_bare e waits = no_reply_bare e.reply waits

-- ---- some that go

filter_less : (p : LaterEntryData → Bool) (es : List LaterEntryData) → results_size (filter p es) ≤ results_size es
filter_less p [] = omega arith
filter_less p (e ∷ es) =
    let rest = filter_less p es in
    let all = sum_by-cons result_size e es in
    elim (cases_Bool (p e)) [
      | inl t ↦ rw t (let kept = sum_by-cons result_size e (filter p es) in omega (arith, rest, all, kept))
      | inr f ↦ rw f (omega (arith, rest, all))
    ]

-- at least as many bytes go as the largest result is shorter by
filter_spared : (p : LaterEntryData → Bool) (es : List LaterEntryData) → results_size (filter p es) + largest_result es ≤ results_size es + largest_result (filter p es)
filter_spared p [] = omega arith
filter_spared p (e ∷ es) =
    let rest = filter_spared p es in
    let less = filter_less p es in
    let all = sum_by-cons result_size e es in
    elim (cases_Bool (p e)) [
      | inl t ↦ rw t (let kept = sum_by-cons result_size e (filter p es) in omega (arith, rest, less, all, kept))
      | inr f ↦ rw f (omega (arith, rest, less, all))
    ]

within_filter : (p : LaterEntryData → Bool) (es : List LaterEntryData) → KeepsWithin es → KeepsWithin (filter p es)
within_filter p es within = let spared = filter_spared p es in omega (arith, within, spared)

-- ---- one more, which waits

largest_more : (es : List LaterEntryData) (x : LaterEntryData) → largest_result es ≤ largest_result (es ++ x ∷ [])
largest_more [] x = omega arith
largest_more (e ∷ es) x = let rest = largest_more es x in omega (arith, rest)

within_more : (es : List LaterEntryData) (x : LaterEntryData) → result_size x ≡ 0 → KeepsWithin es → KeepsWithin (es ++ x ∷ [])
within_more es x bare within =
    let all = sum_by_push result_size es x in
    let largest = largest_more es x in
    omega (arith, within, all, largest, bare)

-- ---- runs

-- what is kept behind runs: no more than before, or no more than may be and one result; and no result is shorter
record RunsWithin (front kept : ℕ) (es left : List LaterEntryData) : Type 0 where
  pub bounded : (front + results_size left ≤ kept) ⊎ (front + results_size left ≤ most_kept + largest_result left)
  pub largest : largest_result es ≤ largest_result left

-- one that isn't run
stays_within : (front kept : ℕ) (e : LaterEntryData) (es left : List LaterEntryData) → RunsWithin (front + result_size e) kept es left → RunsWithin front kept (e ∷ es) (e ∷ left)
stays_within front kept e es left rest =
    let all = sum_by-cons result_size e left in
    let long = rest.largest in
    record {
      bounded = ⊎_elim (λ same. inl (omega (arith, same, all))) (λ few. inr (omega (arith, few, all))) rest.bounded;
      largest = omega (arith, long);
    }

-- one that is
runs_within : (front kept : ℕ) (e q : LaterEntryData) (es left : List LaterEntryData) → result_size e ≡ 0 → (most_kept < kept → result_size q ≡ 0)
    → RunsWithin (front + result_size q) (kept + result_size q) es left → RunsWithin front kept (e ∷ es) (q ∷ left)
runs_within front kept e q es left bare spared rest =
    let all = sum_by-cons result_size q left in
    let long = rest.largest in
    record {
      bounded = ⊎_elim
          (λ same. elim (cases_Bool (nat_lt most_kept kept)) [
            | inl over ↦ (let none = spared (ltb-true most_kept kept over) in inl (omega (arith, same, all, none)))
            | inr under ↦ (let few = ltb-false most_kept kept under in inr (omega (arith, same, all, few)))
          ])
          (λ few. inr (omega (arith, few, all))) rest.bounded;
      largest = omega (arith, long, bare);
    }

module _ (reading : ℕ) (runs : LaterEntryData → Bool) (waits : (e : LaterEntryData) → runs e ≡ true → does_wait e ≡ true) where
  pass_within : (front kept : ℕ) (es left : List LaterEntryData) (before after : EntityData) → ArePassed reading runs es before left after → AreBounded runs kept es left
      → kept ≡ front + results_size es → RunsWithin front kept es left
  pass_within front kept [] left before after passed bounded is =
      subst (RunsWithin front kept []) (sym passed.0) (record { bounded = inl (omega (arith, is)); largest = omega arith })
  pass_within front kept (e ∷ es) left before after passed bounded is =
      let q = passed.0 in
      let rest = passed.2 in
      let sum = sum_by-cons result_size e es in
      let both : AreBounded runs kept (e ∷ es) (q ∷ rest) = subst (AreBounded runs kept (e ∷ es)) passed.3 bounded in
      subst (RunsWithin front kept (e ∷ es)) (sym passed.3)
      (⊎_elim
      (λ ran.
      let bare = waits_bare e (waits e ran.0) in
      let there : AreBounded runs (kept + result_size q) es rest = subst (λ (b : Bool). AreBounded runs (kept_then b kept q) es rest) ran.0 both.1 in
      let spared : most_kept < kept → result_size q ≡ 0 = λ over. ap result_size (both.0 ran.0 over) in
      runs_within front kept e q es rest bare spared
      (pass_within (front + result_size q) (kept + result_size q) es rest passed.1 after passed.5 there (omega (arith, is, sum, bare))))
      (λ stays.
      let there : AreBounded runs kept es rest = subst (λ (b : Bool). AreBounded runs (kept_then b kept q) es rest) stays.0 both.1 in
      subst (λ (x : LaterEntryData). RunsWithin front kept (e ∷ es) (x ∷ rest)) (sym stays.1)
      (stays_within front kept e es rest (pass_within (front + result_size e) kept es rest passed.1 after passed.5 there (omega (arith, is, sum)))))
      passed.4)

-- ---- an event

runs_waiting : (moment : ℕ) (event : Event) (e : LaterEntryData) → is_to_run moment event e ≡ true → does_wait e ≡ true
runs_waiting moment event e runs = (and_parts _ _ runs).0

ran_within : (before after : LaterData) (e : Entry Event Outcome) (s : LaterStep e.reading e.event before e.outcome after) → KeepsWithin before.requests.entries → KeepsWithin s.ran.entries
ran_within before after e s within =
    let runs = pass_within e.reading (is_to_run s.moment e.event) (runs_waiting s.moment e.event) 0 (results_size before.requests.entries) before.requests.entries s.ran.entries before.inner s.between
    s.runs s.bounded (omega arith) in
    let long = runs.largest in
    ⊎_elim (λ same. omega (arith, same, within, long)) (λ few. omega (arith, few)) runs.bounded

step_within : (before after : LaterData) (e : Entry Event Outcome) → LaterStep e.reading e.event before e.outcome after → KeepsWithin before.requests.entries → KeepsWithin after.requests.entries
step_within before after e s within =
    let standing = still_standing s.moment s.ran in
    let stands : KeepsWithin standing.entries = within_filter (still_stands s.moment) s.ran.entries (ran_within before after e s within) in
    comes_holds (λ (q : LaterRequestsData). KeepsWithin q.entries) before.inner.home standing s.moment e.event s.taken.told e.outcome after.requests stands
    (λ up. within_more standing.entries
    (accepted_entry (standing.given + 1) (claimed_originator before.inner.home up.asked.request) up.asked.request s.moment) refl stands)
    (λ own deletes. within_filter (λ (x : LaterEntryData). not (x.number == own.at.named.number)) standing.entries stands) (step_comes before after e s)

pub results_within : (before after : LaterData) (history : History) → Runs LaterStep before history after → KeepsWithin before.requests.entries → KeepsWithin after.requests.entries
results_within before after [] run within = subst (λ (l : LaterData). KeepsWithin l.requests.entries) (sym run) within
results_within before after (e ∷ history) run within = results_within run.0 after history run.2 (step_within before run.0 e run.1 within)
