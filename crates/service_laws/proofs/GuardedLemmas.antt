-- The request of a reply stands behind a history of the requests before it.
use Rattle.service_laws.proofs.Words.{◌≡◌, ℕ, List, [], ◌∷◌, ◌++◌, length, map, refl, sym, ap, subst, ◌∙◌, arith}
use Rattle.service_laws.proofs.Terms.{ReplyParts, RequestParts, readings_of, events_of, outcomes_of, EntityData, swept, Event, Ask, Outcome, Done, History, HistoryLeaves, Step}
use Rattle.service_laws.proofs.Facts.{Grew-runs, none_some, same_first, same_rest, sound_step, step_guarded}
use Rattle.entity_model.specs.Sound.{IsSoundEntity}
use Rattle.guard_laws.specs.Guard.{IsGuarded}
use Rattle.service_laws.specs.Laws.{ServesGuarded}

no_request : (o : Outcome) (before : List Outcome) → length {A = RequestParts} [] ≡ length (o ∷ before) → ⊥
no_request o before e = omega (arith, e)

no_outcome : (r : RequestParts) (earlier : List RequestParts) → length (r ∷ earlier) ≡ length {A = Outcome} [] → ⊥
no_outcome r earlier e = omega (arith, e)

less_one : (r : RequestParts) (earlier : List RequestParts) (o : Outcome) (before : List Outcome) → length (r ∷ earlier) ≡ length (o ∷ before) → length earlier ≡ length before
less_one r earlier o before e = omega (arith, e)

-- The first part of the history of a run, before the request, and the step of the request.
guarded_in_run : (mine : History) (opening after : EntityData) (earlier later : List RequestParts) (request : RequestParts)
    (before behind : List Outcome) (reply : ReplyParts)
    → IsSoundEntity opening → HistoryLeaves opening mine after → events_of mine ≡ map Ask (earlier ++ request ∷ later)
    → outcomes_of mine ≡ before ++ Done reply ∷ behind → length earlier ≡ length before
    → (history : History) × (found : EntityData) × (left : EntityData)
    × (reading : ℕ) × (then : List ℕ)
    × HistoryLeaves opening history found × (events_of history ≡ map Ask earlier)
    × (outcomes_of history ≡ before)
    × (readings_of mine ≡ readings_of history ++ reading ∷ then)
    × Step reading (Ask request) found (Done reply) left
    × IsGuarded (swept reading found) request reply left
guarded_in_run [] opening after [] later request before behind reply sound run events outcomes same =
    absurd (none_some (Ask request) (map Ask later) events)
guarded_in_run [] opening after (r ∷ earlier) later request before behind reply sound run events outcomes same =
    absurd (none_some (Ask r) (map Ask (earlier ++ request ∷ later)) events)
guarded_in_run (m ∷ mine) opening after [] later request [] behind reply sound run events outcomes same =
    let asked : m.event ≡ Ask request = same_first m.event (Ask request) (events_of mine) (map Ask later) events in
    let done : m.outcome ≡ Done reply = same_first m.outcome (Done reply) (outcomes_of mine) behind outcomes in
    let step : Step m.reading (Ask request) opening (Done reply) run.0 =
    subst (λ (v : Event). Step m.reading v opening (Done reply) run.0) asked
    (subst (λ (o : Outcome). Step m.reading m.event opening o run.0) done run.1) in
    ([], opening, run.0, m.reading, readings_of mine, refl, refl, refl, refl, step, step_guarded m.reading request opening run.0 reply sound step)
guarded_in_run (m ∷ mine) opening after [] later request (o ∷ before) behind reply sound run events outcomes same =
    absurd (no_request o before same)
guarded_in_run (m ∷ mine) opening after (r ∷ earlier) later request [] behind reply sound run events outcomes same =
    absurd (no_outcome r earlier same)
guarded_in_run (m ∷ mine) opening after (r ∷ earlier) later request (o ∷ before) behind reply sound run events outcomes same =
    let asked : m.event ≡ Ask r = same_first m.event (Ask r) (events_of mine) (map Ask (earlier ++ request ∷ later)) events in
    let rest = guarded_in_run mine run.0 after earlier later request before behind reply
    (sound_step m.reading m.event opening run.0 m.outcome sound run.1) run.2
    (same_rest m.event (Ask r) (events_of mine) (map Ask (earlier ++ request ∷ later)) events)
    (same_rest m.outcome o (outcomes_of mine) (before ++ Done reply ∷ behind) outcomes)
    (less_one r earlier o before same) in
    let first : m.outcome ≡ o = same_first m.outcome o (outcomes_of mine) (before ++ Done reply ∷ behind) outcomes in (
      m ∷ rest.0,
      rest.1,
      rest.2,
      rest.3,
      rest.4,
      (run.0, run.1, rest.5),
      cc (asked, rest.6),
      cc (first, rest.7),
      ap (λ (ns : List ℕ). m.reading ∷ ns) rest.8,
      rest.9,
      rest.10,
    )

pub serves_guarded : ServesGuarded
serves_guarded rule opening after old new ended served earlier later request before behind reply sound requests outcomes same =
    let asked = served.asks.asks in
    let found =
    guarded_in_run asked.mine opening after earlier later request before behind reply sound (Grew-runs Step asked.grew)
    (asked.events_are ∙ ap (map Ask) requests) (asked.outcomes_are ∙ outcomes) same in
    (found.0, found.1, found.2, found.3, found.4, found.5, found.6, found.7, sym asked.readings_are ∙ found.8, found.9, found.10)
