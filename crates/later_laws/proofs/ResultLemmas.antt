-- Whatever has a result was run.
use Rattle.std.specs.Prelude.{map, Contains}
use Rattle.std.proofs.Common.{◌≡◌, ◌⊎◌, ⊎_elim, false, List, [], ◌∷◌, ◌++◌, sym, ap, subst, ◌∙◌, append_assoc}
use Rattle.std.proofs.lemmas.Bool.{true≢false}
use Rattle.std.proofs.lemmas.List.{map-append}
use Rattle.std.proofs.lemmas.List.Elements.{Contains-append_cases, Contains-append_left, Contains-append_right}
use Rattle.turn_desk.specs.declared.entry.Entry.{Entry}
use Rattle.cse_machine.specs.History.{History}
use Rattle.cse_machine.specs.declared.event.Event.{Event}
use Rattle.cse_machine.specs.declared.event.Outcome.{Outcome}
use Rattle.later_replies.specs.Entries.{LaterData, LaterEntryData, does_wait, still_stands}
use Rattle.later_replies.specs.Runs.{is_to_run}
use Rattle.later_laws.specs.Turns.{HasTurns, IsTurn, Turn, all_ran, as_ran}
use Rattle.later_laws.proofs.GoingLemmas.{acceptance_adds, contains_of_filtered, left_is}

-- each of them that has a result is one of these
abbrev HaveResultsOf : List LaterEntryData → List LaterEntryData → Type 0
HaveResultsOf results entries = (x : LaterEntryData) → Contains entries x → does_wait x ≡ false → Contains results x

turn_results : (results : List LaterEntryData) (before after : LaterData) (e : Entry Event Outcome) (t : Turn) → IsTurn before e t after → HaveResultsOf results before.requests.entries → HaveResultsOf (results ++ map as_ran t.ran) after.requests.entries
turn_results results before after e t is have x there never = ⊎_elim
    (λ kept. ⊎_elim
    (λ was. Contains-append_left results (map as_ran t.ran) x (have x was never))
    (λ ran. Contains-append_right results (map as_ran t.ran) x ran)
    (left_is (is_to_run is.moment e.event) before.requests.entries t.ran is.left.entries x is.are_left (contains_of_filtered (still_stands is.moment) is.left.entries x kept)))
    (λ new. absurd (true≢false (ap does_wait (sym new.1) ∙ never)))
    (acceptance_adds before after e t x is there)

results_after : (history : History) (turns : List Turn) (results : List LaterEntryData) (before after : LaterData) → HasTurns before history turns after → HaveResultsOf results before.requests.entries → HaveResultsOf (results ++ map as_ran (all_ran turns)) after.requests.entries
results_after [] turns results before after has have x there never =
    Contains-append_left results (map as_ran (all_ran turns)) x (have x (subst (λ (l : LaterData). Contains l.requests.entries x) has.1 there) never)
results_after (e ∷ history) turns results before after has have x there never =
    let t = has.0 in
    let rest : Contains ((results ++ map as_ran t.ran) ++ map as_ran (all_ran has.1)) x =
    results_after history has.1 (results ++ map as_ran t.ran) has.2 after has.5 (turn_results results before has.2 e t has.4 have) x there never in
    let joined : (results ++ map as_ran t.ran) ++ map as_ran (all_ran has.1) ≡ results ++ map as_ran (t.ran ++ all_ran has.1) =
    append_assoc results (map as_ran t.ran) (map as_ran (all_ran has.1)) ∙ ap (λ (l : List LaterEntryData). results ++ l) (sym (map-append as_ran t.ran (all_ran has.1))) in
    subst (λ (ts : List Turn). Contains (results ++ map as_ran (all_ran ts)) x) (sym has.3) (subst (λ (l : List LaterEntryData). Contains l x) joined rest)

-- what had a result before
had_results : (entries : List LaterEntryData) → HaveResultsOf entries entries
had_results entries x there never = there

pub kept_results : (before after : LaterData) (history : History) (turns : List Turn) (x : LaterEntryData) → HasTurns before history turns after → Contains after.requests.entries x → does_wait x ≡ false → Contains before.requests.entries x ⊎ Contains (map as_ran (all_ran turns)) x
kept_results before after history turns x has there never =
    Contains-append_cases before.requests.entries (map as_ran (all_ran turns)) x
    (results_after history turns before.requests.entries before after has (had_results before.requests.entries) x there never)
