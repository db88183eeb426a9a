-- What is kept of a history makes the entity that all of it made.
use Rattle.std.proofs.Common.{◌≡◌, ◌⊎◌, inl, inr, ℕ, ◌≤◌, min, max, List, [], ◌∷◌, refl, sym, ◌∙◌, ap, subst, arith}
use Rattle.turn_desk.specs.declared.entry.Entry.{Entry}
use Rattle.primitive_json.specs.declared.request.RequestParts.{RequestParts}
use Rattle.entity_model.specs.Entity.{EntityData, cut, event_moment, expired_told, last_reading, next_note, swept, without_next}
use Rattle.cse_machine.specs.Answer.{ComesOf}
use Rattle.cse_machine.specs.History.{History, HistoryLeaves, IsDone}
use Rattle.cse_machine.specs.Step.{Step}
use Rattle.cse_machine.specs.declared.event.Event.{Event}
use Rattle.cse_machine.specs.declared.event.Event.TheVariants.{Ask, Take, Tick}
use Rattle.cse_machine.specs.declared.event.Outcome.{Outcome}
use Rattle.cse_machine.specs.declared.event.Outcome.TheVariants.{Done, Forward, Item, Ticked, Starved}
use Rattle.journal_events.specs.Kept.{AreKeptOf, ChangesTheMomentAlone, StandsFor, at_moment}

-- the moment of an event at a reading that is no earlier than the entity's moment
moment_at_reading : (last reading : ℕ) → last ≤ reading → reading ≤ last_reading → event_moment last reading ≡ reading
moment_at_reading last reading later within = omega (arith, later, within)

-- what is due goes alike, whenever the entity was last asked
pub swept_again : (reading earlier : ℕ) (e : EntityData) → earlier ≤ reading → e.last ≤ reading → reading ≤ last_reading
    → swept reading e ≡ swept reading (at_moment earlier e)
swept_again reading earlier e before later within =
    ap (λ m. expired_told m e) (moment_at_reading e.last reading later within)
    ∙ sym (ap (λ m. expired_told m (at_moment earlier e)) (moment_at_reading earlier reading before within))

-- a step for which there was memory depends on what is left of the entity
step_alike : (reading : ℕ) (event : Event) (outcome : Outcome) (e f after : EntityData) → IsDone outcome → swept reading e ≡ swept reading f
    → Step reading event e outcome after → Step reading event f outcome after
step_alike reading (Ask request) (Done reply) e f after done same step = subst (λ s. ComesOf s request (Done reply) after) same step
step_alike reading (Ask request) (Forward poa onward) e f after done same step = subst (λ s. ComesOf s request (Forward poa onward) after) same step
step_alike reading (Ask request) (Item given) e f after done same step = absurd step
step_alike reading (Ask request) Ticked e f after done same step = absurd step
step_alike reading (Ask request) (Starved n) e f after done same step = absurd done
step_alike reading Take (Done reply) e f after done same step = absurd step
step_alike reading Take (Forward poa onward) e f after done same step = absurd step
step_alike reading Take (Item given) e f after done same step =
    (step.0 ∙ ap next_note same, step.1 ∙ ap without_next same)
step_alike reading Take Ticked e f after done same step = absurd step
step_alike reading Take (Starved n) e f after done same step = absurd done
step_alike reading Tick (Done reply) e f after done same step = absurd step
step_alike reading Tick (Forward poa onward) e f after done same step = absurd step
step_alike reading Tick (Item given) e f after done same step = absurd step
step_alike reading Tick Ticked e f after done same step = step ∙ same
step_alike reading Tick (Starved n) e f after done same step = absurd done

-- one that was made is the other one at an earlier moment
back_at : (made now : EntityData) → ChangesTheMomentAlone made now → made ≡ at_moment made.last now
back_at made now same = sym (ap (at_moment made.last) same.same)

quiet_on : (made now then : EntityData) → ChangesTheMomentAlone made now → ChangesTheMomentAlone now then → ChangesTheMomentAlone made then
quiet_on made now then first second = record {
  same = second.same ∙ ap (at_moment then.last) first.same;
  later = omega (arith, first.later, second.later);
}

kept_on : (kept : Entry Event Outcome) (made now then : EntityData) → ChangesTheMomentAlone made now → StandsFor kept now then
    → Step kept.reading kept.event made kept.outcome then
kept_on kept made now then same stands =
    let later : now.last ≤ kept.reading = omega (arith, stands.later, stands.moment) in
    let within : kept.reading ≤ last_reading = omega (arith, stands.within, stands.moment) in
    let earlier : made.last ≤ kept.reading = omega (arith, same.later, later) in
    let alike : swept kept.reading now ≡ swept kept.reading made =
    swept_again kept.reading made.last now earlier later within ∙ ap (swept kept.reading) (sym (back_at made now same)) in
    step_alike kept.reading kept.event kept.outcome now made then stands.done alike stands.gives

unchanged : (e : EntityData) → ChangesTheMomentAlone e e
unchanged e = record { same = refl; later = omega arith }

made_on : (history kept : History) (made now after : EntityData) → ChangesTheMomentAlone made now → AreKeptOf now history kept after
    → (end : EntityData) × HistoryLeaves made kept end × ChangesTheMomentAlone end after
made_on [] kept made now after same (none, is) =
    (made, subst (λ h. HistoryLeaves made h made) (sym none) refl, subst (ChangesTheMomentAlone made) (sym is) same)
made_on (entry ∷ history) kept made now after same (between, step, inl (quiet, rest)) =
    made_on history kept made between after (quiet_on made now between same quiet) rest
made_on (entry ∷ history) kept made now after same (between, step, inr (first, more, is, stands, rest)) =
    let on = made_on history more between between after (unchanged between) rest in
    (on.0, subst (λ h. HistoryLeaves made h on.0) (sym is) (between, kept_on first made now between same stands, on.1), on.2)

pub kept_makes : (opening after : EntityData) (history kept : History) → AreKeptOf opening history kept after
    → (end : EntityData) × HistoryLeaves opening kept end × ChangesTheMomentAlone end after
kept_makes opening after history kept are = made_on history kept opening opening after (unchanged opening) are
