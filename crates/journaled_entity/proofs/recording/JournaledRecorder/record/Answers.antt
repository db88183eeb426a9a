use Rattle.std.proofs.Common.{◌≡◌, sym, subst, refl}
use Rattle.std.specs.Prelude.{IfSome, false}
use Rattle.entity_model.specs.Entity.{EntityData}
use Rattle.journal_events.specs.Steps.{KeptEntityStep}
use Rattle.journal_events.specs.declared.event.KeptEvent.{KeptEvent}
use Rattle.journal_events.specs.declared.event.KeptEvent.TheVariants as events
use Rattle.journal_events.specs.declared.event.KeptOutcome.{KeptOutcome}
use Rattle.kept_object.specs.Records.{Records}
use Rattle.journaled_entity.specs.Changes.{differs, may_change_kept}
use Rattle.journaled_entity.specs.Keeping.{KeepsEntity}
use Rattle.journaled_entity.proofs.KeepLemmas.{on_some, same_recorded}
use Rattle.journaled_entity.proofs.recording.JournaledRecorder.record.Goals as goal

-- at a moment that stands still
pub returns-then-stands_still-clause-step : goal.returns-then-stands_still-clause-step
returns-then-stands_still-clause-step g c =
    let left = c.record_still.new.self in
    let P : KeptEvent → Type 0 = λ e. IfSome c.record_still.result (λ (o : KeptOutcome). KeptEntityStep c.args.reading e c.args.self.now o left) in
    subst P (sym c.in-OfMachine.is) c.record_still.ensures.step

pub returns-then-stands_still-clause-records : goal.returns-then-stands_still-clause-records
returns-then-stands_still-clause-records g c =
    let before = c.args.self.now in
    let left = c.record_still.new.self in
    let lines = c.args.lines.now.items in
    on_some (λ (o : KeptOutcome). left ≡ before) (λ (o : KeptOutcome). Records KeepsEntity before lines left lines)
    (λ o same. same_recorded before left lines same) c.record_still.result c.record_still.ensures.same

pub returns-then-stands_still-clause-sparing : goal.returns-then-stands_still-clause-sparing
returns-then-stands_still-clause-sparing g c =
    let before = c.args.self.now in
    let left = c.record_still.new.self in
    let lines = c.args.lines.now.items in
    on_some (λ (o : KeptOutcome). left ≡ before) (λ (o : KeptOutcome). may_change_kept c.args.reading before c.args.event.now o left ≡ false → differs before left ≡ false → lines ≡ lines)
    (λ o same none alike. refl) c.record_still.result c.record_still.ensures.same

-- an event of the machine whose lines aren't made ready
pub returns-clause-step : goal.returns-clause-step
returns-clause-step g c =
    let left = c.record_unready.new.self in
    let P : KeptEvent → Type 0 = λ e. IfSome c.record_unready.result (λ (o : KeptOutcome). KeptEntityStep c.args.reading e c.args.self.now o left) in
    subst P (sym c.in-OfMachine.is) c.record_unready.ensures.step

pub returns-clause-sparing : goal.returns-clause-sparing
returns-clause-sparing g c =
    let left = c.record_unready.new in
    let Q : KeptEvent → KeptOutcome → Type 0 = λ e o. may_change_kept c.args.reading c.args.self.now e o left.self ≡ false → differs c.args.self.now left.self ≡ false → left.lines.items ≡ c.args.lines.now.items in
    let P : KeptEvent → Type 0 = λ e. IfSome c.record_unready.result (λ (o : KeptOutcome). Q e o) in
    subst P (sym c.in-OfMachine.is)
    (on_some (λ (o : KeptOutcome). differs c.args.self.now left.self ≡ false → left.lines.items ≡ c.args.lines.now.items) (λ (o : KeptOutcome). Q (events.OfMachine c.in-OfMachine.asked) o)
    (λ o spared none alike. spared alike) c.record_unready.result c.record_unready.ensures.sparing)
