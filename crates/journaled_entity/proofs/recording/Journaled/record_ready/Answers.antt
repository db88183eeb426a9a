use Rattle.std.proofs.Common.{◌≡◌, sym, subst}
use Rattle.std.specs.Prelude.{IfSome, false}
use Rattle.journal_events.specs.Steps.{KeptEntityStep}
use Rattle.journal_events.specs.declared.event.KeptEvent.{KeptEvent}
use Rattle.journal_events.specs.declared.event.KeptEvent.TheVariants as events
use Rattle.journal_events.specs.declared.event.KeptOutcome.{KeptOutcome}
use Rattle.journaled_entity.specs.Changes.{differs, may_change_kept}
use Rattle.journaled_entity.proofs.KeepLemmas.{on_some}
use Rattle.journaled_entity.proofs.recording.Journaled.record_ready.Goals as goal

-- an event of the machine
pub returns-in-OfMachine-clause-step : goal.returns-in-OfMachine-clause-step
returns-in-OfMachine-clause-step g c =
    let left = c.record_event.new.self in
    let P : KeptEvent → Type 0 = λ e. IfSome c.record_event.result (λ (o : KeptOutcome). KeptEntityStep c.args.reading e c.args.self.now o left) in
    subst P (sym c.in-OfMachine.is) c.record_event.ensures.step

pub returns-in-OfMachine-clause-sparing : goal.returns-in-OfMachine-clause-sparing
returns-in-OfMachine-clause-sparing g c =
    let left = c.record_event.new in
    let P : KeptEvent → Type 0 = λ e. IfSome c.record_event.result (λ (o : KeptOutcome). may_change_kept c.args.reading c.args.self.now e o left.self ≡ false → differs c.args.self.now left.self ≡ false → left.lines.items ≡ c.args.lines.now.items) in
    subst P (sym c.in-OfMachine.is) c.record_event.ensures.sparing

-- which item is to be sent
pub returns-in-Next-clause-step : goal.returns-in-Next-clause-step
returns-in-Next-clause-step g c =
    let left = c.record_look.new.self in
    let P : KeptEvent → Type 0 = λ e. IfSome c.record_look.result (λ (o : KeptOutcome). KeptEntityStep c.args.reading e c.args.self.now o left) in
    subst P (sym c.in-Next.is) c.record_look.ensures.step

pub returns-in-Next-clause-sparing : goal.returns-in-Next-clause-sparing
returns-in-Next-clause-sparing g c =
    let left = c.record_look.new in
    let Q : KeptEvent → KeptOutcome → Type 0 = λ e o. may_change_kept c.args.reading c.args.self.now e o left.self ≡ false → differs c.args.self.now left.self ≡ false → left.lines.items ≡ c.args.lines.now.items in
    let P : KeptEvent → Type 0 = λ e. IfSome c.record_look.result (λ (o : KeptOutcome). Q e o) in
    subst P (sym c.in-Next.is)
    (on_some (λ (o : KeptOutcome). differs c.args.self.now left.self ≡ false → left.lines.items ≡ c.args.lines.now.items) (λ (o : KeptOutcome). Q events.Next o)
    (λ o spared none alike. spared alike) c.record_look.result c.record_look.ensures.sparing)

-- it was sent
pub returns-in-Sent-clause-step : goal.returns-in-Sent-clause-step
returns-in-Sent-clause-step g c =
    let left = c.record_sent.new.self in
    let P : KeptEvent → Type 0 = λ e. IfSome c.record_sent.result (λ (o : KeptOutcome). KeptEntityStep c.args.reading e c.args.self.now o left) in
    subst P (sym c.in-Sent.is) c.record_sent.ensures.step

pub returns-in-Sent-clause-sparing : goal.returns-in-Sent-clause-sparing
returns-in-Sent-clause-sparing g c =
    let left = c.record_sent.new in
    let P : KeptEvent → Type 0 = λ e. IfSome c.record_sent.result (λ (o : KeptOutcome). may_change_kept c.args.reading c.args.self.now e o left.self ≡ false → differs c.args.self.now left.self ≡ false → left.lines.items ≡ c.args.lines.now.items) in
    subst P (sym c.in-Sent.is) c.record_sent.ensures.sparing
