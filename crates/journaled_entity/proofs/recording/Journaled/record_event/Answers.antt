use Rattle.std.proofs.Common.{◌≡◌, ℕ, List, length, sym, subst, ◌∙◌, arith}
use Rattle.cse_machine.specs.declared.event.Event.{Event}
use Rattle.cse_machine.specs.declared.event.Outcome.TheVariants.{Starved}
use Rattle.journal_events.specs.Steps.{StepsAsMachine}
use Rattle.journal_events.specs.declared.event.KeptOutcome.{KeptOutcome}
use Rattle.journal_events.specs.declared.event.KeptOutcome.TheVariants.{OfMachine}
use Rattle.kept_object.specs.Records.{Records}
use Rattle.journaled_entity.specs.Keeping.{KeepsEntity}
use Rattle.journaled_entity.proofs.KeepLemmas.{passed_over}
use Rattle.journaled_entity.proofs.recording.Journaled.record_event.Goals as goal

-- it was written down, or has nothing to be written
pub returns-in-Ok-clause-records : goal.returns-in-Ok-clause-records
returns-in-Ok-clause-records g c =
    let old = c.args.lines.now in
    let size : length old.items ≡ c.len-len.result = omega (arith, c.len-len.ensures, old.ok.0) in
    c.record_pushed.ensures.records old.items size c.in-Ok.ensures.written

pub returns-in-Ok-clause-sparing : goal.returns-in-Ok-clause-sparing
returns-in-Ok-clause-sparing g c =
    let old = c.args.lines.now in
    let size : length old.items ≡ c.len-len.result = omega (arith, c.len-len.ensures, old.ok.0) in
    c.record_pushed.ensures.sparing old.items size c.in-Ok.ensures.written

-- it can't be written: it is a request
pub returns-in_ok-pass_over-in-Err-clause-step : goal.returns-in_ok-pass_over-in-Err-clause-step
returns-in_ok-pass_over-in-Err-clause-step g c =
    let asked = c.in-Err.ensures.asked in
    let left = c.pass_over.new.self in
    let Q : Event → KeptOutcome → Type 0 = λ e o. StepsAsMachine c.args.reading e c.args.self.now o left in
    let passed = passed_over c.args.reading (Starved 0) c.args.self.now left asked.0 c.in_ok-pass_over-in-Err.ensures.step in
    subst (λ (o : KeptOutcome). Q c.args.event.now o) (sym c.starved.ensures) (subst (λ (e : Event). Q e (OfMachine (Starved 0))) (sym asked.1) passed)

pub returns-in_ok-pass_over-in-Err-clause-records : goal.returns-in_ok-pass_over-in-Err-clause-records
returns-in_ok-pass_over-in-Err-clause-records g c =
    let left = c.pass_over.new in
    let P : List ℕ → Type 0 = λ l. Records KeepsEntity c.args.self.now l left.self left.lines.items in
    subst P c.in-Err.ensures.err c.in_ok-pass_over-in-Err.ensures.records

pub returns-in_ok-pass_over-in-Err-clause-sparing : goal.returns-in_ok-pass_over-in-Err-clause-sparing
returns-in_ok-pass_over-in-Err-clause-sparing g c = λ none alike. c.in_ok-pass_over-in-Err.ensures.sparing alike ∙ c.in-Err.ensures.err
