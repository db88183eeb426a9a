use Rattle.std.proofs.Common.{◌≡◌, ℕ, Bool, true, false, List, length, sym, ap, subst, ◌∙◌, arith}
use Rattle.cse_machine.specs.declared.event.Event.TheVariants as events
use Rattle.journal_events.specs.Steps.{TakesSent}
use Rattle.journal_events.specs.declared.event.KeptOutcome.{KeptOutcome}
use Rattle.kept_object.specs.Records.{Records}
use Rattle.journaled_entity.specs.Keeping.{KeepsEntity}
use Rattle.journaled_entity.specs.Written.{pushed}
use Rattle.journaled_entity.proofs.recording.Journaled.record_sent.Goals as goal

-- its line was written
pub returns-then-push_taking-clause-records : goal.returns-then-push_taking-clause-records
returns-then-push_taking-clause-records g c =
    let old = c.args.lines.now in
    let size : length old.items ≡ c.len-len.result = omega (arith, c.len-len.ensures, old.ok.0) in
    c.record_taking.ensures.records old.items size (c.push_taking.ensures ∙ ap (λ (b : Bool). pushed b old.items c.moment-moment.result events.Take) c.if-push_taking.true)

pub returns-then-push_taking-clause-sparing : goal.returns-then-push_taking-clause-sparing
returns-then-push_taking-clause-sparing g c =
    let old = c.args.lines.now in
    let size : length old.items ≡ c.len-len.result = omega (arith, c.len-len.ensures, old.ok.0) in
    c.record_taking.ensures.sparing old.items size (c.push_taking.ensures ∙ ap (λ (b : Bool). pushed b old.items c.moment-moment.result events.Take) c.if-push_taking.true)

-- memory ran out for it
pub returns-in_ok-pass_over-clause-step : goal.returns-in_ok-pass_over-clause-step
returns-in_ok-pass_over-clause-step g c =
    subst (λ (o : KeptOutcome). TakesSent c.args.number c.args.reading c.args.self.now o c.pass_over.new.self) (sym c.starved.ensures) c.in_ok-pass_over.ensures.step

pub returns-in_ok-pass_over-clause-records : goal.returns-in_ok-pass_over-clause-records
returns-in_ok-pass_over-clause-records g c =
    let left = c.pass_over.new in
    let same = c.push_taking.ensures ∙ ap (λ (b : Bool). pushed b c.args.lines.now.items c.moment-moment.result events.Take) c.if-push_taking.false in
    let P : List ℕ → Type 0 = λ l. Records KeepsEntity c.args.self.now l left.self left.lines.items in
    subst P same c.in_ok-pass_over.ensures.records

pub returns-in_ok-pass_over-clause-sparing : goal.returns-in_ok-pass_over-clause-sparing
returns-in_ok-pass_over-clause-sparing g c = λ none alike.
    let same = c.push_taking.ensures ∙ ap (λ (b : Bool). pushed b c.args.lines.now.items c.moment-moment.result events.Take) c.if-push_taking.false in
    c.in_ok-pass_over.ensures.sparing alike ∙ same
