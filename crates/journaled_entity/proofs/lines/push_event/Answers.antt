use Rattle.std.proofs.Common.{◌≡◌, Bool, true, sym, subst}
use Rattle.std.specs.Prelude.{IfOk}
use Rattle.cse_machine.specs.declared.event.Event.{Event}
use Rattle.journal_lines.specs.Lines.{IsReadBack}
use Rattle.journal_opening.specs.Journals.{event_deed}
use Rattle.journaled_entity.specs.Written.{pushed}
use Rattle.journaled_entity.proofs.KeepLemmas.{on_err, take_read}
use Rattle.journaled_entity.proofs.lines.push_event.Goals as goal

-- a request
pub returns-in-Ask-clause-written : goal.returns-in-Ask-clause-written
returns-in-Ask-clause-written c =
    let P : Event → Type 0 = λ e. IfOk c.push_ask.result (λ (own : Bool). c.push_ask.new.lines.items ≡ pushed own c.args.lines.now.items c.args.moment e) in
    subst P (sym c.in-Ask.is) c.push_ask.ensures.written

pub returns-in-Ask-clause-readable : goal.returns-in-Ask-clause-readable
returns-in-Ask-clause-readable c =
    let P : Event → Type 0 = λ e. IfOk c.push_ask.result (λ (own : Bool). own ≡ true → IsReadBack (event_deed e)) in
    subst P (sym c.in-Ask.is) c.push_ask.ensures.readable

pub returns-in-Ask-clause-asked : goal.returns-in-Ask-clause-asked
returns-in-Ask-clause-asked c = on_err _ (c.in-Ask.request, c.in-Ask.is) c.push_ask.result

-- the taking of an item
pub returns-in-Take-clause-written : goal.returns-in-Take-clause-written
returns-in-Take-clause-written c =
    let P : Event → Type 0 = λ e. c.push_taking.new.lines.items ≡ pushed c.push_taking.result c.args.lines.now.items c.args.moment e in
    subst P (sym c.in-Take.is) c.push_taking.ensures

pub returns-in-Take-clause-readable : goal.returns-in-Take-clause-readable
returns-in-Take-clause-readable c = λ own.
    let P : Event → Type 0 = λ e. IsReadBack (event_deed e) in
    subst P (sym c.in-Take.is) take_read
