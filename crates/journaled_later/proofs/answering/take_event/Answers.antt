use Rattle.std.proofs.Common.{IfSome, sym, ap, subst, ◌∙◌}
use Rattle.std.specs.Prelude.{option_map}
use Rattle.entity_model.specs.Entity.{EntityData}
use Rattle.journal_events.specs.Steps.{KeptEntityStep}
use Rattle.journal_events.specs.declared.event.KeptEvent.{KeptEvent}
use Rattle.journal_events.specs.declared.event.KeptOutcome.{KeptOutcome}
use Rattle.journal_events.specs.declared.event.KeptOutcome.TheVariants as outcomes
use Rattle.journaled_later.proofs.AnswerLemmas.{asked_of_machine, asked_recorded, asked_taken, asks_it, others_taken, says_asked}
use Rattle.journaled_later.proofs.RecordLemmas.{inner_recorded}
use Rattle.journaled_later.proofs.RunLemmas.{kept_home, on_both, on_each}
use Rattle.journaled_later.specs.Recorded.{RecordsLater}
use Rattle.journaled_later.specs.Steps.{IsTakenKept, request_of}
use Rattle.journaled_later.proofs.answering.take_event.Goals as goal

-- it asks nothing
pub returns-in_default-clause-taken : goal.returns-in_default-clause-taken
returns-in_default-clause-taken g c =
    on_each _ _ (λ outcome step.
    others_taken c.args.reading c.args.moment c.args.event.now c.args.entity.now c.args.requests.now outcome c.record_inside.new.entity (sym c.request_of.ensures ∙ ap (option_map (λ r. r.now)) c.in_default.is) step)
    c.record_inside.result c.record_inside.ensures.step

pub returns-in_default-clause-records : goal.returns-in_default-clause-records
returns-in_default-clause-records g c =
    on_both _ _ _ (λ outcome step records.
    inner_recorded c.args.entity.now c.record_inside.new.entity c.args.requests.now c.args.lines.now.items c.record_inside.new.lines.items
    (kept_home c.args.reading c.args.event.now outcome c.args.entity.now c.record_inside.new.entity step) records)
    c.record_inside.result c.record_inside.ensures.step c.record_inside.ensures.records

-- its content is too deep
pub returns-then-not-is_shallow-clause-taken : goal.returns-then-not-is_shallow-clause-taken
returns-then-not-is_shallow-clause-taken g c =
    let before = c.args.entity.now in
    let standing = c.args.requests.now in
    let request = c.in-Some.request.now in
    let asks = asks_it c.args.event.now request (sym c.request_of.ensures ∙ ap (option_map (λ r. r.now)) c.in-Some.is) in
    subst (λ (e : KeptEvent). IfSome c.pass_over.result (λ (o : KeptOutcome). IsTakenKept c.args.reading c.args.moment e before standing o c.pass_over.new.entity standing)) (sym asks)
    (c.pass_over.ensures.taken c.args.moment request standing)

pub returns-then-not-is_shallow-clause-records : goal.returns-then-not-is_shallow-clause-records
returns-then-not-is_shallow-clause-records g c = c.pass_over.ensures.records c.args.requests.now

-- it asks
pub returns-in_ok-told_then-in-OfMachine-clause-taken : goal.returns-in_ok-told_then-in-OfMachine-clause-taken
returns-in_ok-told_then-in-OfMachine-clause-taken g c =
    let before = c.args.entity.now in
    let standing = c.args.requests.now in
    let after = c.record_inside-2.new.entity in
    let request = c.in-Some.request.now in
    let told = c.in-OfMachine.told in
    let asks = asks_it c.args.event.now request (sym c.request_of.ensures ∙ ap (option_map (λ r. r.now)) c.in-Some.is) in
    let step : KeptEntityStep c.args.reading c.args.event.now before (outcomes.OfMachine told) after =
    subst (λ (o : KeptOutcome). KeptEntityStep c.args.reading c.args.event.now before o after) c.in-OfMachine.is c.in_ok-other.ensures.step in
    let says = says_asked c.args.reading c.args.event.now request c.entity.result.now before after standing told c.asked_by-asked.result c.entity.ensures asks step c.asked_by-asked.ensures.asked in
    let answered = c.answer_asked-outcome.ensures.answered before.home says in
    let stood = c.answer_asked-outcome.ensures.stood before.home says in
    let written = c.in_ok-told_then-in-OfMachine.ensures before.home c.args.moment request told standing stood answered in
    asked_taken c.args.reading c.args.moment c.args.event.now request before after standing c.write_change.new.requests told c.in_ok-told_then-in-OfMachine.told_then asks step written.0

pub returns-in_ok-told_then-in-OfMachine-clause-records : goal.returns-in_ok-told_then-in-OfMachine-clause-records
returns-in_ok-told_then-in-OfMachine-clause-records g c =
    let before = c.args.entity.now in
    let standing = c.args.requests.now in
    let after = c.record_inside-2.new.entity in
    let left = c.write_change.new.requests in
    let mid = c.record_inside-2.new.lines.items in
    let now = c.write_change.new.lines.items in
    let request = c.in-Some.request.now in
    let told = c.in-OfMachine.told in
    let asks = asks_it c.args.event.now request (sym c.request_of.ensures ∙ ap (option_map (λ r. r.now)) c.in-Some.is) in
    let step : KeptEntityStep c.args.reading c.args.event.now before (outcomes.OfMachine told) after =
    subst (λ (o : KeptOutcome). KeptEntityStep c.args.reading c.args.event.now before o after) c.in-OfMachine.is c.in_ok-other.ensures.step in
    let says = says_asked c.args.reading c.args.event.now request c.entity.result.now before after standing told c.asked_by-asked.result c.entity.ensures asks step c.asked_by-asked.ensures.asked in
    let answered = c.answer_asked-outcome.ensures.answered before.home says in
    let stood = c.answer_asked-outcome.ensures.stood before.home says in
    let written = c.in_ok-told_then-in-OfMachine.ensures before.home c.args.moment request told standing stood answered in
    asked_recorded before after standing left c.args.lines.now.items mid now
    (kept_home c.args.reading c.args.event.now (outcomes.OfMachine told) before after step) c.in_ok-other.ensures.records
    (subst (λ (e : EntityData). RecordsLater e standing mid e left now) c.entity-inside.ensures written.1)

-- one of the machine comes to nothing else
pub returns-in_default-2 : goal.returns-in_default-2
returns-in_default-2 g c =
    let asks = asks_it c.args.event.now c.in-Some.request.now (sym c.request_of.ensures ∙ ap (option_map (λ r. r.now)) c.in-Some.is) in
    asked_of_machine c.args.reading c.args.event.now c.in-Some.request.now c.args.entity.now c.record_inside-2.new.entity c.in_ok-other.other asks c.in_ok-other.ensures.step c.in_default-2.not-OfMachine
