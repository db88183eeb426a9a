use Rattle.std.proofs.Common.{◌≡◌, true, false, ◌++◌, sym, ap, subst, ◌∙◌}
use Rattle.entity_model.specs.Entity.{EntityData}
use Rattle.journal_lines.specs.Lines.{lines_of}
use Rattle.journal_lines.specs.declared.deed.Deed.TheVariants as deeds
use Rattle.journal_events.specs.Steps.{TakesSent, is_next}
use Rattle.journal_events.specs.declared.event.KeptOutcome.{KeptOutcome}
use Rattle.journaled_entity.specs.Changes.{differs, is_ticked}
use Rattle.journaled_entity.proofs.KeepLemmas.{cut_away}
use Rattle.journaled_entity.proofs.SendingLemmas.{kept_between, leaving_recorded, starved_recorded, takes_starved, taking_changes, taking_recorded, taking_steps}
use Rattle.journaled_entity.proofs.recording.Journaled.record_taking.Goals as goal

-- memory ran out for the expiry
pub returns-then-not-is_ticked-clause-step : goal.returns-then-not-is_ticked-clause-step
returns-then-not-is_ticked-clause-step g c =
    let at = c.step-ticked in
    takes_starved c.args.reading at.result.outcome c.args.self.now at.new.self at.ensures.step c.args.number c.starved.result c.starved.ensures

pub returns-then-not-is_ticked-clause-records : goal.returns-then-not-is_ticked-clause-records
returns-then-not-is_ticked-clause-records g c = λ front size is.
    let at = c.step-ticked in
    let none : is_ticked at.result.outcome ≡ false = sym c.is_ticked.ensures ∙ c.if-not-is_ticked.true in
    starved_recorded c.args.reading at.result.outcome c.args.self.now at.new.self at.ensures.step none front _
    (c.truncate.ensures.items ∙ cut_away front (lines_of c.args.moment deeds.Take) _ c.args.len size is)

pub returns-then-not-is_ticked-clause-sparing : goal.returns-then-not-is_ticked-clause-sparing
returns-then-not-is_ticked-clause-sparing g c = λ front size is none alike.
    c.truncate.ensures.items ∙ cut_away front (lines_of c.args.moment deeds.Take) _ c.args.len size is

-- it was taken
pub returns-then-take_numbered-clause-step : goal.returns-then-take_numbered-clause-step
returns-then-take_numbered-clause-step g c =
    let at = c.step-ticked in
    let taken = c.take_numbered in
    let ticked : is_ticked at.result.outcome ≡ true = sym c.is_ticked.ensures ∙ c.if-not-is_ticked.false in
    subst (λ (o : KeptOutcome). TakesSent c.args.number c.args.reading c.args.self.now o taken.new.self) (sym c.taken.ensures)
    (taking_steps c.args.reading c.args.moment c.args.number at.result.outcome c.args.self.now at.new.self taken.new.self c.counts-counts.ensures.sound at.ensures.step ticked taken.ensures.rest)

pub returns-then-take_numbered-clause-records : goal.returns-then-take_numbered-clause-records
returns-then-take_numbered-clause-records g c = λ front size is.
    let at = c.step-ticked in
    let taken = c.take_numbered in
    let ticked : is_ticked at.result.outcome ≡ true = sym c.is_ticked.ensures ∙ c.if-not-is_ticked.false in
    let next : is_next c.args.number at.new.self ≡ true = sym taken.ensures.found ∙ c.if-take_numbered.true in
    taking_recorded c.args.reading c.args.moment c.args.number at.result.outcome c.args.self.now at.new.self taken.new.self c.counts-counts.ensures.sound at.ensures.step ticked taken.ensures.rest next
    c.requires.moment c.requires.small front _ is

pub returns-then-take_numbered-clause-sparing : goal.returns-then-take_numbered-clause-sparing
returns-then-take_numbered-clause-sparing g c = λ front size is none alike.
    let at = c.step-ticked in
    let taken = c.take_numbered in
    let ticked : is_ticked at.result.outcome ≡ true = sym c.is_ticked.ensures ∙ c.if-not-is_ticked.false in
    let next : is_next c.args.number at.new.self ≡ true = sym taken.ensures.found ∙ c.if-take_numbered.true in
    absurd (taking_changes c.args.reading c.args.moment c.args.number at.result.outcome c.args.self.now at.new.self taken.new.self c.counts-counts.ensures.sound at.ensures.step ticked taken.ensures.rest next none)

-- it wasn't the next one any more
pub returns-then-push_expiry-clause-step : goal.returns-then-push_expiry-clause-step
returns-then-push_expiry-clause-step g c =
    let at = c.step-ticked in
    let taken = c.take_numbered in
    let ticked : is_ticked at.result.outcome ≡ true = sym c.is_ticked.ensures ∙ c.if-not-is_ticked.false in
    subst (λ (o : KeptOutcome). TakesSent c.args.number c.args.reading c.args.self.now o taken.new.self) (sym c.taken-then-push_expiry.ensures)
    (taking_steps c.args.reading c.args.moment c.args.number at.result.outcome c.args.self.now at.new.self taken.new.self c.counts-counts.ensures.sound at.ensures.step ticked taken.ensures.rest)

pub returns-then-push_expiry-clause-records : goal.returns-then-push_expiry-clause-records
returns-then-push_expiry-clause-records g c = λ front size is.
    let at = c.step-ticked in
    let taken = c.take_numbered in
    let ticked : is_ticked at.result.outcome ≡ true = sym c.is_ticked.ensures ∙ c.if-not-is_ticked.false in
    let other : is_next c.args.number at.new.self ≡ false = sym taken.ensures.found ∙ c.if-take_numbered.false in
    let pushed = c.push_expiry.ensures in
    let gone = c.truncate-2.ensures.items ∙ cut_away front (lines_of c.args.moment deeds.Take) _ c.args.len size is in
    leaving_recorded c.args.reading c.args.moment c.args.number at.result.outcome c.args.self.now at.new.self taken.new.self c.counts-counts.ensures.sound at.ensures.step ticked taken.ensures.rest other
    c.requires.moment c.requires.small front _ (λ alike. pushed.nothing c.if-push_expiry.true (c.differs_from-differs.ensures c.args.self.now c.counts-counts.ensures.nodes c.counts-counts.ensures.items ∙ alike) ∙ gone)
    (λ differ. pushed.tick c.if-push_expiry.true (c.differs_from-differs.ensures c.args.self.now c.counts-counts.ensures.nodes c.counts-counts.ensures.items ∙ differ) ∙ ap (λ l. l ++ lines_of c.args.moment deeds.Tick) gone)

pub returns-then-push_expiry-clause-sparing : goal.returns-then-push_expiry-clause-sparing
returns-then-push_expiry-clause-sparing g c = λ front size is none alike.
    let at = c.step-ticked in
    let taken = c.take_numbered in
    let ticked : is_ticked at.result.outcome ≡ true = sym c.is_ticked.ensures ∙ c.if-not-is_ticked.false in
    let other : is_next c.args.number at.new.self ≡ false = sym taken.ensures.found ∙ c.if-take_numbered.false in
    let same = kept_between c.args.reading c.args.moment c.args.number at.result.outcome c.args.self.now at.new.self taken.new.self c.counts-counts.ensures.sound at.ensures.step ticked taken.ensures.rest other in
    c.push_expiry.ensures.nothing c.if-push_expiry.true (c.differs_from-differs.ensures c.args.self.now c.counts-counts.ensures.nodes c.counts-counts.ensures.items ∙ sym (ap (λ (e : EntityData). differs c.args.self.now e) same) ∙ alike)
    ∙ c.truncate-2.ensures.items ∙ cut_away front (lines_of c.args.moment deeds.Take) _ c.args.len size is
