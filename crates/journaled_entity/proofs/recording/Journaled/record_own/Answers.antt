use Rattle.std.proofs.Common.{◌≡◌, true, false, true≢false, ◌++◌, sym, ap, ◌∙◌}
use Rattle.entity_model.specs.Entity.{swept}
use Rattle.cse_machine.specs.declared.event.Event.TheVariants as events
use Rattle.journal_events.specs.Steps.{StepsAsMachine}
use Rattle.journal_events.specs.declared.event.KeptOutcome.{KeptOutcome}
use Rattle.journal_lines.specs.Lines.{lines_of}
use Rattle.journal_opening.specs.Journals.{event_deed}
use Rattle.journaled_entity.specs.Changes.{differs, is_cut_short, machine_may_change, may_change, may_change_by}
use Rattle.journaled_entity.specs.Handing.{IsMachineHandedOn}
use Rattle.journaled_entity.proofs.HandingLemmas.{handed_quiet, handed_steps, on_any}
use Rattle.journaled_entity.proofs.KeepLemmas.{cut_away, expiry_recorded, on_some, own_recorded}
use Rattle.journaled_entity.proofs.recording.Journaled.record_own.Goals as goal

-- its own lines stay
pub returns-then-may_change-clause-step : goal.returns-then-may_change-clause-step
returns-then-may_change-clause-step g c =
    let at = c.step-observed in
    on_some (IsMachineHandedOn at.result.outcome) (λ (o : KeptOutcome). StepsAsMachine c.args.reading c.args.event.now c.args.self.now o at.new.self)
    (λ o handed. handed_steps c.args.reading c.args.self.now at.new.self c.args.event.now at.result.outcome o at.ensures.step handed) c.hand_observed_on.result c.hand_observed_on.ensures

pub returns-then-may_change-clause-records : goal.returns-then-may_change-clause-records
returns-then-may_change-clause-records g c = λ front size is.
    let at = c.step-observed in
    let it_may : may_change_by c.args.event.now at.result.took at.result.outcome ≡ true = cc in
    let may : may_change (swept c.args.reading c.args.self.now) c.args.event.now at.result.outcome at.new.self ≡ true =
    ap (λ b. may_change_by c.args.event.now b at.result.outcome) (sym at.ensures.took) ∙ it_may in
    on_any _ (own_recorded c.args.reading c.args.moment c.args.event.now at.result.outcome c.args.self.now at.new.self front _ c.counts-counts.ensures.sound at.ensures.step may
    c.requires.moment c.requires.small c.requires.readable is) c.hand_observed_on.result

pub returns-then-may_change-clause-sparing : goal.returns-then-may_change-clause-sparing
returns-then-may_change-clause-sparing g c = λ front size is.
    let at = c.step-observed in
    let it_may : may_change_by c.args.event.now at.result.took at.result.outcome ≡ true = cc in
    let may : may_change (swept c.args.reading c.args.self.now) c.args.event.now at.result.outcome at.new.self ≡ true =
    ap (λ b. may_change_by c.args.event.now b at.result.outcome) (sym at.ensures.took) ∙ it_may in
    on_some (IsMachineHandedOn at.result.outcome)
    (λ (o : KeptOutcome). machine_may_change (swept c.args.reading c.args.self.now) c.args.event.now o at.new.self ≡ false → differs c.args.self.now at.new.self ≡ false → c.args.lines.now.items ≡ front)
    (λ o handed none alike. absurd (true≢false (sym may ∙ handed_quiet c.args.reading c.args.self.now at.new.self c.args.event.now at.result.outcome o handed none)))
    c.hand_observed_on.result c.hand_observed_on.ensures

-- they go
pub returns-then-push_expiry-clause-step : goal.returns-then-push_expiry-clause-step
returns-then-push_expiry-clause-step g c =
    let at = c.step-observed in
    let came = c.hand_observed_on-then-push_expiry in
    on_some (IsMachineHandedOn at.result.outcome) (λ (o : KeptOutcome). StepsAsMachine c.args.reading c.args.event.now c.args.self.now o at.new.self)
    (λ o handed. handed_steps c.args.reading c.args.self.now at.new.self c.args.event.now at.result.outcome o at.ensures.step handed) came.result came.ensures

pub returns-then-push_expiry-clause-records : goal.returns-then-push_expiry-clause-records
returns-then-push_expiry-clause-records g c = λ front size is.
    let at = c.step-observed in
    let counts = c.counts-counts.ensures in
    let short : is_cut_short at.result.outcome ≡ false = cc in
    let quiet : may_change_by c.args.event.now at.result.took at.result.outcome ≡ false = cc in
    let none : may_change (swept c.args.reading c.args.self.now) c.args.event.now at.result.outcome at.new.self ≡ false =
    ap (λ b. may_change_by c.args.event.now b at.result.outcome) (sym at.ensures.took) ∙ quiet in
    let differ = c.differs_from-differs.ensures c.args.self.now counts.nodes counts.items in
    let pushed = c.push_expiry.ensures in
    let gone = c.truncate.ensures.items ∙ cut_away front (lines_of c.args.moment (event_deed c.args.event.now)) _ c.args.len size is in
    on_any _ (expiry_recorded c.args.reading c.args.moment c.args.event.now at.result.outcome c.args.self.now at.new.self front _ counts.sound at.ensures.step short none
    c.requires.moment c.requires.small (λ alike. pushed.nothing c.if-push_expiry.true (differ ∙ alike) ∙ gone)
    (λ other. pushed.tick c.if-push_expiry.true (differ ∙ other) ∙ ap (λ l. l ++ lines_of c.args.moment (event_deed events.Tick)) gone)) c.hand_observed_on-then-push_expiry.result

pub returns-then-push_expiry-clause-sparing : goal.returns-then-push_expiry-clause-sparing
returns-then-push_expiry-clause-sparing g c = λ front size is.
    let counts = c.counts-counts.ensures in
    let came = c.hand_observed_on-then-push_expiry in
    let gone = c.truncate.ensures.items ∙ cut_away front (lines_of c.args.moment (event_deed c.args.event.now)) _ c.args.len size is in
    let left = c.push_expiry.ensures.nothing c.if-push_expiry.true in
    let differ = c.differs_from-differs.ensures c.args.self.now counts.nodes counts.items in
    on_some _ _ (λ o handed none alike. left (differ ∙ alike) ∙ gone) came.result came.ensures
