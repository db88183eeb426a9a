use Rattle.std.proofs.Common.{◌≡◌, false, sym, ap, ◌∙◌}
use Rattle.entity_model.specs.Entity.{swept}
use Rattle.journal_events.specs.Steps.{StepsAsMachine}
use Rattle.journal_events.specs.declared.event.KeptOutcome.{KeptOutcome}
use Rattle.journaled_entity.specs.Changes.{is_cut_short, may_change, may_change_by}
use Rattle.journaled_entity.specs.Handing.{IsMachineHandedOn}
use Rattle.journaled_entity.proofs.HandingLemmas.{handed_steps, on_any}
use Rattle.journaled_entity.proofs.KeepLemmas.{expiry_recorded, on_some}
use Rattle.journaled_entity.proofs.recording.Journaled.record_expiry.Goals as goal

pub returns-then-push_expiry-clause-step : goal.returns-then-push_expiry-clause-step
returns-then-push_expiry-clause-step g c =
    let at = c.step-observed in
    on_some (IsMachineHandedOn at.result.outcome) (λ (o : KeptOutcome). StepsAsMachine c.args.reading c.args.event.now c.args.self.now o at.new.self)
    (λ o handed. handed_steps c.args.reading c.args.self.now at.new.self c.args.event.now at.result.outcome o at.ensures.step handed) c.hand_observed_on.result c.hand_observed_on.ensures

pub returns-then-push_expiry-clause-records : goal.returns-then-push_expiry-clause-records
returns-then-push_expiry-clause-records g c =
    let at = c.step-observed in
    let counts = c.counts-counts.ensures in
    let short : is_cut_short at.result.outcome ≡ false = cc in
    let quiet : may_change_by c.args.event.now at.result.took at.result.outcome ≡ false = cc in
    let none : may_change (swept c.args.reading c.args.self.now) c.args.event.now at.result.outcome at.new.self ≡ false =
    ap (λ b. may_change_by c.args.event.now b at.result.outcome) (sym at.ensures.took) ∙ quiet in
    let differ = c.differs_from-differs.ensures c.args.self.now counts.nodes counts.items in
    let pushed = c.push_expiry.ensures in
    on_any _ (expiry_recorded c.args.reading c.args.moment c.args.event.now at.result.outcome c.args.self.now at.new.self c.args.lines.now.items _ counts.sound at.ensures.step short none
    c.requires.moment c.requires.small (λ alike. pushed.nothing c.if-push_expiry.true (differ ∙ alike)) (λ other. pushed.tick c.if-push_expiry.true (differ ∙ other))) c.hand_observed_on.result

pub returns-then-push_expiry-clause-sparing : goal.returns-then-push_expiry-clause-sparing
returns-then-push_expiry-clause-sparing g c =
    let counts = c.counts-counts.ensures in
    on_any _ (λ alike. c.push_expiry.ensures.nothing c.if-push_expiry.true (c.differs_from-differs.ensures c.args.self.now counts.nodes counts.items ∙ alike)) c.hand_observed_on.result
