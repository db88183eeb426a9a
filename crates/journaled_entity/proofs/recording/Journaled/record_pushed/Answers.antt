use Rattle.std.proofs.Common.{◌≡◌, ℕ, Bool, List, ap, subst, ◌∙◌}
use Rattle.std.specs.Prelude.{IfSome, false}
use Rattle.entity_model.specs.Entity.{swept}
use Rattle.journal_events.specs.declared.event.KeptOutcome.{KeptOutcome}
use Rattle.kept_object.specs.Records.{Records}
use Rattle.journaled_entity.specs.Changes.{differs, machine_may_change}
use Rattle.journaled_entity.specs.Keeping.{KeepsEntity}
use Rattle.journaled_entity.specs.Written.{pushed}
use Rattle.journaled_entity.proofs.KeepLemmas.{on_some}
use Rattle.journaled_entity.proofs.recording.Journaled.record_pushed.Goals as goal

-- it has lines of its own
pub returns-then-has_own-clause-records : goal.returns-then-has_own-clause-records
returns-then-has_own-clause-records g c = λ front size is.
    c.record_own.ensures.records front size (is ∙ ap (λ (b : Bool). pushed b front c.args.moment c.args.event.now) c.if-has_own.true)

pub returns-then-has_own-clause-sparing : goal.returns-then-has_own-clause-sparing
returns-then-has_own-clause-sparing g c = λ front size is.
    c.record_own.ensures.sparing front size (is ∙ ap (λ (b : Bool). pushed b front c.args.moment c.args.event.now) c.if-has_own.true)

-- it has none
pub returns-else-has_own-clause-records : goal.returns-else-has_own-clause-records
returns-else-has_own-clause-records g c = λ front size is.
    let same = is ∙ ap (λ (b : Bool). pushed b front c.args.moment c.args.event.now) c.if-has_own.false in
    let left = c.record_expiry.new in
    let P : List ℕ → Type 0 = λ l. IfSome c.record_expiry.result (λ (o : KeptOutcome). Records KeepsEntity c.args.self.now l left.self left.lines.items) in
    subst P same c.record_expiry.ensures.records

pub returns-else-has_own-clause-sparing : goal.returns-else-has_own-clause-sparing
returns-else-has_own-clause-sparing g c = λ front size is.
    let same = is ∙ ap (λ (b : Bool). pushed b front c.args.moment c.args.event.now) c.if-has_own.false in
    let left = c.record_expiry.new in
    on_some (λ (o : KeptOutcome). differs c.args.self.now left.self ≡ false → left.lines.items ≡ c.args.lines.now.items)
    (λ (o : KeptOutcome). machine_may_change (swept c.args.reading c.args.self.now) c.args.event.now o left.self ≡ false → differs c.args.self.now left.self ≡ false → left.lines.items ≡ front)
    (λ o spared none alike. spared alike ∙ same) c.record_expiry.result c.record_expiry.ensures.sparing
