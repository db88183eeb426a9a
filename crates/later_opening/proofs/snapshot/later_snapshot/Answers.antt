use Rattle.std.proofs.Common.{rules, sym, ap, subst}
use Rattle.entity_model.specs.Entity.{EntityData}
use Rattle.later_opening.proofs.SnapshotLemmas.{snapshot_of_words}
use Rattle.later_opening.specs.Snapshots.{CanBeKeptAt}
use Rattle.later_opening.proofs.snapshot.later_snapshot.Goals as goal

pub returns-clause-snapshot : goal.returns-clause-snapshot
returns-clause-snapshot g c =
    let e = c.args.entity.now in
    snapshot_of_words e c.args.requests.now c.in_ok-text.text.items c.push_requests.new.text.items _ c.in_ok-text.ensures.spells
    (c.in_ok-push_requests.ensures.put e (ap (λ (d : EntityData). d.last) (sym c.entity.view_is))) c.in_ok-push_requests.ensures.lines (search rules)

pub returns-in_err-text-clause-unkept : goal.returns-in_err-text-clause-unkept
returns-in_err-text-clause-unkept g c = λ fault has. c.in_err-text.ensures.unkept (search rules) has.inner

pub returns-in_err-push_requests-clause-unkept : goal.returns-in_err-push_requests-clause-unkept
returns-in_err-push_requests-clause-unkept g c = λ fault has.
    c.in_err-push_requests.ensures.unkept (search rules)
    (subst (λ (m : _). CanBeKeptAt m c.args.requests.now) (ap (λ (d : EntityData). d.last) (sym c.entity.view_is)) has.requests)
