use Rattle.std.proofs.Common.{refl, sym, subst}
use Rattle.journal_opening.specs.Journals.{made_of}
use Rattle.journal_opening.specs.Snapshots.{KeepsMaking}
use Rattle.later_opening.specs.Making.{later_of, made_of_acts}
use Rattle.later_opening.specs.Opening.{IsRefusedLater, OpensLaterAs}
use Rattle.later_opening.specs.Snapshots.{KeepsMakingLater}
use Rattle.later_replies.specs.Entries.{opened}
use Rattle.journal_snapshot.proofs.ShortenLemmas.{counts_played, counts_refused, leaves_making, leaves_making_plain, on_snapshot, on_snapshot_plain, opened_makes, opened_plain, refused_for, stays_making}
use Rattle.journal_snapshot.proofs.shortening.shorten.Goals as goal

-- ---- its journal was played

pub returns-in-Ok-clause-leaves : goal.returns-in-Ok-clause-leaves
returns-in-Ok-clause-leaves g c = λ told base acts text journal keeps.
    let p = c.in-Ok.played in
    let d = later_of p.entity p.requests in
    let opens = subst (λ b. OpensLaterAs c.args.home b p.len d) (sym (c.requires.same told)) (c.in-Ok.ensures.opens (c.requires.tells told)) in
    let is = opened_makes c.args.home base acts text (g.N.KeptName.seen c.args.name.now) p.len d journal keeps opens in
    on_snapshot (g.N.KeptName.may_leave c.put_snapshot.new.name) d (made_of_acts acts base) c.put_snapshot.result is.0 (c.put_snapshot.ensures.leaves told)

pub returns-in-Ok-clause-leaves_plain : goal.returns-in-Ok-clause-leaves_plain
returns-in-Ok-clause-leaves_plain g c = λ told base deeds text journal keeps.
    let p = c.in-Ok.played in
    let d = later_of p.entity p.requests in
    let opens = subst (λ b. OpensLaterAs c.args.home b p.len d) (sym (c.requires.same told)) (c.in-Ok.ensures.opens (c.requires.tells told)) in
    let is = opened_plain c.args.home base deeds text (g.N.KeptName.seen c.args.name.now) p.len d journal keeps opens in
    on_snapshot_plain (g.N.KeptName.may_leave c.put_snapshot.new.name) d (made_of deeds base) c.put_snapshot.result is.0 (c.put_snapshot.ensures.leaves told)

pub returns-in-Ok-clause-any_moment : goal.returns-in-Ok-clause-any_moment
returns-in-Ok-clause-any_moment g c = λ told base acts text journal keeps.
    let N = g.N.KeptName in
    let p = c.in-Ok.played in
    let d = later_of p.entity p.requests in
    let opens = subst (λ b. OpensLaterAs c.args.home b p.len d) (sym (c.requires.same told)) (c.in-Ok.ensures.opens (c.requires.tells told)) in
    let is = opened_makes c.args.home base acts text (N.seen c.args.name.now) p.len d journal keeps opens in
    leaves_making N.seen N.may_leave N.moment N.left_since c.args.name.now c.put_snapshot.new.name c.args.home base acts text d journal keeps is.0 is.1
    (c.put_snapshot.ensures.any_moment told)

pub returns-in-Ok-clause-any_moment_plain : goal.returns-in-Ok-clause-any_moment_plain
returns-in-Ok-clause-any_moment_plain g c = λ told base deeds text journal keeps.
    let N = g.N.KeptName in
    let p = c.in-Ok.played in
    let d = later_of p.entity p.requests in
    let opens = subst (λ b. OpensLaterAs c.args.home b p.len d) (sym (c.requires.same told)) (c.in-Ok.ensures.opens (c.requires.tells told)) in
    let is = opened_plain c.args.home base deeds text (N.seen c.args.name.now) p.len d journal keeps opens in
    leaves_making_plain N.seen N.may_leave N.moment N.left_since c.args.name.now c.put_snapshot.new.name c.args.home base deeds text d journal keeps is.0 is.1
    (c.put_snapshot.ensures.any_moment told)

pub returns-in-Ok-clause-refused : goal.returns-in-Ok-clause-refused
returns-in-Ok-clause-refused g c = λ told.
    let p = c.in-Ok.played in
    let d = later_of p.entity p.requests in
    let opens = subst (λ b. OpensLaterAs c.args.home b p.len d) (sym (c.requires.same told)) (c.in-Ok.ensures.opens (c.requires.tells told)) in
    refused_for c.args.home (g.N.KeptName.seen c.args.name.now) p.len d c.put_snapshot.result opens c.put_snapshot.ensures.fault

pub returns-in-Ok-clause-faults : goal.returns-in-Ok-clause-faults
returns-in-Ok-clause-faults g c =
    counts_played c.play_later_file.result c.put_snapshot.result c.in-Ok.played (later_of c.in-Ok.played.entity c.in-Ok.played.requests) _ _ c.in-Ok.is c.put_snapshot.ensures.fault
    c.play_later_file.ensures.faults

-- ---- it was refused

pub returns-in-Err-clause-any_moment : goal.returns-in-Err-clause-any_moment
returns-in-Err-clause-any_moment g c = λ told base acts text journal keeps.
    let N = g.N.KeptName in
    stays_making N.seen N.may_leave N.moment N.left_since c.args.name.now (g.met.N.KeptName.only_now told) (c.requires.named told)
    (KeepsMakingLater c.args.home (made_of_acts acts base))
    (record { text = text; makes = record { base = base; acts = acts; journal = journal; made = refl }; keeps = keeps })

pub returns-in-Err-clause-any_moment_plain : goal.returns-in-Err-clause-any_moment_plain
returns-in-Err-clause-any_moment_plain g c = λ told base deeds text journal keeps.
    let N = g.N.KeptName in
    stays_making N.seen N.may_leave N.moment N.left_since c.args.name.now (g.met.N.KeptName.only_now told) (c.requires.named told)
    (KeepsMaking c.args.home (made_of deeds base))
    (record { text = text; makes = record { base = base; deeds = deeds; journal = journal; made = refl }; keeps = keeps })

pub returns-in-Err-clause-refused : goal.returns-in-Err-clause-refused
returns-in-Err-clause-refused g c = λ told.
    subst (λ b. IsRefusedLater c.args.home b c.in-Err.fault) (sym (c.requires.same told)) (c.in-Err.ensures.refused (c.requires.tells told))

pub returns-in-Err-clause-faults : goal.returns-in-Err-clause-faults
returns-in-Err-clause-faults g c = counts_refused c.play_later_file.result _ c.in-Err.fault _ _ c.in-Err.is refl c.play_later_file.ensures.faults
