use Rattle.std.proofs.Common.{◌∙◌}
use Rattle.later_opening.specs.Making.{later_of}
use Rattle.journaled_later.proofs.OpenLemmas.{leaves_opened, opens_at, settles, stays_opened}
use Rattle.journaled_later.proofs.opening.open_later.Goals as goal

-- its journal is ready
pub new-object-requires : goal.new-object-requires
new-object-requires g c =
    let K = g.F.KeptFile in
    let played = c.in-Ok in
    record {
      ready = λ told fresh.
          settles K.seen K.may_leave c.args.home (K.seen c.args.file) c.play_later_back.new.file played.played.len (later_of played.played.entity played.played.requests) c.new-journal.result
          c.new-journal.ensures.file c.new-journal.ensures.len (played.ensures.opens told) (played.ensures.ready told) (played.ensures.kept told);
    }

pub returns-in-Ok-clause-opens : goal.returns-in-Ok-clause-opens
returns-in-Ok-clause-opens g c =
    let K = g.F.KeptFile in
    let played = c.in-Ok in
    opens_at K.tells K.seen K.may_leave c.args.home c.args.file c.play_later_back.new.file played.played.len (later_of played.played.entity played.played.requests) c.new-journal.result c.new-object.result
    c.new-journal.ensures.file c.new-journal.ensures.len c.new-journal.ensures.fresh (c.new-object.ensures.object ∙ c.new-cse.ensures) c.new-object.ensures.journal c.new-object.ensures.pending
    played.ensures.opens played.ensures.ready played.ensures.kept

pub returns-in-Ok-clause-any_moment : goal.returns-in-Ok-clause-any_moment
returns-in-Ok-clause-any_moment g c = λ told base acts text journal keeps.
    let K = g.F.KeptFile in
    leaves_opened K.moment K.left_since text c.args.file c.play_later_back.new.file c.new-journal.result c.new-object.result
    c.new-journal.ensures.file c.new-object.ensures.journal (c.play_later_back.ensures.any_moment told base acts text journal keeps)

pub returns-in-Ok-clause-journal : goal.returns-in-Ok-clause-journal
returns-in-Ok-clause-journal g c = λ told base acts text journal keeps.
    c.new-object.ensures.object ∙ c.new-cse.ensures ∙ (c.in-Ok.ensures.journal told base acts text journal keeps).1

pub returns-in-Ok-clause-others : goal.returns-in-Ok-clause-others
returns-in-Ok-clause-others g c = λ told fault other refused.
    let K = g.F.KeptFile in
    stays_opened K.seen K.may_leave K.moment K.left_since c.args.file c.play_later_back.new.file c.new-journal.result c.new-object.result
    c.new-journal.ensures.file c.new-object.ensures.journal (c.play_later_back.ensures.others told fault other refused)
