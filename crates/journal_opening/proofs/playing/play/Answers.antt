use Rattle.journal_opening.proofs.JournalLemmas.{deed_makes}
use Rattle.journal_opening.proofs.playing.play.Goals as goal

pub returns : goal.returns
returns g c =
    deed_makes c.args.dated.moment c.args.dated.deed c.event_of-event.result c.args.entity.now c.step.new.entity c.step.result
    c.event_of-event.ensures c.step.ensures c.in_default.not-Starved
