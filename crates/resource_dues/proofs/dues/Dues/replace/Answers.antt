use Rattle.resource_dues.proofs.DuesLemmas.{dues-replaced}
use Rattle.resource_dues.proofs.dues.Dues.replace.Goals as goal

pub returns-then-not-is_full : goal.returns-then-not-is_full
returns-then-not-is_full c =
    dues-replaced c.args.list.now c.args.resource.now c.args.self.now c.note.new.self c.number.result c.due.result c.requires.tree c.requires.stood (c.is_as_patient.ensures c.if-is_as_patient.true) c.requires.dues c.note.ensures.whole c.note.ensures.kept c.number.ensures.value c.due.ensures c.note.ensures.noted
