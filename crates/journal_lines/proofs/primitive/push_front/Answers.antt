use Rattle.journal_lines.proofs.PrimitiveLemmas.{text_sound}
use Rattle.journal_lines.proofs.primitive.push_front.Goals as goal

pub returns-clause-sound : goal.returns-clause-sound
returns-clause-sound c = (
  c.in_ok-push_number_member.ensures.sound,
  (text_sound c.args.request.now.fr c.requires.fr, (c.in_ok-push_operation.ensures.sound, (c.in_ok-push_content.ensures.sound, tt))),
)
