use Rattle.journal_lines.proofs.primitive.push_back.Goals as goal

pub returns-clause-sound : goal.returns-clause-sound
returns-clause-sound c = (
  c.in_ok-push_number_member.ensures.sound,
  (c.in_ok-push_expiry.ensures.sound, (c.requires.rqi, (c.in_ok-push_number_member-2.ensures.sound, tt))),
)
