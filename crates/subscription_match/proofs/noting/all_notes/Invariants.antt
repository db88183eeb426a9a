use Rattle.subscription_match.proofs.noting.all_notes.Given as goal

abbrev pub ghosts-notes_by : goal.ghosts-notes_by
ghosts-notes_by g a = record { name = a.blank.name; parts = a.blank.parts }
