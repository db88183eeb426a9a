use Rattle.addressing.proofs.resolving.name_segments.Given as goal

abbrev pub ghosts-named : goal.ghosts-named
ghosts-named g a = record { name = a.blank.name; parts = a.blank.parts }
