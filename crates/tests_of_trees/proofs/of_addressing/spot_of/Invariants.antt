use Rattle.tests_of_trees.proofs.of_addressing.spot_of.Given as goal

abbrev pub ghosts-spot_by : goal.ghosts-spot_by
ghosts-spot_by a = record { name = a.blank.name; parts = a.blank.parts }
