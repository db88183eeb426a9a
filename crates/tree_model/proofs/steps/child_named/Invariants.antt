use Rattle.tree_model.proofs.steps.child_named.Given as goal

abbrev pub ghosts-child_by : goal.ghosts-child_by
ghosts-child_by g a = record { name = a.blank.name; parts = a.blank.parts }
