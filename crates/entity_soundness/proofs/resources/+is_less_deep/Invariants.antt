use Rattle.entity_soundness.proofs.resources.+is_less_deep.Given as goal

abbrev pub decreases-is_less_deep : goal.decreases-is_less_deep
decreases-is_less_deep g l = l.bound
