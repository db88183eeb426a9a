use Rattle.resource_store.proofs.overdue.+is_overdue.Given as goal

abbrev pub decreases-is_overdue : goal.decreases-is_overdue
decreases-is_overdue l = l.resource.now.number
