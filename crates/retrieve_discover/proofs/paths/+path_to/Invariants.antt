use Rattle.retrieve_discover.proofs.paths.+path_to.Given as goal

-- a parent's number is smaller
abbrev pub decreases-path_to : goal.decreases-path_to
decreases-path_to g l = l.resource.now.number
