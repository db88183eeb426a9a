use Rattle.resource_list.specs.Removal.{picks_of}
use Rattle.resource_list.proofs.SweepLemmas.{IsSwept}
use Rattle.resource_list.proofs.removing.sweep_out.Given as goal

abbrev pub invariant-loop-at : goal.invariant-loop-at
invariant-loop-at l = IsSwept (picks_of l.removal l.initial.resources.items) l.initial.resources.items l.resources.items l.stayed l.at
