use Rattle.std.proofs.Common.{length}
use Rattle.tree_model.proofs.listing.+first_there.Given as goal

abbrev pub decreases-first_there : goal.decreases-first_there
decreases-first_there g l = length l.numbers.now
