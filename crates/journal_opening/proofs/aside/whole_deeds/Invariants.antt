use Rattle.std.proofs.Common.{◌-◌, length}
use Rattle.journal_opening.proofs.aside.whole_deeds.Given as goal

abbrev pub decreases-lines : goal.decreases-lines
decreases-lines l = length l.bytes.items - l.at
