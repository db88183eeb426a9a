use Rattle.std.proofs.Common.{length, ◌-◌}
use Rattle.command_words.proofs.options.option_fault.Given as goal

abbrev pub decreases-loop-place : goal.decreases-loop-place
decreases-loop-place l = length l.words - l.place
