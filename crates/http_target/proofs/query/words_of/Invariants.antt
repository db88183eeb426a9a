use Rattle.std.proofs.Common.{◌≡◌, ◌++◌, ◌==◌, length}
use Rattle.std.specs.List.{slice_split}
use Rattle.http_target.proofs.query.words_of.Given as goal

-- the words so far, and those of what is left
abbrev pub invariant-loop-next : goal.invariant-loop-next
invariant-loop-next l = l.words.items ++ slice_split (λ b. b == 32) l.rest ≡ slice_split (λ b. b == 32) l.text

abbrev pub decreases-loop-next : goal.decreases-loop-next
decreases-loop-next l = length l.rest
