use Rattle.made_input.specs.Making.{Makes}
use Rattle.made_input.specs.Requests.{IsMaker, made_inputs}
use Rattle.made_input.proofs.making.take_made.Given as goal

abbrev pub invariant-loop-i : goal.invariant-loop-i
invariant-loop-i g l = Makes (made_inputs l.i) l.fn.entity l.entity l.tally × IsMaker l.maker
