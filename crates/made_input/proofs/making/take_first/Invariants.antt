use Rattle.std.proofs.Common.{take}
use Rattle.made_input.specs.Making.{Makes}
use Rattle.made_input.specs.Requests.{IsMaker, first_inputs}
use Rattle.made_input.proofs.making.take_first.Given as goal

abbrev pub invariant-loop-place : goal.invariant-loop-place
invariant-loop-place g l = Makes (take l.place first_inputs) l.fn.entity l.entity l.uncounted × IsMaker l.maker
