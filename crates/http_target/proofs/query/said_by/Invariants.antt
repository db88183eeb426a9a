use Rattle.std.proofs.Common.{◌≡◌, drop}
use Rattle.http_target.specs.Said.{said_by}
use Rattle.http_target.specs.Queries.{nothing_said}
use Rattle.http_target.proofs.query.said_by.Given as goal

-- what all pairs say is what those that are left say behind what was said
abbrev pub invariant-loop-pair : goal.invariant-loop-pair
invariant-loop-pair l = said_by l.op l.pairs nothing_said ≡ said_by l.op (drop l.pair-index l.pairs) l.query
