use Rattle.std.proofs.Common.{◌≡◌, ◌++◌, map, length}
use Rattle.form_urlencoded.specs.Form.{raw_pairs}
use Rattle.form_urlencoded.specs.Parse.{raw_pairs_left}
use Rattle.http_target.specs.Queries.{decoded_pair}
use Rattle.http_target.proofs.query.decoded_pairs.Given as goal

-- the pairs so far, and those that are left
abbrev pub invariant-loop-pair : goal.invariant-loop-pair
invariant-loop-pair l =
    l.pairs.items ++ map decoded_pair (raw_pairs_left l.left) ≡ map decoded_pair (raw_pairs l.query)

abbrev pub decreases-loop-pair : goal.decreases-loop-pair
decreases-loop-pair l = length (raw_pairs_left l.left)
