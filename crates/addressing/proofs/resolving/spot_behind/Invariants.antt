use Rattle.std.proofs.Common.{◌≡◌, ◌+◌, ◌*◌, ◌≤◌, drop, map}
use Rattle.addressing.specs.Names.{spot_from}
use Rattle.addressing.proofs.resolving.spot_behind.Given as goal

-- what is left says from here what all say, and each name has cost one child at most
abbrev pub invariant-loop-place : goal.invariant-loop-place
invariant-loop-place g l =
    (spot_from (l.place + 1) l.at (map (λ n. n.now) (drop l.place l.names)) (g.T.Tree.nodes l.tree)
    ≡ spot_from 1 l.number (map (λ n. n.now) l.names) (g.T.Tree.nodes l.tree))
    × (l.fn.steps ≤ l.steps)
    × (l.steps ≤ l.fn.steps + g.T.Tree.child_steps * l.place)
