use Rattle.std.proofs.Common.{◌≡◌, ◌+◌, ◌≤◌, ◌++◌}
use Rattle.subscription_match.specs.Matching.{AreHeard, steps_of_all}
use Rattle.subscription_match.specs.Notices.{notes_of_all}
use Rattle.subscription_match.proofs.noting.counted_notes.Given as goal

-- what was told so far and what is told of the changes that are left are what is told of all, and
-- so it is with the steps
abbrev pub invariant-loop-change : goal.invariant-loop-change
invariant-loop-change g l =
    let nodes = g.T.Tree.nodes l.tree in
    (l.drafts.items ++ notes_of_all l.home nodes l.going l.change-iterator
    ≡ notes_of_all l.home nodes l.going l.fn.changes)
    × AreHeard l.going nodes l.heard.entries
    × (l.fn.steps ≤ l.steps)
    × (l.steps + steps_of_all nodes l.change-iterator ≤ l.fn.steps + steps_of_all nodes l.fn.changes)
