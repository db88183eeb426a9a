use Rattle.std.proofs.Common.{◌≡◌, ◌++◌, [], take, drop}
use Rattle.subscription_match.specs.Spending.{marks_after}
use Rattle.subscription_match.proofs.SpendingLemmas.{Says}
use Rattle.subscription_match.proofs.spending.count.Given as goal

-- the rows say what is left so far; the marks so far, and those of the rest, are those of all
abbrev pub invariant-loop-draft : goal.invariant-loop-draft
invariant-loop-draft g l =
    let nodes = g.T.Tree.nodes l.tree in
    Says nodes l.left.entries (take l.draft-index l.drafts)
    × (l.marks.items ++ marks_after nodes (take l.draft-index l.drafts) (drop l.draft-index l.drafts) ≡ marks_after nodes [] l.drafts)
