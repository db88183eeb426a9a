use Rattle.std.proofs.Common.{◌≡◌, ◌+◌, ◌≤◌, ◌++◌, ◌||◌, ◌&&◌, filter, length}
use Rattle.std.specs.List.{filter_map, list_any}
use Rattle.tree_model.specs.Changes.{change_of}
use Rattle.subscription_match.specs.Matching.{does_hear_under, is_sub_of_either, own_of}
use Rattle.subscription_match.specs.Notices.{told}
use Rattle.subscription_match.proofs.noting.add_told.Given as goal

-- what was told so far and what those are told that are left are what all are told, one of all hears
-- where one did so far or one does that is left, as far as that is sought, and each that was taken has cost one step
abbrev pub invariant-subs : goal.invariant-subs
invariant-subs g l =
    let nodes = g.T.Tree.nodes l.tree in
    let all = filter (is_sub_of_either (own_of (change_of l.change)) l.fn.above) nodes in
    (l.drafts.items ++ filter_map (told l.home nodes l.going (change_of l.change)) l.subs
    ≡ l.fn.drafts.items ++ filter_map (told l.home nodes l.going (change_of l.change)) all)
    × ((l.hears || (l.is_sought && list_any (does_hear_under l.going l.fn.above) l.subs)) ≡ (l.is_sought && list_any (does_hear_under l.going l.fn.above) all))
    × (l.fn.steps ≤ l.steps)
    × (l.steps + length l.subs ≤ l.fn.steps + length all + 2)

abbrev pub decreases-subs : goal.decreases-subs
decreases-subs g l = length l.subs
