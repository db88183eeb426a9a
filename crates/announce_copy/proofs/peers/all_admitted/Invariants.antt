use Rattle.std.proofs.Common.{◌≡◌, ◌++◌, drop, filter}
use Rattle.policy_eval.specs.Rules.{texts_of}
use Rattle.announce_copy.specs.Peers.{each_once, is_one_of, new_after}
use Rattle.announce_copy.proofs.peers.all_admitted.Given as goal

-- those so far and what is new of the rest are those of all
abbrev pub invariant-loop-value : goal.invariant-loop-value
invariant-loop-value l =
    l.peers ++ new_after l.peers (filter (is_one_of l.container) (texts_of (drop l.value-index l.values)))
    ≡ each_once (filter (is_one_of l.container) (texts_of l.values))
