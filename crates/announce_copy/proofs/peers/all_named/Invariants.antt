use Rattle.std.proofs.Common.{◌≡◌, ◌++◌, drop}
use Rattle.policy_eval.specs.Rules.{texts_of}
use Rattle.announce_copy.specs.Peers.{each_once, new_after}
use Rattle.announce_copy.proofs.peers.all_named.Given as goal

-- those so far and what is new of the rest are those of all
abbrev pub invariant-loop-value : goal.invariant-loop-value
invariant-loop-value l =
    l.peers ++ new_after l.peers (texts_of (drop l.value-index l.values)) ≡ each_once (texts_of l.values)
