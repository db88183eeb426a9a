use Rattle.std.proofs.Common.{◌≡◌, ℕ, List, ◌||◌, drop}
use Rattle.retrieve_discover.specs.Asked.{has_text, is_one_of}
use Rattle.retrieve_discover.proofs.asked.label_set.Given as goal

-- the labels in the set and those that are left are all
abbrev pub invariant-loop-label : goal.invariant-loop-label
invariant-loop-label l =
    (text : List ℕ) → (has_text l.set text || is_one_of (drop l.label-index l.labels) text) ≡ is_one_of l.labels text
