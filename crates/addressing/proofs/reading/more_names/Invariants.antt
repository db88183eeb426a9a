use Rattle.std.proofs.Common.{◌≡◌, ◌++◌, ◌+◌, true, length, map}
use Rattle.std.specs.Option.{option_map, option_map_or}
use Rattle.addressing.specs.Addresses.{are_names, parts_left, between_slashes}
use Rattle.addressing.proofs.reading.more_names.Given as goal

-- the names so far and the parts of what is left are those of all
abbrev pub invariant-loop-left : goal.invariant-loop-left
invariant-loop-left l =
    (map (λ t. t.now) l.names.items ++ parts_left (option_map (λ t. t.now) l.left) ≡ map (λ n. n.now) l.front ++ between_slashes l.fn.text)
    × (are_names (map (λ t. t.now) l.names.items) ≡ true)

abbrev pub decreases-loop-left : goal.decreases-loop-left
decreases-loop-left l = option_map_or (λ t. length t.now + 1) l.left 0
