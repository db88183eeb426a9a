use Rattle.std.proofs.Common.{◌≡◌, ◌++◌, drop, map}
use Rattle.addressing.proofs.PartLemmas.{parts_from}
use Rattle.addressing.proofs.addr.with_slashes.Given as goal

-- what is written and what is left are all
abbrev pub invariant-loop-place : goal.invariant-loop-place
invariant-loop-place l =
    l.text.items ++ parts_from (map (λ t. t.now) (drop l.place l.parts)) l.place
    ≡ parts_from (map (λ t. t.now) l.parts) 0
