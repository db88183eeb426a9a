use Rattle.std.proofs.Common.{◌≡◌, drop, map}
use Rattle.std.specs.List.{list_any}
use Rattle.refusal_reasons.specs.Facts.{is_apart}
use Rattle.refusal_reasons.proofs.facts.has_apart.Given as goal

-- one of those that are left is apart exactly where one of all is
abbrev pub invariant-loop-part : goal.invariant-loop-part
invariant-loop-part l =
    list_any is_apart (map (λ p. p.now) (drop l.part-index l.parts)) ≡ list_any is_apart (map (λ p. p.now) l.parts)
