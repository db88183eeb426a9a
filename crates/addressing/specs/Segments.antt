-- Segments by their bytes.
use Rattle.std.specs.Prelude.{ℕ, List, map}
use Rattle.addressing.specs.declared.segments.Parts.{Parts}
use Rattle.addressing.specs.declared.segments.Parts.TheVariants.{Few, Many}

-- those of few, or of many
abbrev pub parts_of : Parts → List (List ℕ)
parts_of (Few parts) = map (λ p. p.now) parts.items
parts_of (Many parts) = map (λ p. p.now) parts.items
