-- The segments of an address of this CSE, by the parts of its text alone.
use Rattle.std.specs.Prelude.{ℕ, nat_eq, List, [], ◌∷◌, drop, codes, bytes_eq, if◌then◌else◌}
use Rattle.std.specs.Prelude.{Option, Some, None, option_and_then}
use Rattle.std.specs.List.{starts_with}
use Rattle.resource_model.specs.Home.{HomeData}
use Rattle.addressing.specs.Addresses.{between_slashes, cut_at}

-- what stands under own CSE-ID, where the first of the parts is that
abbrev pub own_parts : HomeData → List (List ℕ) → Option (List (List ℕ))
own_parts home [] = None
own_parts home (csi ∷ segments) = if bytes_eq csi home.csi then Some segments else None

-- what stands under own provider and CSE-ID
abbrev pub provided_parts : HomeData → List ℕ × List ℕ → Option (List (List ℕ))
provided_parts home cut =
    if bytes_eq cut.0 home.sp then own_parts home (between_slashes cut.1) else None

-- the segments, where the text is of this CSE if it is an address at all
abbrev pub parts_here : HomeData → List ℕ → Option (List (List ℕ))
parts_here home text =
    if starts_with nat_eq text (codes "//")
    then option_and_then (provided_parts home) (cut_at (drop 2 text)) else
    if starts_with nat_eq text (codes "/") then own_parts home (between_slashes (drop 1 text)) else
    Some (between_slashes text)
