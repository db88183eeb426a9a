-- Originators, and the entries of a rule that name them.
use Rattle.std.specs.Prelude.{ℕ, ◌-◌, nat_eq, Bool, ◌&&◌, ◌||◌, List, ◌++◌, length, take, codes}
use Rattle.std.specs.Prelude.{if◌then◌else◌}
use Rattle.std.specs.List.{starts_with, ends_with}
use Rattle.std.specs.Str.{bytes_eq}
use Rattle.resource_model.specs.Home.{HomeData}

-- what the full forms of this CSE's own begin with, behind `/`: its CSE-ID and `/`
abbrev pub own_lead : HomeData → List ℕ
own_lead home = home.csi ++ codes "/"

-- the full form of an originator: itself where it begins with `/`, else it stands behind own CSE-ID
-- (TS-0001, 7.2); that every AE-ID does, whatever its first letter, is a rule of this profile's own
abbrev pub full_form : HomeData → List ℕ → List ℕ
full_form home text =
    if starts_with nat_eq text (codes "/") then text else codes "/" ++ (own_lead home ++ text)

-- two texts name one originator
abbrev pub is_same : HomeData → List ℕ → List ℕ → Bool
is_same home a b = bytes_eq (full_form home a) (full_form home b)

-- what stands before the last byte
abbrev pub stem_of : List ℕ → List ℕ
stem_of text = take (length text - 1) text

-- the full form of a text stands at the front of the originator's
abbrev pub is_front : HomeData → List ℕ → List ℕ → Bool
is_front home originator text = starts_with nat_eq (full_form home originator) (full_form home text)

-- the entry ends in `*`, and what stands before it is the front of the originator's full form
abbrev pub fits_pattern : HomeData → List ℕ → List ℕ → Bool
fits_pattern home originator entry =
    ends_with nat_eq entry (codes "*") && is_front home originator (stem_of entry)

-- the entry that names everyone
abbrev pub everyone : List ℕ
everyone = codes "all"

-- an entry of `acor` names the originator (TS-0001, 9.6.2.1)
abbrev pub does_name : HomeData → List ℕ → List ℕ → Bool
does_name home originator entry =
    bytes_eq entry everyone || bytes_eq entry (codes "*")
    || is_same home originator entry || fits_pattern home originator entry
