-- The short form of an originator (TS-0001, 7.2).
use Rattle.std.specs.Prelude.{ℕ, nat_eq, nat_lt, Bool, ◌&&◌, ◌||◌, ◌==◌, List, codes, drop, length}
use Rattle.std.specs.Prelude.{if◌then◌else◌, Option, Some, None, option_and_then, unwrap_or}
use Rattle.std.specs.List.{starts_with}
use Rattle.m2m_names.specs.Name.{is_originator}
use Rattle.resource_model.specs.Home.{HomeData}

-- what stands behind a front, where the text has it
abbrev pub behind : List ℕ → List ℕ → Option (List ℕ)
behind front text =
    if starts_with nat_eq text front then Some (drop (length front) text) else None

-- what stands behind `//` and own provider
abbrev pub behind_provider : HomeData → List ℕ → Option (List ℕ)
behind_provider home text = option_and_then (behind home.sp) (behind (codes "//") text)

-- what stands behind own CSE-ID, which begins with `/`, and `/`
abbrev pub behind_cse : HomeData → List ℕ → Option (List ℕ)
behind_cse home text =
    option_and_then (behind (codes "/"))
    (option_and_then (behind home.csi) (behind (codes "/") text))

-- `/` or the end follows
abbrev pub ends_part : List ℕ → Bool
ends_part rest = length rest == 0 || starts_with nat_eq rest (codes "/")

-- a leading `//` own provider is dropped where `/` or the end follows it
abbrev pub chosen : Option (List ℕ) → List ℕ → List ℕ
chosen None text = text
chosen (Some rest) text = if ends_part rest then rest else text

abbrev pub without_provider : HomeData → List ℕ → List ℕ
without_provider home text = chosen (behind_provider home text) text

-- a leading own CSE-ID and `/` is dropped
abbrev pub without_cse : HomeData → List ℕ → List ℕ
without_cse home text = unwrap_or (behind_cse home text) text

-- both, in this order
abbrev pub shortened : HomeData → List ℕ → List ℕ
shortened home text = without_cse home (without_provider home text)

-- the short form of an originator: none where nothing is left, or the text is no originator
abbrev pub short_of : HomeData → List ℕ → Option (List ℕ)
short_of home text =
    if is_originator text && nat_lt 0 (length (shortened home text))
    then Some (shortened home text) else None
