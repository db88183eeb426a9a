-- Every resource of a well-formed list stands under a type that takes it.
use Rattle.std.specs.Prelude.{nat_lt}
use Rattle.std.proofs.Common.{◌≡◌, ◌<◌, List, [], ◌∷◌, ◌++◌, Bool, true, false, ◌&&◌, Option, refl, ap, ◌∙◌, arith}
use Rattle.std.proofs.lemmas.Bool.{and_parts, and_from, ltb-true, lt-ltb, ne_eqb}
use Rattle.std.proofs.lemmas.List.Folds.{list_all-append}
use Rattle.std.specs.List.{list_all}
use Rattle.std.specs.Option.{option_map_or}
use Rattle.m2m_names.specs.Types.{does_take}
use Rattle.resource_model.specs.Resource.{ResourceData, has_number}
use Rattle.tree_model.specs.Tree.{at, are_below, fits_in, is_taken, is_well_formed}
use Rattle.tree_model.proofs.GrowthLemmas.{below_parts, fits_parts, growth, next_above_parent, next_fits}
use Rattle.m2m_names.proofs.ListLemmas.{all_weaker}
use Rattle.tree_model.proofs.TreeLemmas.{at-append}
use Rattle.m2m_names.proofs.LookupLemmas.{option_or-None}

-- it is taken, and its parent has a lower number
abbrev stands_under : List ResourceData → ResourceData → Bool
stands_under nodes s = is_taken nodes s && nat_lt s.parent s.number

record StandsUnder (nodes : List ResourceData) (s : ResourceData) : Type 0 where
  taken : is_taken nodes s ≡ true
  up : s.parent < s.number

under_parts : (nodes : List ResourceData) (s : ResourceData) → stands_under nodes s ≡ true → StandsUnder nodes s
under_parts nodes s stood =
    let parts = and_parts (is_taken nodes s) (nat_lt s.parent s.number) stood in
    record { taken = parts.0; up = ltb-true s.parent s.number parts.1 }

-- a resource of a higher number than the parent changes nothing
taken_later : (nodes : List ResourceData) (r s : ResourceData) → s.parent < r.number → is_taken (nodes ++ r ∷ []) s ≡ is_taken nodes s
taken_later nodes r s below =
    let apart : has_number s.parent r ≡ false = ne_eqb r.number s.parent (λ e. omega arith) in
    ap (λ (o : Option ResourceData). option_map_or (λ p. does_take p.ty s.ty) o true) (at-append s.parent nodes (r ∷ []) ∙ rw apart (option_or-None (at s.parent nodes)))

all_stand_later : (nodes : List ResourceData) (r : ResourceData) (xs : List ResourceData) → list_all (stands_under nodes) xs ≡ true → are_below r.number xs ≡ true → list_all (stands_under (nodes ++ r ∷ [])) xs ≡ true
all_stand_later nodes r [] stood below = refl
all_stand_later nodes r (s ∷ xs) stood below =
    let each = and_parts (stands_under nodes s) _ stood in
    let lower = below_parts r.number s xs below in
    let here = under_parts nodes s each.0 in
    let up : s.parent < s.number = here.up in
    let next : s.number < r.number = lower.first in
    and_from _ _ (and_from _ _ (taken_later nodes r s (omega arith) ∙ here.taken) (lt-ltb s.parent s.number up)) (all_stand_later nodes r xs each.1 lower.rest)

all_stand : (nodes : List ResourceData) → is_well_formed nodes ≡ true → list_all (stands_under nodes) nodes ≡ true
all_stand = growth fits_in (λ nodes. list_all (stands_under nodes) nodes ≡ true) refl (λ before r grew fit stood.
    let parts = fits_parts before r fit in
    let next = next_fits before r parts.stands in
    let up : r.parent < r.number = next_above_parent before r next in
    list_all-append (stands_under (before ++ r ∷ [])) before (r ∷ [])
    ∙ and_from _ _ (all_stand_later before r before stood next.number)
    (and_from _ _ (and_from _ _ (taken_later before r r up ∙ parts.taken) (lt-ltb r.parent r.number up)) refl))

pub all_taken : (nodes : List ResourceData) → is_well_formed nodes ≡ true → list_all (is_taken nodes) nodes ≡ true
all_taken nodes well = all_weaker (stands_under nodes) (is_taken nodes) (λ r stood. (under_parts nodes r stood).taken) nodes (all_stand nodes well)
