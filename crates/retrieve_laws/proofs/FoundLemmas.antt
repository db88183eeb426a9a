-- Each resource of a list in order is found by its number.
use Rattle.retrieve_laws.proofs.Words.{◌≡◌, ◌<◌, List, [], ◌∷◌, Bool, true, false, Some, refl, arith, AllByRecursion, filter}
use Rattle.retrieve_laws.proofs.Terms.{ResourceData, has_number, at}
use Rattle.retrieve_laws.proofs.Facts.{cond_both, eq-eqb, ne_eqb, in_order, first_of}
use Rattle.tree_model.proofs.OrderLemmas.{above_parts, are_above}

abbrev pub Each : (ResourceData → Type 0) → List ResourceData → Type 0
Each P nodes = AllByRecursion P nodes

abbrev pub IsFound : List ResourceData → ResourceData → Type 0
IsFound nodes r = at r.number nodes ≡ Some r

found_later : (r : ResourceData) (later some : List ResourceData) → are_above r.number some ≡ true → Each (IsFound later) some → Each (IsFound (r ∷ later)) some
found_later r later [] above each = tt
found_later r later (s ∷ some) above each =
    let parts = above_parts r.number s some above in
    let less : r.number < s.number = parts.first in
    let apart : has_number s.number r ≡ false = ne_eqb r.number s.number (λ e. omega (arith, less, e)) in
    let here : at s.number (r ∷ later) ≡ Some s = rw apart each.0 in
    (here, found_later r later some parts.rest each.1)

pub each_found : (nodes : List ResourceData) → in_order nodes ≡ true → Each (IsFound nodes) nodes
each_found [] order = tt
each_found (r ∷ later) order =
    let first = first_of r later order in
    let here : at r.number (r ∷ later) ≡ Some r = rw (eq-eqb r.number r.number refl) refl in
    (here, found_later r later later first.above (each_found later first.rest))

-- what holds of each holds of each that a filter leaves, and those pass it
pub each-filter : (P : ResourceData → Type 0) (p : ResourceData → Bool) (nodes : List ResourceData) → Each P nodes → Each (λ r. P r × (p r ≡ true)) (filter p nodes)
each-filter P p [] each = tt
each-filter P p (r ∷ nodes) each =
    cond_both (p r) (r ∷ filter p nodes) (filter p nodes) (Each (λ r. P r × (p r ≡ true))) (λ t. ((each.0, t), each-filter P p nodes each.1)) (λ f. each-filter P p nodes each.1)
