-- Structured addresses, name by name.
use Rattle.std.proofs.Common.{◌≡◌, ℕ, ◌<◌, List, [], ◌∷◌, ◌++◌, map, reverse, Some, None, sym, ap, ◌∙◌, true, codes, arith}
use Rattle.std.proofs.lemmas.List.{reverse-append}
use Rattle.resource_model.specs.Resource.{ResourceData}
use Rattle.tree_model.specs.Tree.{at, has, is_tree, line_of}
use Rattle.tree_model.proofs.GrowthLemmas.{stands}
use Rattle.tree_model.proofs.TreeLemmas.{at_number, has_at}
use Rattle.std.proofs.lemmas.Str.{IsUtf8-append}
use Rattle.std.specs.Str.{IsUtf8}
use Rattle.tree_model.proofs.ShownLemmas.{slash_utf8}
use Rattle.addressing.proofs.NameLemmas.{line_ends}
use Rattle.addressing.proofs.PartLemmas.{joined_after}
use Rattle.addressing.specs.Addresses.{joined}
use Rattle.addressing.specs.Names.{names_to, structured_of}

names_grown : (nodes : List ResourceData) (n : ℕ) (r : ResourceData) → is_tree nodes ≡ true → at n nodes ≡ Some r → names_to n nodes ≡ names_to r.parent nodes ++ r.name ∷ []
names_grown nodes n r tree found =
    ap (λ (line : List ResourceData). reverse (map (λ (s : ResourceData). s.name) line)) (stands nodes tree n r found).line
    ∙ reverse-append (r.name ∷ []) (map (λ (s : ResourceData). s.name) (line_of r.parent nodes))

-- the address of a child is that of its parent, a slash, and its name
pub structured-child : (nodes : List ResourceData) (r p : ResourceData) → is_tree nodes ≡ true → at r.number nodes ≡ Some r → at r.parent nodes ≡ Some p → structured_of r.number nodes ≡ structured_of r.parent nodes ++ 47 ∷ r.name
structured-child nodes r p tree found above =
    let up = names_grown nodes r.parent p tree above in
    ap joined (names_grown nodes r.number r tree found ∙ ap (λ (ns : List (List ℕ)). ns ++ r.name ∷ []) up)
    ∙ joined_after (names_to p.parent nodes) p.name r.name
    ∙ ap (λ (ns : List (List ℕ)). joined ns ++ 47 ∷ r.name) (sym up)

-- that of a resource without a parent is its name
pub structured-root : (nodes : List ResourceData) (r : ResourceData) → is_tree nodes ≡ true → at r.number nodes ≡ Some r → at r.parent nodes ≡ None → structured_of r.number nodes ≡ r.name
structured-root nodes r tree found none =
    ap joined (names_grown nodes r.number r tree found ∙ ap (λ (line : List ResourceData). reverse (map (λ (s : ResourceData). s.name) line) ++ r.name ∷ []) (line_ends nodes tree r.parent none))

-- a text stays UTF-8 with a slash and a name
pub down_utf8 : (path name : List ℕ) → IsUtf8 path → IsUtf8 name → IsUtf8 (path ++ 47 ∷ name)
down_utf8 path name above own = IsUtf8-append path (47 ∷ name) above (IsUtf8-append (codes "/") name slash_utf8 own)

-- what is found at a number is found at its own
pub found_itself : (nodes : List ResourceData) (n : ℕ) (r : ResourceData) → at n nodes ≡ Some r → at r.number nodes ≡ Some r
found_itself nodes n r found = ap (λ k. at k nodes) (at_number n nodes r found) ∙ found

-- a path that goes down from a parent to its child
pub path_child : (nodes : List ResourceData) (r p : ResourceData) (path more : List ℕ) → is_tree nodes ≡ true → at r.number nodes ≡ Some r → at r.parent nodes ≡ Some p → path ≡ structured_of p.number nodes → more ≡ path ++ 47 ∷ r.name → more ≡ structured_of r.number nodes
path_child nodes r p path more tree found above is grew =
    grew
    ∙ ap (λ (t : List ℕ). t ++ 47 ∷ r.name) (is ∙ ap (λ n. structured_of n nodes) (at_number r.parent nodes p above))
    ∙ sym (structured-child nodes r p tree found above)

-- a parent's number is the smaller
pub parent_smaller : (nodes : List ResourceData) (r p : ResourceData) → is_tree nodes ≡ true → at r.number nodes ≡ Some r → at r.parent nodes ≡ Some p → p.number < r.number
parent_smaller nodes r p tree found above =
    let up : r.parent < r.number = (stands nodes tree r.number r found).above in
    let same : p.number ≡ r.parent = at_number r.parent nodes p above in
    omega (arith, up, same)

-- a path that goes down to a child
pub path_down : (nodes : List ResourceData) (r : ResourceData) (path more : List ℕ) → is_tree nodes ≡ true → at r.number nodes ≡ Some r → has r.parent nodes ≡ true → path ≡ structured_of r.parent nodes → more ≡ path ++ 47 ∷ r.name → more ≡ structured_of r.number nodes
path_down nodes r path more tree found parent is grew =
    let above = has_at r.parent nodes parent in
    grew ∙ ap (λ (t : List ℕ). t ++ 47 ∷ r.name) is ∙ sym (structured-child nodes r above.0 tree found above.1)

-- a parent's number is the smaller one
pub above_child : (nodes : List ResourceData) (r : ResourceData) → is_tree nodes ≡ true → at r.number nodes ≡ Some r → r.parent < r.number
above_child nodes r tree found = (stands nodes tree r.number r found).above
