-- A resource that is stamped anew: what stands in the list, and when it is due.
use Rattle.std.proofs.Common.{◌≡◌, ℕ, List, true, false, Option, Some, None, is_some, pos, set, get_or, refl, sym, ap, ◌∙◌}
use Rattle.std.specs.Option.{option_map_or}
use Rattle.m2m_names.specs.declared.attributes.Attr.TheVariants.{St}
use Rattle.m2m_value.specs.Data.{number}
use Rattle.resource_model.specs.Attributes.{value_of}
use Rattle.resource_model.specs.Resource.{ResourceData}
use Rattle.tree_model.specs.Tree.{at, replaced, restamped, restamped_at, has_state, are_quiet, is_tree, standing, StandsAt}
use Rattle.tree_model.proofs.MarkLemmas.{st_aside, standing-marked, tree_marked, quiet_marked}
use Rattle.tree_model.proofs.TreeLemmas.{at_number}

pub standing-restamped : (lt st : ℕ) (r : ResourceData) → standing (restamped lt st r) ≡ standing r
standing-restamped lt st r = standing-marked St st_aside (number (pos st)) lt r

pub restamped_is : (nodes : List ResourceData) (n lt st : ℕ) (r : ResourceData) → is_tree nodes ≡ true → at n nodes ≡ Some r → restamped_at n lt st nodes ≡ replaced (restamped lt st r) nodes
restamped_is nodes n lt st r tree found = ap (λ (o : Option ResourceData). option_map_or (λ s. replaced (restamped lt st s) nodes) o nodes) found

-- it is there
pub state_found : (n : ℕ) (nodes : List ResourceData) (o : Option ResourceData) → at n nodes ≡ o → option_map_or (λ r. is_some (value_of St r.attrs)) o false ≡ true → (r : ResourceData) × (at n nodes ≡ Some r) × (is_some (value_of St r.attrs) ≡ true)
state_found n nodes None is has = cc
state_found n nodes (Some r) is has = (r, is, has)

pub tree_restamped : (nodes : List ResourceData) (n lt st : ℕ) → is_tree nodes ≡ true → has_state n nodes ≡ true → is_tree (restamped_at n lt st nodes) ≡ true
tree_restamped nodes n lt st tree has =
    let there = state_found n nodes (at n nodes) refl has in
    ap is_tree (restamped_is nodes n lt st there.0 tree there.1)
    ∙ tree_marked St st_aside (number (pos st)) lt nodes n there.0 there.1 tree

pub quiet-restamped : (nodes : List ResourceData) (n lt st until : ℕ) → is_tree nodes ≡ true → has_state n nodes ≡ true → are_quiet until nodes ≡ true → are_quiet until (restamped_at n lt st nodes) ≡ true
quiet-restamped nodes n lt st until tree has quiet =
    let there = state_found n nodes (at n nodes) refl has in
    ap (are_quiet until) (restamped_is nodes n lt st there.0 tree there.1)
    ∙ quiet_marked St st_aside (number (pos st)) lt nodes n there.0 there.1 tree until quiet

-- a write at the place of the number
pub stamped_at : (n lt st : ℕ) (nodes : List ResourceData) (i : ℕ) (d : ResourceData) → StandsAt n nodes i → set nodes i (restamped lt st (get_or nodes i d)) ≡ restamped_at n lt st nodes
stamped_at n lt st nodes i d place =
    let found : at n nodes ≡ Some (get_or nodes i d) = place.found d in
    sym (ap (λ (o : Option ResourceData). option_map_or (λ s. replaced (restamped lt st s) nodes) o nodes) found ∙ place.written (restamped lt st (get_or nodes i d)) (at_number n nodes (get_or nodes i d) found))
