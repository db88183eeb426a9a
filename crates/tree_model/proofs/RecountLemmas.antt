-- A subscription that is counted anew: what stands in the list, and when it is due.
use Rattle.std.proofs.Common.{◌≡◌, ℕ, List, true, false, Option, Some, None, is_some, pos, set, get_or, refl, sym, ap, ◌∙◌}
use Rattle.std.specs.Option.{option_map_or}
use Rattle.m2m_names.specs.declared.attributes.Attr.TheVariants.{Exc}
use Rattle.m2m_value.specs.Data.{number}
use Rattle.resource_model.specs.Attributes.{value_of}
use Rattle.resource_model.specs.Resource.{ResourceData}
use Rattle.tree_model.specs.Tree.{at, replaced, recounted, recounted_at, has_counter, are_quiet, is_tree, standing, StandsAt}
use Rattle.tree_model.proofs.MarkLemmas.{exc_aside, standing-marked, tree_marked, quiet_marked}
use Rattle.tree_model.proofs.TreeLemmas.{at_number}

pub standing-recounted : (left : ℕ) (r : ResourceData) → standing (recounted left r) ≡ standing r
standing-recounted left r = standing-marked Exc exc_aside (number (pos left)) r.lt r

pub recounted_is : (nodes : List ResourceData) (n left : ℕ) (r : ResourceData) → at n nodes ≡ Some r → recounted_at n left nodes ≡ replaced (recounted left r) nodes
recounted_is nodes n left r found = ap (λ (o : Option ResourceData). option_map_or (λ s. replaced (recounted left s) nodes) o nodes) found

-- it is there
pub counter_found : (n : ℕ) (nodes : List ResourceData) (o : Option ResourceData) → at n nodes ≡ o → option_map_or (λ r. is_some (value_of Exc r.attrs)) o false ≡ true → (r : ResourceData) × (at n nodes ≡ Some r) × (is_some (value_of Exc r.attrs) ≡ true)
counter_found n nodes None is has = cc
counter_found n nodes (Some r) is has = (r, is, has)

pub tree_recounted : (nodes : List ResourceData) (n left : ℕ) → is_tree nodes ≡ true → has_counter n nodes ≡ true → is_tree (recounted_at n left nodes) ≡ true
tree_recounted nodes n left tree has =
    let there = counter_found n nodes (at n nodes) refl has in
    let r : ResourceData = there.0 in
    ap is_tree (recounted_is nodes n left r there.1)
    ∙ tree_marked Exc exc_aside (number (pos left)) r.lt nodes n r there.1 tree

pub quiet-recounted : (nodes : List ResourceData) (n left until : ℕ) → is_tree nodes ≡ true → has_counter n nodes ≡ true → are_quiet until nodes ≡ true → are_quiet until (recounted_at n left nodes) ≡ true
quiet-recounted nodes n left until tree has quiet =
    let there = counter_found n nodes (at n nodes) refl has in
    let r : ResourceData = there.0 in
    ap (are_quiet until) (recounted_is nodes n left r there.1)
    ∙ quiet_marked Exc exc_aside (number (pos left)) r.lt nodes n r there.1 tree until quiet

-- a write at the place of the number
pub counted_at : (n left : ℕ) (nodes : List ResourceData) (i : ℕ) (d : ResourceData) → StandsAt n nodes i → set nodes i (recounted left (get_or nodes i d)) ≡ recounted_at n left nodes
counted_at n left nodes i d place =
    let found : at n nodes ≡ Some (get_or nodes i d) = place.found d in
    sym (ap (λ (o : Option ResourceData). option_map_or (λ s. replaced (recounted left s) nodes) o nodes) found ∙ place.written (recounted left (get_or nodes i d)) (at_number n nodes (get_or nodes i d) found))
