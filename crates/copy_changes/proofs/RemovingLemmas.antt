-- A removal that is told is an operation.
use Rattle.std.proofs.Common.{◌≡◌, List, Bool, true, Some, refl, sym, ap, ◌∙◌}
use Rattle.std.proofs.lemmas.Bool.{cases_Bool}
use Rattle.std.specs.List.{list_all, list_any}
use Rattle.attribute_rules.specs.Kinds.{are_kinds}
use Rattle.resource_model.specs.Home.{HomeData}
use Rattle.resource_model.specs.Resource.{ResourceData}
use Rattle.subscription_match.specs.Spending.{nodes_spent}
use Rattle.subscription_match.specs.declared.drafts.DraftParts.{DraftParts}
use Rattle.entity_model.proofs.SoundLemmas.{all_left}
use Rattle.tree_model.proofs.KeptLemmas.{is_well_formed-without}
use Rattle.tree_model.specs.Tree.{at, is_well_formed, without}
use Rattle.copy_laws.proofs.OperationLemmas.{operation_stays}
use Rattle.copy_laws.proofs.RemovalLemmas.{removal_operates}
use Rattle.copy_laws.specs.Following.{IsKept, IsOperation, nothing, taken_with}
use Rattle.copy_changes.proofs.SpendingLemmas.{spending_quiet}

pub told_removal : (home : HomeData) (picks : ResourceData → Bool) (drafts : List DraftParts) (nodes : List ResourceData) → is_well_formed nodes ≡ true → list_all are_kinds nodes ≡ true → ((r : ResourceData) → at r.number nodes ≡ Some r → IsKept r) → IsOperation home nodes nothing (taken_with picks nodes) (nodes_spent drafts (without picks nodes))
told_removal home picks drafts nodes formed kinds kept =
    let left = without picks nodes in
    let op : IsOperation home nodes nothing (taken_with picks nodes) left = removal_operates home picks nodes formed kept in
    operation_stays home nodes left (nodes_spent drafts left)
    (spending_quiet drafts left (is_well_formed-without picks nodes formed) (all_left picks (λ ns r. are_kinds r) nodes (λ r is. is) kinds) home op.left)
    nothing (taken_with picks nodes) op
