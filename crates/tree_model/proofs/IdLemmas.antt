-- The resource id of a resource names it.
use Rattle.std.proofs.Common.{◌≡◌, ℕ, ◌^◌, ◌<◌, List, true, Some, refl, ap, ◌∙◌}
use Rattle.std.proofs.lemmas.Bool.{eq-eqb}
use Rattle.std.specs.Option.{option_and_then}
use Rattle.m2m_names.specs.Types.{ty_row}
use Rattle.m2m_names.specs.declared.types.Ty.{Ty}
use Rattle.m2m_names.proofs.IdLemmas.{id_parts-id_text}
use Rattle.resource_model.specs.Resource.{ResourceData, is_ty, id_of}
use Rattle.tree_model.specs.Tree.{at, resource_of_id, typed_at}

pub resource_of_id-id_of : (nodes : List ResourceData) (r : ResourceData) → r.number < 2 ^ 63 → at r.number nodes ≡ Some r → resource_of_id (id_of r) nodes ≡ Some r
resource_of_id-id_of nodes r small found =
    let own : is_ty r.ty r.ty ≡ true = eq-eqb (ty_row r.ty).number (ty_row r.ty).number refl in
    ap (option_and_then (λ (p : Ty × ℕ). typed_at p.0 p.1 nodes)) (id_parts-id_text r.ty r.number small)
    ∙ rw (found, own) refl
