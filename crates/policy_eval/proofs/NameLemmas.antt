-- The resource id of a policy names it.
use Rattle.std.proofs.Common.{cond, ◌≡◌, ℕ, ◌^◌, ◌<◌, List, true, Option, Some, None, refl, ap, ◌∙◌}
use Rattle.std.specs.Option.{option_and_then}
use Rattle.m2m_names.specs.declared.types.Ty.{Ty}
use Rattle.m2m_names.specs.declared.types.Ty.TheVariants.{AccessControlPolicy}
use Rattle.m2m_names.proofs.IdLemmas.{id_parts-id_text}
use Rattle.resource_model.specs.Resource.{ResourceData, is_ty, id_of}
use Rattle.tree_model.specs.Tree.{at, of_type}
use Rattle.tree_model.proofs.IdLemmas.{resource_of_id-id_of}
use Rattle.policy_eval.specs.Rules.{policy_number, policy_named}

-- the number of an id, where it is that of a policy
abbrev if_policy : Ty × ℕ → Option ℕ
if_policy p = cond (is_ty p.0 AccessControlPolicy) (Some p.1) None

pub policy_number-id_of : (p : ResourceData) → is_ty p.ty AccessControlPolicy ≡ true → p.number < 2 ^ 63 → policy_number (id_of p) ≡ Some p.number
policy_number-id_of p is small =
    ap (option_and_then if_policy) (id_parts-id_text p.ty p.number small)
    ∙ ap (λ b. cond b (Some p.number) None) is

pub policy_named-id_of : (nodes : List ResourceData) (p : ResourceData) → is_ty p.ty AccessControlPolicy ≡ true → p.number < 2 ^ 63 → at p.number nodes ≡ Some p → policy_named nodes (id_of p) ≡ Some p
policy_named-id_of nodes p is small found =
    ap (option_and_then (of_type AccessControlPolicy)) (resource_of_id-id_of nodes p small found) ∙ rw is refl
