-- The instances of a container are within its limits.
use Rattle.std.proofs.Common.{◌≡◌, ℕ, List, length, Bool, true, not, ◌&&◌, ◌||◌, sym, ap, ◌∙◌}
use Rattle.m2m_names.specs.declared.types.Ty.TheVariants.{Container}
use Rattle.resource_model.specs.Resource.{ResourceData, is_ty}
use Rattle.tree_model.specs.Tree.{instances_of, sizes_of}
use Rattle.container_limits.specs.Limits.{is_within, limits_of}
use Rattle.container_limits.specs.declared.limits.Limits.{Limits}
use Rattle.entity_model.specs.Sound.{is_within_limits}

-- where the count is within, all depends on the sizes
pub limits_by_sizes : (nodes : List ResourceData) (r : ResourceData) (n count sizes : ℕ) (limits : Limits) → is_ty r.ty Container ≡ true → n ≡ r.number → limits ≡ limits_of r → count ≡ length (instances_of n nodes) → sizes ≡ sizes_of n nodes → is_within count limits.mni ≡ true → is_within sizes limits.mbs ≡ is_within_limits nodes r
limits_by_sizes nodes r n count sizes limits kind own are counted summed few =
    let first : is_within (length (instances_of r.number nodes)) (limits_of r).mni ≡ true =
    sym (ap (λ k. is_within k limits.mni) counted ∙ ap (λ (l : Limits). is_within (length (instances_of n nodes)) l.mni) are ∙ ap (λ m. is_within (length (instances_of m nodes)) (limits_of r).mni) own) ∙ few in
    let last : is_within sizes limits.mbs ≡ is_within (sizes_of r.number nodes) (limits_of r).mbs =
    ap (λ k. is_within k limits.mbs) summed ∙ ap (λ (l : Limits). is_within (sizes_of n nodes) l.mbs) are ∙ ap (λ m. is_within (sizes_of m nodes) (limits_of r).mbs) own in
    last
    ∙ sym (ap (λ b. not b || (is_within (length (instances_of r.number nodes)) (limits_of r).mni && is_within (sizes_of r.number nodes) (limits_of r).mbs)) kind
    ∙ ap (λ b. b && is_within (sizes_of r.number nodes) (limits_of r).mbs) first)
