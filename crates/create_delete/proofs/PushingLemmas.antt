-- What limits push out goes in order of creation.
use Rattle.std.proofs.Common.{◌≡◌, ℕ, List, [], true, false, not, Option, None}
use Rattle.std.proofs.lemmas.Bool.{cond_both}
use Rattle.m2m_names.specs.declared.types.Ty.TheVariants.{Container}
use Rattle.resource_model.specs.Resource.{ResourceData, is_ty}
use Rattle.tree_model.specs.Tree.{has, is_instance, instances_of, is_tree, DoAscend}
pub use Rattle.tree_model.proofs.ManyLemmas.{nothing_removed}
use Rattle.tree_model.proofs.ManyLemmas.{picked_ascend}
use Rattle.container_limits.specs.Limits.{evicted, kept, limits_of}
use Rattle.container_limits.specs.declared.limits.Limits.{Limits}
use Rattle.entity_model.specs.Entity.{EntityData}
pub use Rattle.entity_model.proofs.OnePassLemmas.{none_ascend}
use Rattle.create_delete.specs.Changing.{pushed_by, pushed_out}

-- the numbers of what the limits of a container push out ascend
pub evicted_ascend : (limits : Limits) (size : Option ℕ) (moment n : ℕ) (nodes : List ResourceData) → is_tree nodes ≡ true → DoAscend (evicted limits size moment (instances_of n nodes))
evicted_ascend limits size moment n nodes tree =
    picked_ascend (is_instance n) (λ r. not (has r.number (kept limits size moment (instances_of n nodes)))) nodes tree

-- a container pushes out what its limits push out, and every other resource nothing
pub by_pushing : (P : List ℕ → Type 0) (e : EntityData) (c : ResourceData) → (is_ty c.ty Container ≡ true → P (pushed_out e c None)) → (is_ty c.ty Container ≡ false → P []) → P (pushed_by e c)
by_pushing P e c = cond_both (is_ty c.ty Container) (pushed_out e c None) [] P

pub pushed_ascend : (e : EntityData) (c : ResourceData) → is_tree e.nodes ≡ true → DoAscend (pushed_by e c)
pushed_ascend e c tree =
    by_pushing DoAscend e c
    (λ t. evicted_ascend (limits_of c) None e.last c.number e.nodes tree)
    (λ f. none_ascend)
