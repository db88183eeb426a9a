-- What queues and sums tell of a list of resources.
use Rattle.std.specs.Prelude.{◌≡◌, ◌+◌, ℕ, List, Bool, filter, if◌then◌else◌}
use Rattle.std.specs.Prelude.{Option, Some, None, nat_eq}
use Rattle.std.specs.HashMap.{HashMap, get}
use Rattle.std.specs.Option.{option_map_or}
use Rattle.m2m_names.specs.declared.types.Ty.TheVariants.{ContentInstance, PollingChannel}
use Rattle.m2m_names.specs.declared.types.Ty.TheVariants.{Subscription}
use Rattle.resource_model.specs.Resource.{ResourceData}
use Rattle.tree_model.specs.Tree.{is_kin, is_under, numbers_of}
use Rattle.tree_model.specs.Tree.{sizes_of}
use Rattle.resource_tree.specs.declared.kin.Kin.{Kin}
use Rattle.resource_tree.specs.Queue.{queue_at}

-- each parent has the numbers of those that a test picks for it, in order of creation
abbrev pub HasNumbers : {S : Type 0} → (ℕ → ResourceData → Bool) → List ResourceData
    → HashMap ℕ (List ℕ) S → Type 0
HasNumbers picks nodes m =
    (parent : ℕ) → queue_at m parent ≡ numbers_of (filter (picks parent) nodes)

-- where a container has a sum, it is that of the sizes of its instances
abbrev pub HasSums : {S : Type 0} → List ResourceData → HashMap ℕ ℕ S → Type 0
HasSums nodes m =
    (container sum : ℕ) → get nat_eq m container ≡ Some sum → sum ≡ sizes_of container nodes

-- the sum with one more size; the first instance begins one
abbrev pub grown_sum : Bool → ℕ → Option ℕ → Option ℕ
grown_sum is_first size sum =
    option_map_or (λ (s : ℕ). Some (s + size)) sum (if is_first then Some size else None)

-- the queues of three types are those of the list
pub record HasTypes (nodes : List ResourceData) (kin : Kin) : Type 0 where
  pub instances : HasNumbers (is_kin ContentInstance) nodes kin.instances
  pub subs : HasNumbers (is_kin Subscription) nodes kin.subs
  pub channels : HasNumbers (is_kin PollingChannel) nodes kin.channels

-- so are those of all children, and the sums
pub record HasKin (nodes : List ResourceData) (kin : Kin) : Type 0 where
  pub children : HasNumbers is_under nodes kin.children
  pub types : HasTypes nodes kin
  pub sums : HasSums nodes kin.sums
