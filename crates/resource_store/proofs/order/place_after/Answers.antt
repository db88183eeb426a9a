use Rattle.std.specs.Prelude.{nat_le}
use Rattle.std.proofs.Common.{ℕ, rules}
use Rattle.std.proofs.lemmas.Fn.{always_returns_same}
use Rattle.std.proofs.lemmas.List.Sorted.{IsPartitionedBy-leb}
use Rattle.std.proofs.lemmas.Map.Keys.{non_decreasing_from_sorted}
use Rattle.resource_store.proofs.StoreLemmas.{behind_place}
use Rattle.resource_store.proofs.order.place_after.Goals as goal

pub returns-clause-value : goal.returns-clause-value
returns-clause-value c =
    let numbers = c.args.order.now in
    let parted = c.partition_point.ensures.partitioned (λ (m : ℕ). nat_le m c.args.number) (always_returns_same _ _ _ (λ a r g called. search rules)) (IsPartitionedBy-leb (λ (m : ℕ). m) numbers c.args.number (non_decreasing_from_sorted numbers c.requires)) in
    behind_place c.args.number numbers c.partition_point.result c.partition_point.ensures.bound parted
