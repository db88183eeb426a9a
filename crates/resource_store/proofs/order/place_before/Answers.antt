use Rattle.std.specs.Prelude.{nat_lt}
use Rattle.std.proofs.Common.{ℕ, rules}
use Rattle.std.proofs.lemmas.Fn.{always_returns_same}
use Rattle.std.proofs.lemmas.List.Sorted.{IsPartitionedBy-ltb}
use Rattle.std.proofs.lemmas.Map.Keys.{non_decreasing_from_sorted}
use Rattle.resource_store.proofs.StoreLemmas.{before_place}
use Rattle.resource_store.proofs.order.place_before.Goals as goal

pub returns : goal.returns
returns c =
    let numbers = c.args.order.now in
    let parted = c.partition_point.ensures.partitioned (λ (m : ℕ). nat_lt m c.args.number) (always_returns_same _ _ _ (λ a r g called. search rules)) (IsPartitionedBy-ltb (λ (m : ℕ). m) numbers c.args.number (non_decreasing_from_sorted numbers c.requires)) in
    before_place c.args.number numbers c.partition_point.result c.partition_point.ensures.bound parted
