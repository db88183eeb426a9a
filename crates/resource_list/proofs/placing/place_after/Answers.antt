use Rattle.std.specs.Prelude.{nat_le}
use Rattle.std.proofs.Common.{rules}
use Rattle.std.proofs.lemmas.Fn.{always_returns_same}
use Rattle.std.proofs.lemmas.List.Sorted.{IsPartitionedBy-leb}
use Rattle.resource_model.specs.Resource.{ResourceData}
use Rattle.resource_list.proofs.AfterLemmas.{after_place, never_less}
use Rattle.resource_list.proofs.placing.place_after.Goals as goal

pub returns-clause-value : goal.returns-clause-value
returns-clause-value c =
    let nodes = c.args.resources.now in
    let parted = c.partition_point.ensures.partitioned (λ (r : ResourceData). nat_le r.number c.args.number) (always_returns_same _ _ _ (λ a r g called. search rules)) (IsPartitionedBy-leb (λ (r : ResourceData). r.number) nodes c.args.number (never_less nodes c.requires)) in
    after_place c.args.number nodes c.partition_point.result c.partition_point.ensures.bound parted
