use Rattle.std.proofs.Common.{◌≡◌, IsUtf8}
use Rattle.std.specs.List.{AllByRecursion}
use Rattle.std.specs.Vec.Iter.{into_iter_items}
use Rattle.group_fanout.specs.Rights.{claimed_originator}
use Rattle.group_fanout.proofs.FanLemmas.{IsAskedSoFar}
use Rattle.group_fanout.proofs.fanning.ask_all.Given as goal

-- so many are done, and those that the iterator has are left
abbrev pub invariant-loop-address : goal.invariant-loop-address
invariant-loop-address g l = record {
  so : IsAskedSoFar l.fn.entity l.request l.fn.addresses.items (into_iter_items l.address-iterator) l.done l.entity l.replies.items;
  texts : AllByRecursion IsUtf8 (into_iter_items l.address-iterator);
  claimed : claimed_originator l.entity.home l.request ≡ l.originator;
}
