use Rattle.std.proofs.Common.{◌≡◌, ◌++◌, drop, map}
use Rattle.announce_copy.specs.Copies.{AreAddressed, creation_at, others_than}
use Rattle.announce_copy.proofs.copying.add_creations_at.Given as goal

-- those so far and those of the CSEs that are left are those of all
abbrev pub invariant-loop-peer : goal.invariant-loop-peer
invariant-loop-peer l = record {
  all : l.drafts.items ++ map (creation_at l.home l.resource) (others_than l.known (drop l.peer-index l.listed))
      ≡ l.fn.drafts.items ++ map (creation_at l.home l.resource) (others_than l.known l.listed);
  utf8 : AreAddressed l.fn.drafts.items → AreAddressed l.drafts.items;
}
