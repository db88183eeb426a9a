use Rattle.std.proofs.Common.{◌≡◌, ◌++◌, drop, map}
use Rattle.announce_copy.specs.Copies.{AreAddressed, copy_path, deletion_at}
use Rattle.announce_copy.proofs.copying.add_deletions.Given as goal

-- those so far and those of the CSEs that are left are those of all
abbrev pub invariant-loop-peer : goal.invariant-loop-peer
invariant-loop-peer l = record {
  all : l.drafts.items ++ map (deletion_at (copy_path l.home l.resource)) (drop l.peer-index l.listed)
      ≡ l.fn.drafts.items ++ map (deletion_at (copy_path l.home l.resource)) l.listed;
  utf8 : AreAddressed l.fn.drafts.items → AreAddressed l.drafts.items;
}
