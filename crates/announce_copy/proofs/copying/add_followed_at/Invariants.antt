use Rattle.std.proofs.Common.{◌≡◌, ◌++◌, drop}
use Rattle.std.specs.List.{filter_map}
use Rattle.announce_copy.specs.Copies.{AreAddressed, followed_at}
use Rattle.announce_copy.proofs.copying.add_followed_at.Given as goal

-- those so far and those of the CSEs that are left are those of all
abbrev pub invariant-loop-peer : goal.invariant-loop-peer
invariant-loop-peer l = record {
  all : l.drafts.items ++ filter_map (followed_at l.path l.renews l.after l.resource) (drop l.peer-index l.listed)
      ≡ l.fn.drafts.items ++ filter_map (followed_at l.path l.renews l.after l.resource) l.listed;
  utf8 : AreAddressed l.fn.drafts.items → AreAddressed l.drafts.items;
}
