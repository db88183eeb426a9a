use Rattle.std.proofs.Common.{◌≡◌, ◌++◌, ◌≤◌, take, drop, length}
use Rattle.std.specs.Str.{IsUtf8}
use Rattle.tree_model.specs.Tree.{children_of}
use Rattle.addressing.specs.Names.{structured_of}
use Rattle.known_rights.specs.Known.{IsKnown}
use Rattle.retrieve_discover.specs.Contents.{may_retrieve, reference}
use Rattle.retrieve_discover.specs.Findings.{most_listed}
use Rattle.retrieve_discover.proofs.WalkLemmas.{kept}
use Rattle.retrieve_discover.proofs.references.all_references.Given as goal

-- the references so far and those to the children that are left are all, up to the limit
abbrev pub invariant-loop-k : goal.invariant-loop-k
invariant-loop-k g l =
    let nodes = g.T.Tree.nodes l.look.tree.now in
    let keep = kept (reference l.look.by_id nodes) (may_retrieve l.look.asker.now.home nodes l.look.asker.now.originator) in
    let kids = children_of l.target.number nodes in
    record {
      told : take most_listed (l.references.items ++ keep (drop l.k kids)) ≡ take most_listed (keep kids);
      room : length l.references.items ≤ most_listed;
      path : l.path.items ≡ structured_of l.target.number nodes;
      utf8 : IsUtf8 l.path.items;
      known : IsKnown l.look.asker.now.home nodes l.look.asker.now.originator l.known;
    }
