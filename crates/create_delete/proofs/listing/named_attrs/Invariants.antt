use Rattle.std.proofs.Common.{◌≡◌, ◌++◌, drop}
use Rattle.create_delete.specs.Changes.{attrs_of}
use Rattle.create_delete.proofs.listing.named_attrs.Given as goal

-- what was found so far, and then that of the rest, is that of all
abbrev pub invariant-loop-name : goal.invariant-loop-name
invariant-loop-name l = l.attrs.items ++ attrs_of (drop l.name-index l.name-items) ≡ attrs_of l.name-items
