use Rattle.std.proofs.Common.{◌≡◌, [], drop}
use Rattle.resource_lines.specs.Read.{rows_with}
use Rattle.resource_lines.proofs.reading.attrs_with.Given as goal

-- the rows so far and those of the rest are those of all
abbrev pub invariant-loop-member : goal.invariant-loop-member
invariant-loop-member l = rows_with l.attrs (drop l.member-index l.members) ≡ rows_with [] l.members
