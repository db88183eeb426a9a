use Rattle.std.proofs.Common.{◌≡◌, ◌++◌, drop, map, IsUtf8}
use Rattle.std.specs.List.{AllByRecursion}
use Rattle.policy_eval.specs.Rules.{texts_of}
use Rattle.group_fanout.specs.Fan.{with_rest}
use Rattle.group_fanout.proofs.members.listed_addresses.Given as goal

-- the addresses so far, and those of the members that are left, are all
abbrev pub invariant-loop-member : goal.invariant-loop-member
invariant-loop-member l = record {
  all : l.addresses.items ++ map (with_rest l.rest) (texts_of (drop l.member-index l.members)) ≡ map (with_rest l.rest) (texts_of l.members);
  utf8 : AllByRecursion IsUtf8 l.addresses.items;
}
