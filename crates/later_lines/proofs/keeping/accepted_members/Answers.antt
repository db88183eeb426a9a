use Rattle.std.proofs.Common.{◌≡◌, rules, sym, subst}
use Rattle.m2m_value.specs.Node.{AreSorted, HaveTextKeys}
use Rattle.later_lines.specs.Words.{accepted_members}
use Rattle.later_lines.proofs.KindLemmas.{accepted_sorted, accepted_texts}
use Rattle.later_lines.proofs.keeping.accepted_members.Goals as goal

pub sorted_object-requires-clause-sorted : goal.sorted_object-requires-clause-sorted
sorted_object-requires-clause-sorted c =
    let is : c.push_member-2.new.entries.items ≡ accepted_members c.args.entry.now = search rules in
    subst AreSorted (sym is) (accepted_sorted c.args.entry.now)

pub sorted_object-requires-clause-texts : goal.sorted_object-requires-clause-texts
sorted_object-requires-clause-texts c =
    let is : c.push_member-2.new.entries.items ≡ accepted_members c.args.entry.now = search rules in
    subst HaveTextKeys (sym is) (accepted_texts c.args.entry.now)
