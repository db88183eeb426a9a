use Rattle.std.proofs.Common.{◌≡◌, rules, sym, subst}
use Rattle.m2m_value.specs.Node.{AreSorted, HaveTextKeys}
use Rattle.journal_lines.specs.Header.{header_members}
use Rattle.journal_lines.proofs.HeaderLemmas.{header_sorted, header_texts}
use Rattle.journal_lines.proofs.header.header_value.Goals as goal

pub sorted_object-requires-clause-sorted : goal.sorted_object-requires-clause-sorted
sorted_object-requires-clause-sorted c =
    let is : c.push_member-3.new.entries.items ≡ header_members c.args.home.now c.args.opened = search rules in
    subst AreSorted (sym is) (header_sorted c.args.home.now c.args.opened)

pub sorted_object-requires-clause-texts : goal.sorted_object-requires-clause-texts
sorted_object-requires-clause-texts c =
    let is : c.push_member-3.new.entries.items ≡ header_members c.args.home.now c.args.opened = search rules in
    subst HaveTextKeys (sym is) (header_texts c.args.home.now c.args.opened)
