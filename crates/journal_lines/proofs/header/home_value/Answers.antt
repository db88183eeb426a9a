use Rattle.std.proofs.Common.{◌≡◌, rules, sym, subst}
use Rattle.m2m_value.specs.Node.{AreSorted, HaveTextKeys}
use Rattle.journal_lines.specs.Header.{home_members}
use Rattle.journal_lines.proofs.HeaderLemmas.{home_sorted, home_texts}
use Rattle.journal_lines.proofs.header.home_value.Goals as goal

pub sorted_object-requires-clause-sorted : goal.sorted_object-requires-clause-sorted
sorted_object-requires-clause-sorted c =
    let is : c.push_text-4.new.entries.items ≡ home_members c.args.home.now = search rules in
    subst AreSorted (sym is) (home_sorted c.args.home.now)

pub sorted_object-requires-clause-texts : goal.sorted_object-requires-clause-texts
sorted_object-requires-clause-texts c =
    let is : c.push_text-4.new.entries.items ≡ home_members c.args.home.now = search rules in
    subst HaveTextKeys (sym is) (home_texts c.args.home.now)
