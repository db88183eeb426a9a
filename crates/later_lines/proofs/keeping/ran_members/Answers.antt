use Rattle.std.proofs.Common.{◌≡◌, rules, sym, subst}
use Rattle.m2m_value.specs.Node.{AreSorted, HaveTextKeys}
use Rattle.later_lines.specs.Words.{ran_members}
use Rattle.later_lines.proofs.KindLemmas.{ran_sorted, ran_texts}
use Rattle.later_lines.proofs.keeping.ran_members.Goals as goal

pub sorted_object-requires-clause-sorted : goal.sorted_object-requires-clause-sorted
sorted_object-requires-clause-sorted c =
    let is : c.push_member.new.entries.items ≡ ran_members c.args.number c.args.reply.now = search rules in
    subst AreSorted (sym is) (ran_sorted c.args.number c.args.reply.now)

pub sorted_object-requires-clause-texts : goal.sorted_object-requires-clause-texts
sorted_object-requires-clause-texts c =
    let is : c.push_member.new.entries.items ≡ ran_members c.args.number c.args.reply.now = search rules in
    subst HaveTextKeys (sym is) (ran_texts c.args.number c.args.reply.now)
