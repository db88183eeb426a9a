use Rattle.std.proofs.Common.{sym, ◌∙◌}
use Rattle.resource_dues.proofs.DuesLemmas.{told_anew}
use Rattle.resource_dues.proofs.dues.Dues.next_due.Goals as goal

pub loop-preserved : goal.loop-preserved
loop-preserved c told =
    told_anew c.args.list.now c.loop.self c.pop.new.self c.note.new.self (c.in-Some.at, c.in-Some.number) c.due_of-due_at.result (sym c.first.ensures ∙ c.in-Some.is) c.due_of-due_at.ensures c.pop.ensures.whole c.pop.ensures.kept c.note.ensures.whole c.note.ensures.kept c.note.ensures.noted (c.loop.invariant told)
