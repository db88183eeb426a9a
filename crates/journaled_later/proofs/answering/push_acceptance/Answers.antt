use Rattle.std.proofs.Common.{◌≡◌, length, arith}
use Rattle.journal_lines.specs.Lines.{lines_of}
use Rattle.journal_lines.specs.declared.deed.Deed.TheVariants.{Tick}
use Rattle.journaled_later.proofs.AnswerLemmas.{acceptance_put, cut_back}
use Rattle.journaled_later.proofs.answering.push_acceptance.Goals as goal

pub returns-then-push_entry-clause-put : goal.returns-then-push_entry-clause-put
returns-then-push_entry-clause-put g c = λ put.
    let at = c.last_moment-moment in
    acceptance_put c.args.entity.now c.args.entry.now at.result c.args.lines.now.items c.push_moment.new.lines.items c.push_entry.new.lines.items at.ensures.value at.ensures.small at.ensures.sound
    (c.push_moment.ensures.put c.if-not-push_moment.false) (c.push_entry.ensures.put c.if-push_entry.true)

-- what was put for the moment is cut away
pub returns-clause-stays : goal.returns-clause-stays
returns-clause-stays g c = λ none.
    let old = c.args.lines.now in
    let size : length old.items ≡ c.len-len.result = omega (arith, c.len-len.ensures, old.ok.0) in
    cut_back old.items c.push_moment.new.lines.items c.push_entry.new.lines.items c.truncate.new.self.items (lines_of c.last_moment-moment.result Tick) c.len-len.result size
    (c.push_moment.ensures.put c.if-not-push_moment.false) (c.push_entry.ensures.stays c.if-push_entry.false) c.truncate.ensures.items
