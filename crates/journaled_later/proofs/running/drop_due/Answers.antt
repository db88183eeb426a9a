use Rattle.std.proofs.Common.{sym, ap, ◌∙◌, subst}
use Rattle.std.specs.List.{list_all}
use Rattle.accepted_requests.specs.Entries.{LaterRequestsData, still_stands}
use Rattle.later_opening.specs.Making.{later_of}
use Rattle.journaled_later.proofs.RecordLemmas.{due_recorded, records_none}
use Rattle.journaled_later.proofs.RunLemmas.{nothing_goes}
use Rattle.journaled_later.specs.Keeping.{KeepsLater}
use Rattle.journaled_later.specs.Recorded.{RecordsLater}
use Rattle.journaled_later.proofs.running.drop_due.Goals as goal

pub returns-then-is_none_due-clause-gone : goal.returns-then-is_none_due-clause-gone
returns-then-is_none_due-clause-gone c =
    let all = c.is_none_due.ensures ∙ ap (list_all (still_stands c.args.moment)) c.deref.ensures.value
    ∙ ap (λ (q : LaterRequestsData). list_all (still_stands c.args.moment) q.entries) c.requests.view_is in
    nothing_goes c.args.moment c.args.requests.now (sym all ∙ c.if-is_none_due.true)

pub returns-then-is_none_due-clause-records : goal.returns-then-is_none_due-clause-records
returns-then-is_none_due-clause-records c = λ inner. records_none KeepsLater (later_of inner c.args.requests.now) c.args.lines.now.items

pub returns-in-Ok-clause-records : goal.returns-in-Ok-clause-records
returns-in-Ok-clause-records c = λ inner.
    let lines = c.args.lines.now.items in
    let now = c.push_due.new.text.items in
    subst (λ (q : LaterRequestsData). RecordsLater inner c.args.requests.now lines inner q now) (sym c.drop_due.ensures)
    (due_recorded inner c.args.requests.now c.args.moment lines now c.in-Ok.ensures.reads_back c.in-Ok.ensures.written)
