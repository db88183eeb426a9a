use Rattle.std.proofs.Common.{get_or, inl, inr, refl, ap, ◌∙◌, take}
use Rattle.accepted_requests.specs.Entries.{LaterRequestsData}
use Rattle.journaled_later.proofs.AnswerLemmas.{accepted_written, last_there, nothing_written, taken_back}
use Rattle.journaled_later.proofs.answering.write_accepted.Goals as goal

-- it was written down
pub returns-then-push_acceptance : goal.returns-then-push_acceptance
returns-then-push_acceptance g c = λ standing more given count.
    let after = c.args.requests.now in
    let entry = c.index.result.now in
    let view = ap (λ (q : LaterRequestsData). get_or q.entries c.args.stood.count entry) c.requests.view_is in
    let last = c.index.ensures ∙ view ∙ last_there standing after more c.args.stood.count entry count in (
      inl (refl, refl),
      accepted_written c.args.entity.now standing after entry c.args.lines.now.items c.push_acceptance.new.lines.items more last (c.push_acceptance.ensures.put c.if-push_acceptance.true),
    )

-- it is taken back
pub returns : goal.returns
returns g c = λ standing more given count.
    let after = c.args.requests.now in
    let back : LaterRequestsData = record { entries = c.truncate.new.self.items; given = c.args.stood.given } in
    let view = ap (λ (q : LaterRequestsData). take c.args.stood.count q.entries) c.requests.view_is in
    let entries = c.truncate.ensures.items ∙ view ∙ ap (λ n. take n after.entries) count in
    let same = taken_back standing after back more entries given in (
      inr (refl, same),
      nothing_written c.args.entity.now standing back c.args.lines.now.items c.push_acceptance.new.lines.items same (c.push_acceptance.ensures.stays c.if-push_acceptance.false),
    )
