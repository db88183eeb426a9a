use Rattle.std.proofs.Common.{◌≡◌, ◌<◌, length, refl, ap, arith}
use Rattle.accepted_requests.specs.Entries.{LaterRequestsData}
use Rattle.later_replies.specs.Step.{asked_effect}
use Rattle.journaled_later.proofs.AnswerLemmas.{as_many, changes, gone_written, nothing_written, some_less, some_more, told_then}
use Rattle.journaled_later.proofs.answering.write_change.Goals as goal

-- one was accepted
pub returns-then-stood-many : goal.returns-then-stood-many
returns-then-stood-many g c = λ home moment request told standing stood answered.
    let after = c.args.requests.now in
    let left = c.write_accepted.new.requests in
    let view : length c.requests.inside.entries.items ≡ length after.entries = ap (λ (q : LaterRequestsData). length q.entries) c.requests.view_is in
    let changed = changes home standing after moment request told c.args.outcome answered in
    let many : length standing.entries < length after.entries = omega (arith, view, c.len-many.ensures, c.requests.inside.entries.ok.0, stood.count, c.if-stood-many.true) in
    let more = some_more home request told standing after changed many in
    let written = c.write_accepted.ensures standing more stood.given stood.count in
    (told_then (asked_effect home standing moment request told) standing after left told c.args.outcome c.write_accepted.result more answered written.0, written.1)

-- there are as many
pub returns-then-many-stood : goal.returns-then-many-stood
returns-then-many-stood g c = λ home moment request told standing stood answered.
    let after = c.args.requests.now in
    let lines = c.args.lines.now.items in
    let view : length c.requests.inside.entries.items ≡ length after.entries = ap (λ (q : LaterRequestsData). length q.entries) c.requests.view_is in
    let changed = changes home standing after moment request told c.args.outcome answered in
    let same : length after.entries ≡ length standing.entries = omega (arith, view, c.len-many.ensures, c.requests.inside.entries.ok.0, stood.count, c.if-many-stood.true) in
    (answered, nothing_written c.args.entity.now standing after lines lines (as_many home request told standing after changed same) refl)

-- one went
pub returns : goal.returns
returns g c = λ home moment request told standing stood answered.
    let after = c.args.requests.now in
    let view : length c.requests.inside.entries.items ≡ length after.entries = ap (λ (q : LaterRequestsData). length q.entries) c.requests.view_is in
    let changed = changes home standing after moment request told c.args.outcome answered in
    let few : length after.entries < length standing.entries = omega (arith, view, c.len-many.ensures, c.requests.inside.entries.ok.0, stood.count, c.if-stood-many.false, c.if-many-stood.false) in
    let less = some_less home request told standing after changed few in
    (answered, gone_written home request told c.args.entity.now standing after c.args.stood.named c.args.lines.now.items c.write_gone.new.lines.items less (stood.named less.heard) c.in_ok-write_gone.ensures)
