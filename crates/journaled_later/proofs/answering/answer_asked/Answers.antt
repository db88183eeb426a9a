use Rattle.std.proofs.Common.{◌≡◌, length, ap, arith}
use Rattle.accepted_requests.specs.Entries.{LaterRequestsData}
use Rattle.journaled_later.proofs.answering.answer_asked.Goals as goal

pub returns-clause-stood : goal.returns-clause-stood
returns-clause-stood c = λ home says.
    let view : length c.requests.inside.entries.items ≡ length c.args.requests.now.entries = ap (λ (q : LaterRequestsData). length q.entries) c.requests.view_is in
    record {
      given = ap (λ (q : LaterRequestsData). q.given) c.requests.view_is;
      count = omega (arith, view, c.len.ensures, c.requests.inside.entries.ok.0);
      named = λ heard. (says heard).number;
    }

pub returns-clause-answered : goal.returns-clause-answered
returns-clause-answered c = λ home says. c.answer-outcome.ensures home says
