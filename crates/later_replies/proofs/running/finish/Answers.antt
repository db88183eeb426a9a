use Rattle.std.proofs.Common.{sym, ap, ◌∙◌}
use Rattle.primitive_json.specs.declared.request.RequestParts.{RequestParts}
use Rattle.accepted_requests.specs.Entries.{finished}
use Rattle.later_replies.specs.Runs.{reply_in}
use Rattle.later_replies.proofs.RunLemmas.{asks_nothing, same_request}
use Rattle.later_replies.proofs.running.finish.Goals as goal

pub returns-in-Ask : goal.returns-in-Ask
returns-in-Ask c = λ request asks.
    let old = c.args.entry.now in
    c.finish.ensures ∙ ap (finished old c.in-Ask.request) c.reply_in.ensures
    ∙ ap (λ (r : RequestParts). finished old r (reply_in c.args.outcome)) (same_request c.in-Ask.request request (sym c.in-Ask.is ∙ asks))

pub returns-in-Take : goal.returns-in-Take
returns-in-Take c = λ request asks. asks_nothing _ c.args.event request c.in-Take.is asks
