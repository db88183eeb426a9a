use Rattle.std.proofs.Common.{sym, ap, ◌∙◌}
use Rattle.primitive_json.specs.declared.request.RequestParts.{RequestParts}
use Rattle.accepted_requests.specs.Entries.{finished}
use Rattle.later_replies.proofs.RunLemmas.{same_request}
use Rattle.later_replies.specs.Runs.{reply_in}
use Rattle.journaled_later.proofs.running.finish_asked.Goals as goal

pub returns-in-Ask : goal.returns-in-Ask
returns-in-Ask c = λ request came asks is.
    let old = c.args.entry.now in
    c.finish.ensures ∙ ap (finished old c.in-Ask.request) (c.reply_in.ensures came is)
    ∙ ap (λ (r : RequestParts). finished old r (reply_in came)) (same_request c.in-Ask.request request (sym c.in-Ask.is ∙ asks))
