use Rattle.std.proofs.Common.{Some, ap, ◌∙◌}
use Rattle.primitive_json.specs.declared.request.RequestParts.{RequestParts}
use Rattle.accepted_requests.specs.Entries.{LaterEntryData, begun, does_wait, finished}
use Rattle.later_opening.proofs.MakingLemmas.{result_kept}
use Rattle.later_opening.proofs.making.keep_result.Goals as goal

pub finish-requires : goal.finish-requires
finish-requires c = ap does_wait c.begin-request.ensures.begun

pub returns : goal.returns
returns c =
    let old = c.args.entry.now in
    c.finish.ensures
    ∙ ap (λ (e : LaterEntryData). finished e c.begin-request.result (Some c.args.reply)) c.begin-request.ensures.begun
    ∙ ap (λ (r : RequestParts). finished (begun old) r (Some c.args.reply)) c.begin-request.ensures.request
    ∙ result_kept old c.args.reply
