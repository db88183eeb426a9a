use Rattle.std.proofs.Common.{refl, ap, ◌∙◌}
use Rattle.http.specs.StatusCode.{reason_phrase}
use Rattle.http_frames.proofs.TextLemmas.{phrase_there, phrase_not_there}
use Rattle.http_frames.proofs.write.phrase_of.Goals as goal

pub returns-in-Ok : goal.returns-in-Ok
returns-in-Ok c =
    phrase_there c.args.status c.canonical_reason.result _ c.unwrap_or.result c.in-Ok.ensures.0
    (c.canonical_reason.ensures.value ∙ ap reason_phrase c.in-Ok.ensures.1) refl c.unwrap_or.ensures

pub returns-in-Err : goal.returns-in-Err
returns-in-Err c = phrase_not_there c.args.status c.in-Err.ensures
