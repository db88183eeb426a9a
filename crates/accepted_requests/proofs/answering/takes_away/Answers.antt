use Rattle.std.proofs.Common.{sym, ap, ◌∙◌}
use Rattle.primitive_json.specs.declared.request.RequestParts.{RequestParts}
use Rattle.accepted_requests.proofs.EffectLemmas.{kept_by_others, taken_by_delete}
use Rattle.accepted_requests.proofs.answering.takes_away.Goals as goal

pub returns-in-Delete : goal.returns-in-Delete
returns-in-Delete c = λ requests e.
    taken_by_delete c.args.is_own requests c.args.request.now e (sym (ap (λ (r : RequestParts). r.op) c.parts.ensures.same) ∙ c.in-Delete.is)

pub returns-in_default : goal.returns-in_default
returns-in_default c = λ requests e.
    kept_by_others c.args.is_own requests c.args.request.now e (λ is. c.in_default.not-Delete (ap (λ (r : RequestParts). r.op) c.parts.ensures.same ∙ is))
