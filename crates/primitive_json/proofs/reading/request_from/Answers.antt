use Rattle.filter_criteria.specs.Values.{members_in}
use Rattle.m2m_value.proofs.Begins.{on_err}
use Rattle.primitive_json.proofs.KeptLemmas.{request_read, judged_told, labels_told}
use Rattle.primitive_json.proofs.reading.request_from.Goals as goal

pub returns-clause-value : goal.returns-clause-value
returns-clause-value c = request_read (members_in c.args.value) _ _ _ c.in_ok-plain.ensures.value c.taken_values-kept.ensures c.in_ok-request_with.ensures.value

pub returns-in_err-plain-clause-memory : goal.returns-in_err-plain-clause-memory
returns-in_err-plain-clause-memory c = on_err c.from_residual.result _ (judged_told (members_in c.args.value) c.in_err-plain.ensures.memory)

pub returns-in_err-request_with-clause-memory : goal.returns-in_err-request_with-clause-memory
returns-in_err-request_with-clause-memory c =
    on_err c.from_residual-in_err-request_with.result _
    (labels_told (members_in c.args.value) _ _ c.in_ok-plain.ensures.value c.taken_values-kept.ensures c.in_err-request_with.ensures.memory)
