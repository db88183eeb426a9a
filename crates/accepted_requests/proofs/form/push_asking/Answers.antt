use Rattle.std.proofs.Common.{Some, codes, ap, ◌∙◌}
use Rattle.m2m_names.specs.Operations.{op_row}
use Rattle.m2m_value.specs.Data.{number, text}
use Rattle.primitive_json.specs.declared.request.RequestParts.{RequestParts}
use Rattle.accepted_requests.proofs.FormLemmas.{two_rows}
use Rattle.accepted_requests.proofs.form.push_asking.Goals as goal

pub returns : goal.returns
returns c =
    let e = c.args.entry.now in
    two_rows c.push_member-2.result (codes "op") (codes "org") (Some c.op_value-op.result) (Some c.in_ok-originator.originator) (Some (number (op_row e.request.op).number)) (Some (text e.originator))
    c.args.members.now.items _ _
    (ap Some (c.op_value-op.ensures ∙ ap (λ (r : RequestParts). number (op_row r.op).number) (c.parts.ensures.same ∙ c.request.ensures)))
    (ap Some (c.in_ok-originator.ensures ∙ ap text c.originator.ensures.value)) c.in_ok-push_member.ensures.ok c.push_member-2.ensures.ok
