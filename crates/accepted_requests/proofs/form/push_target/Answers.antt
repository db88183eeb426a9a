use Rattle.std.proofs.Common.{Some, codes, ap, ◌∙◌}
use Rattle.m2m_value.specs.Data.{text}
use Rattle.filter_criteria.specs.Values.{count_data}
use Rattle.primitive_json.specs.declared.request.RequestParts.{RequestParts}
use Rattle.accepted_requests.specs.Form.{request_type}
use Rattle.accepted_requests.proofs.FormLemmas.{two_rows}
use Rattle.accepted_requests.proofs.form.push_target.Goals as goal

pub returns : goal.returns
returns c =
    let e = c.args.entry.now in
    two_rows c.push_member-2.result (codes "tg") (codes "ty") (Some c.in_ok-target.target) (Some c.of_num.result) (Some (text e.request.to)) (Some (count_data request_type))
    c.args.members.now.items _ _
    (ap Some (c.in_ok-target.ensures ∙ ap (λ (r : RequestParts). text r.to) (c.parts.ensures.same ∙ c.request.ensures)))
    (ap Some c.of_num.ensures) c.in_ok-push_member.ensures.ok c.push_member-2.ensures.ok
