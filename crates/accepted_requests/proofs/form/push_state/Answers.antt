use Rattle.std.proofs.Common.{Option, Some, codes, ap, ◌∙◌}
use Rattle.m2m_value.specs.Data.{text}
use Rattle.filter_criteria.specs.Values.{count_data}
use Rattle.primitive_json.specs.declared.reply.ReplyParts.{ReplyParts}
use Rattle.primitive_json.specs.declared.request.RequestParts.{RequestParts}
use Rattle.accepted_requests.specs.Form.{state_of}
use Rattle.accepted_requests.proofs.FormLemmas.{two_rows}
use Rattle.accepted_requests.proofs.form.push_state.Goals as goal

pub returns : goal.returns
returns c =
    let e = c.args.entry.now in
    two_rows c.push_member-2.result (codes "rid") (codes "rs") (Some c.in_ok-id.id) (Some c.state_value-state.result) (Some (text e.request.rqi)) (Some (count_data (state_of e.reply)))
    c.args.members.now.items _ _
    (ap Some (c.in_ok-id.ensures ∙ ap (λ (r : RequestParts). text r.rqi) (c.parts.ensures.same ∙ c.request.ensures)))
    (ap Some (c.state_value-state.ensures ∙ ap (λ (r : Option ReplyParts). count_data (state_of r)) c.reply.ensures))
    c.in_ok-push_member.ensures.ok c.push_member-2.ensures.ok
