use Rattle.std.proofs.Common.{Some, codes, ap, ◌∙◌}
use Rattle.filter_criteria.specs.Values.{moment_data}
use Rattle.accepted_requests.specs.Entries.{due_of}
use Rattle.accepted_requests.proofs.FormLemmas.{two_rows}
use Rattle.accepted_requests.proofs.form.push_moments.Goals as goal

pub returns : goal.returns
returns c =
    let e = c.args.entry.now in
    two_rows c.push_member-2.result (codes "ct") (codes "et") (Some c.in_ok-accepted.accepted) (Some c.in_ok-due.due) (Some (moment_data e.accepted)) (Some (moment_data (due_of e)))
    c.args.members.now.items _ _ (ap Some (c.in_ok-accepted.ensures ∙ ap moment_data c.accepted.ensures.value))
    (ap Some (c.in_ok-due.ensures ∙ ap moment_data c.due.ensures.value)) c.in_ok-push_member.ensures.ok c.push_member-2.ensures.ok
