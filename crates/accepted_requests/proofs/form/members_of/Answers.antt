use Rattle.accepted_requests.proofs.FormLemmas.{all_rows, asking_rows, moment_rows, reply_rows, state_rows, target_rows}
use Rattle.accepted_requests.proofs.form.members_of.Goals as goal

pub returns : goal.returns
returns c =
    let e = c.args.entry.now in
    all_rows (moment_rows e) (asking_rows e) (reply_rows e) (state_rows e) (target_rows e) _ _ _ _ _ _
    c.in_ok-members.ensures.items c.in_ok-push_moments.ensures c.in_ok-push_asking.ensures c.in_ok-push_reply.ensures c.in_ok-push_state.ensures c.in_ok-push_target.ensures
