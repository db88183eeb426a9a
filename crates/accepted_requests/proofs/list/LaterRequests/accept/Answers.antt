use Rattle.std.proofs.Common.{ℕ, [], ◌∷◌, ◌++◌, Some, ap, ◌∙◌}
use Rattle.m2m_names.specs.declared.codes.Rsc.TheVariants.{Accepted}
use Rattle.entity_model.specs.Places.{reply_to}
use Rattle.accepted_requests.specs.Entries.{LaterEntryData, LaterRequestsData, accepted_entry}
use Rattle.accepted_requests.specs.Form.{uri_content}
use Rattle.accepted_requests.proofs.list.LaterRequests.accept.Goals as goal

pub returns : goal.returns
returns c =
    let old = c.args.self.now in
    let who = c.args.originator.now in
    let request = c.args.request.now in
    let kept : ℕ → LaterEntryData → LaterRequestsData = λ n e. record { entries = old.entries ++ e ∷ []; given = n } in
    record {
      reply = c.in_ok-reply.ensures ∙ ap (λ (n : ℕ). reply_to request Accepted (Some (uri_content n))) c.next_number-number.ensures;
      requests =
          c.in_ok-push.ensures.ok ∙ ap (kept c.next_number-number.result) c.in_ok-entry.ensures
          ∙ ap (λ (n : ℕ). kept n (accepted_entry n who request c.args.moment)) c.next_number-number.ensures;
      same = tt;
    }
