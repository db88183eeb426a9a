use Rattle.std.specs.Prelude.{option_map}
use Rattle.std.proofs.Common.{ℕ, Some, codes, ap, ◌∙◌}
use Rattle.m2m_value.specs.Data.{text}
use Rattle.primitive_json.specs.Writing.{written_reply}
use Rattle.accepted_requests.specs.Names.{entry_name}
use Rattle.accepted_requests.proofs.FormLemmas.{two_rows}
use Rattle.accepted_requests.proofs.form.push_reply.Goals as goal

pub returns : goal.returns
returns c =
    let e = c.args.entry.now in
    two_rows c.push_member-2.result (codes "ors") (codes "ri") c.in_ok-reply.reply (Some c.in_ok-name.name) (option_map written_reply e.reply) (Some (text (entry_name e.number)))
    c.args.members.now.items _ _ (c.in_ok-reply.ensures ∙ ap (option_map written_reply) c.reply.ensures)
    (ap Some (c.in_ok-name.ensures ∙ ap (λ (n : ℕ). text (entry_name n)) c.number.ensures)) c.in_ok-push_member.ensures.ok c.push_member-2.ensures.ok
