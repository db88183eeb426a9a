use Rattle.std.proofs.Common.{ℕ, List, sym, ap, subst, ◌∙◌}
use Rattle.std.specs.Prelude.{IsUtf8}
use Rattle.m2m_names.specs.Name.{originator_limit}
use Rattle.m2m_names.proofs.NameLemmas.{printable_is_utf8}
use Rattle.primitive_json.specs.declared.request.RequestParts.{RequestParts}
use Rattle.accepted_requests.specs.Entries.{LaterEntryData, accepted_entry, ready_reply}
use Rattle.accepted_requests.specs.Sizes.{content_size}
use Rattle.accepted_requests.proofs.entry.LaterEntry.accept.Goals as goal

pub invariant_of-result : goal.invariant_of-result
invariant_of-result c = record {
  originator_text = subst IsUtf8 (sym c.in_ok-who.ensures) (printable_is_utf8 originator_limit c.args.originator.now c.requires.originator);
  accepted_moment = c.requires.moment;
  ready = λ waits. c.in_ok-reply.ensures ∙ ap ready_reply (sym c.in_ok-asked.ensures);
  sized = sym (ap content_size c.in_ok-reply.ensures);
}

pub returns : goal.returns
returns c =
    let at : LaterEntryData = accepted_entry c.args.number c.args.originator.now c.args.request.now c.args.moment in
    ap (λ (who : List ℕ). record at { originator = who; request = c.in_ok-asked.asked }) c.in_ok-who.ensures
    ∙ ap (λ (request : RequestParts). record at { request = request }) c.in_ok-asked.ensures
