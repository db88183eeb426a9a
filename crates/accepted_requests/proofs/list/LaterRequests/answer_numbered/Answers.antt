use Rattle.std.proofs.Common.{ℕ, refl, sym, ap, ◌∙◌}
use Rattle.std.specs.Prelude.{if◌then◌else◌}
use Rattle.accepted_requests.specs.Effects.{entry_effect}
use Rattle.accepted_requests.specs.Entries.{numbered, without}
use Rattle.accepted_requests.proofs.EffectLemmas.{comes_settled, gives_equal, some_found}
use Rattle.accepted_requests.proofs.list.LaterRequests.answer_numbered.Goals as goal

pub returns-in_err-entry : goal.returns-in_err-entry
returns-in_err-entry c = rw c.from_residual.ensures (rw (← c.in_err-entry.ensures) refl)

pub returns : goal.returns
returns c =
    let old = c.args.self.now in
    let request = c.args.request.now in
    let own = c.args.is_own in
    let e = c.in_ok-entry.entry.now in
    let goes = c.takes_away.result in
    gives_equal c.settle.result old c.settle.new.self (entry_effect own old request e) _
    (some_found (entry_effect own old request) e (numbered c.args.number old) c.in_ok-entry.ensures)
    (comes_settled c.settle.result c.entry_reply-reply.result old c.settle.new.self _ (entry_effect own old request e)
    c.settle.ensures.reply (c.entry_reply-reply.ensures old) c.settle.ensures.ok
    (c.takes_away.ensures old e ∙ sym (ap (λ (n : ℕ). if goes then without n old else old) c.number-kept.ensures)) c.settle.ensures.err)
