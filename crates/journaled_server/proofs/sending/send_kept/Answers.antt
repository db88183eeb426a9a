use Rattle.std.proofs.Common.{◌≡◌, ◌∙◌, Ok, ap, arith}
use Rattle.std.proofs.lemmas.Result.{err_from_is_err_and}
use Rattle.cse_server.specs.Sending.{most_items}
use Rattle.journaled_server.proofs.SendingLemmas.{no_item, sent_all, sent_full, sent_more, sent_none, sent_short, sent_unanswered}
use Rattle.journaled_server.proofs.sending.send_kept.Goals as goal

pub items-init : goal.items-init
items-init g c = record {
  seats = c.requires;
  few = omega arith;
  so_far = sent_none g.D.Desk.grown _;
}

pub returns-in_err-item-clause-sends : goal.returns-in_err-item-clause-sends
returns-in_err-item-clause-sends g c =
    let failed = err_from_is_err_and c.from_residual.result c.from_residual.ensures.1 in
    rw failed.1 (sent_unanswered g.D.Desk.grown _ _ _ c.items.sent c.look.result c.items.invariant.so_far (c.look.ensures.looks _) _ failed.0 c.in_err-item.was c.items-test.true)

pub returns-in_default-clause-sends : goal.returns-in_default-clause-sends
returns-in_default-clause-sends g c =
    sent_all g.D.Desk.grown _ _ _ c.items.sent c.look.result c.items.invariant.so_far (c.look.ensures.looks _)
    (c.in_ok-item.was ∙ ap Ok (no_item c.in_ok-item.field-0 c.in_default.not-Some)) c.items-test.true

pub returns-in_err-send_item-clause-sends : goal.returns-in_err-send_item-clause-sends
returns-in_err-send_item-clause-sends g c =
    let failed = err_from_is_err_and c.from_residual-in_err-send_item.result c.from_residual-in_err-send_item.ensures.1 in
    rw failed.1 (sent_short g.D.Desk.grown _ _ _ c.items.sent c.look.result c.items.invariant.so_far (c.look.ensures.looks _)
    c.in-Some.item _ c.send_item.result _ failed.0 (c.in_ok-item.was ∙ ap Ok c.in-Some.is) c.send_item.ensures.sends c.in_err-send_item.was c.items-test.true)

pub items-preserved : goal.items-preserved
items-preserved g c = record {
  seats = c.send_item.ensures.seats;
  few = omega (arith, c.items-test.true);
  so_far = sent_more g.D.Desk.grown _ _ _ c.items.sent c.look.result c.items.invariant.so_far (c.look.ensures.looks _)
      c.in-Some.item _ c.send_item.result _ (c.in_ok-item.was ∙ ap Ok c.in-Some.is) c.send_item.ensures.sends c.in_ok-send_item.was;
}

pub returns-clause-sends : goal.returns-clause-sends
returns-clause-sends g c =
    let full : c.items.sent ≡ most_items = omega (arith, c.items-test.false, c.items.invariant.few) in
    sent_full g.D.Desk.grown _ _ c.items.sent c.items.invariant.so_far full
