use Rattle.std.proofs.Common.{◌≡◌, ◌∙◌, Ok, ap, arith}
use Rattle.std.proofs.lemmas.Result.{err_from_is_err_and}
use Rattle.cse_server.specs.Sending.{most_items}
use Rattle.cse_server.proofs.SendingLemmas.{no_note, sent_all, sent_full, sent_more, sent_none, sent_short, sent_starved}
use Rattle.cse_server.proofs.sending.send_notes.Goals as goal

pub items-init : goal.items-init
items-init g c = record {
  seats = c.requires;
  few = omega arith;
  so_far = sent_none g.D.Desk.grown g.met.D.Desk.grown_by_nothing c.args.seat.now _ _;
}

pub returns-in_err-note-clause-sends : goal.returns-in_err-note-clause-sends
returns-in_err-note-clause-sends g c =
    let failed = err_from_is_err_and c.from_residual.result c.from_residual.ensures.1 in
    rw failed.1 (sent_starved g.D.Desk.grown g.met.D.Desk.grown_on c.args.seat.now c.items.seat c.take_note.new.seat _ _ _ _ _ c.items.sent c.take_note.result
    c.items.invariant.so_far c.take_note.ensures.takes _ failed.0 c.in_err-note.was c.items-test.true)

pub returns-in_default-clause-sends : goal.returns-in_default-clause-sends
returns-in_default-clause-sends g c =
    sent_all g.D.Desk.grown g.met.D.Desk.grown_on c.args.seat.now c.items.seat c.take_note.new.seat _ _ _ _ _ c.items.sent c.take_note.result
    c.items.invariant.so_far c.take_note.ensures.takes (c.in_ok-note.was ∙ ap Ok (no_note c.in_ok-note.field-0 c.in_default.not-Some)) c.items-test.true

pub returns-in_err-send_note-clause-sends : goal.returns-in_err-send_note-clause-sends
returns-in_err-send_note-clause-sends g c =
    let failed = err_from_is_err_and c.from_residual-in_err-send_note.result c.from_residual-in_err-send_note.ensures.1 in
    rw failed.1 (sent_short g.D.Desk.grown g.met.D.Desk.grown_on c.args.seat.now c.items.seat c.take_note.new.seat _ _ _ _ _ c.items.sent c.take_note.result
    c.items.invariant.so_far c.take_note.ensures.takes _ c.in-Some.note failed.0 (c.in_ok-note.was ∙ ap Ok c.in-Some.is) c.in_err-send_note.ensures.err c.items-test.true)

pub items-preserved : goal.items-preserved
items-preserved g c = record {
  seats = c.take_note.ensures.seats;
  few = omega (arith, c.items-test.true);
  so_far = sent_more g.D.Desk.grown g.met.D.Desk.grown_on c.args.seat.now c.items.seat c.take_note.new.seat _ _ _ _ _ c.items.sent c.take_note.result
      c.items.invariant.so_far c.take_note.ensures.takes _ c.in-Some.note c.in_ok-send_note.ensures.ok.0 (c.in_ok-note.was ∙ ap Ok c.in-Some.is) c.in_ok-send_note.ensures.ok.1;
}

pub returns-clause-sends : goal.returns-clause-sends
returns-clause-sends g c =
    let full : c.items.sent ≡ most_items = omega (arith, c.items-test.false, c.items.invariant.few) in
    sent_full g.D.Desk.grown c.args.seat.now c.items.seat _ _ _ _ c.items.sent c.items.invariant.so_far full
