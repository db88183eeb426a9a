use Rattle.std.proofs.Common.{◌≡◌, [], arith}
use Rattle.std.proofs.lemmas.Grind.{common_steps}
use Rattle.std.proofs.lemmas.Result.{err_from_is_err_and}
use Rattle.std.specs.Vec.Iter.{into_iter_items}
use Rattle.remote_members.proofs.AskLemmas.{none_asked, told_all, told_more, told_next, told_none, told_short}
use Rattle.remote_members.proofs.asking.Asker.tell_members.Goals as goal

pub returns-in_err-told-clause-asks : goal.returns-in_err-told-clause-asks
returns-in_err-told-clause-asks g c =
    let failed = err_from_is_err_and c.from_residual.result c.from_residual.ensures.1 in
    rw failed.1 (none_asked g.D.Desk.grown g.met.D.Desk.grown_by_nothing c.args.seat.now _ _ _ _ _ tt)

-- none is told of yet
pub loop-entry-init : goal.loop-entry-init
loop-entry-init g c = record {
  seats = c.requires;
  so = told_none g.D.Desk.grown g.met.D.Desk.grown_by_nothing c.args.seat.now _ _ c.args.self.now.home.now c.args.request.now c.args.entries.items _ c.in_ok-told.told.items
      (grind (arith, common_steps)) c.in_ok-told.ensures.items;
}

-- memory ran out at a member, or in keeping what is told of it
pub returns-in_err-anew-clause-asks : goal.returns-in_err-anew-clause-asks
returns-in_err-anew-clause-asks g c =
    let failed = err_from_is_err_and c.from_residual-in_err-anew.result c.from_residual-in_err-anew.ensures.1 in
    let rest = into_iter_items c.next.new.self in
    let so = told_next g.D.Desk.grown c.args.seat.now c.loop-entry.seat _ _ _ _ c.args.self.now.home.now c.args.request.now c.args.entries.items _ rest c.loop-entry.told.items
    c.in-Some.entry c.in-Some.ensures.steps.0 c.loop-entry.invariant.so in
    rw failed.1 (told_short g.D.Desk.grown g.met.D.Desk.grown_on c.args.seat.now c.loop-entry.seat c.tell_member.new.seat _ _ _ _ _ _
    c.args.self.now.home.now c.args.request.now c.args.entries.items rest c.loop-entry.told.items c.in-Some.entry c.tell_member.result _ failed.0 so c.tell_member.ensures.asks)

pub returns-in_err-push-clause-asks : goal.returns-in_err-push-clause-asks
returns-in_err-push-clause-asks g c =
    let failed = err_from_is_err_and c.from_residual-in_err-push.result c.from_residual-in_err-push.ensures.1 in
    let rest = into_iter_items c.next.new.self in
    let so = told_next g.D.Desk.grown c.args.seat.now c.loop-entry.seat _ _ _ _ c.args.self.now.home.now c.args.request.now c.args.entries.items _ rest c.loop-entry.told.items
    c.in-Some.entry c.in-Some.ensures.steps.0 c.loop-entry.invariant.so in
    rw failed.1 (told_short g.D.Desk.grown g.met.D.Desk.grown_on c.args.seat.now c.loop-entry.seat c.tell_member.new.seat _ _ _ _ _ _
    c.args.self.now.home.now c.args.request.now c.args.entries.items rest c.loop-entry.told.items c.in-Some.entry c.tell_member.result _ failed.0 so c.tell_member.ensures.asks)

-- one more is told
pub loop-entry-preserved : goal.loop-entry-preserved
loop-entry-preserved g c =
    let rest = into_iter_items c.next.new.self in
    let so = told_next g.D.Desk.grown c.args.seat.now c.loop-entry.seat _ _ _ _ c.args.self.now.home.now c.args.request.now c.args.entries.items _ rest c.loop-entry.told.items
    c.in-Some.entry c.in-Some.ensures.steps.0 c.loop-entry.invariant.so in
    record {
      seats = c.tell_member.ensures.seats;
      so = told_more g.D.Desk.grown g.met.D.Desk.grown_on c.args.seat.now c.loop-entry.seat c.tell_member.new.seat _ _ _ _ _ _
          c.args.self.now.home.now c.args.request.now c.args.entries.items rest c.loop-entry.told.items _ c.in-Some.entry c.in_ok-anew.anew so
          c.in_ok-anew.ensures.asks c.in_ok-push.ensures.items;
    }

-- of all is told
pub returns-clause-asks : goal.returns-clause-asks
returns-clause-asks g c =
    let none : into_iter_items c.loop-entry.entry-iterator ≡ [] = grind (arith, common_steps) in
    told_all g.D.Desk.grown c.args.seat.now c.loop-entry.seat _ _ _ _ c.args.self.now.home.now c.args.request.now c.args.entries.items _ c.loop-entry.told.items _ _
    none c.loop-entry.invariant.so (λ replies tells. tells)
