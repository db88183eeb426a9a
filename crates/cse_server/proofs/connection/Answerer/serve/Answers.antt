use Rattle.std.proofs.Common.{◌+◌, [], inl, inr, refl, ap, ◌∙◌, arith}
use Rattle.cse_server.specs.declared.connection.Ended.TheVariants.{ReadFault, WriteFault}
use Rattle.cse_server.proofs.NextLemmas.{nothing_read}
use Rattle.cse_server.proofs.StandLemmas.{last_reads, last_writes}
use Rattle.cse_server.proofs.WayLemmas.{Goes-then, Stops-then}
use Rattle.cse_server.proofs.MostLemmas.{places_end}
use Rattle.cse_server.proofs.TurnLemmas.{ended_at_frame, goes_none, next_goes, put_last_ends, serves_starved, stands_first}
use Rattle.cse_server.proofs.connection.Answerer.serve.Goals as goal

pub returns-in_default-clause-serves : goal.returns-in_default-clause-serves
returns-in_default-clause-serves g c =
    serves_starved (g.W.Replier.rule c.args.self.now.replier.now) g.D.Desk.grown g.met.D.Desk.grown_by_nothing 1 c.args.seat.now _ _ _ _ (nothing_read _)

pub loop-place-init : goal.loop-place-init
loop-place-init g c = record {
  seats = c.requires;
  still_open = c.in-Ok.ensures.refused;
  few = rw c.in-Ok.ensures.held (omega arith);
  goes = rw c.new-waiting.ensures.items (goes_none (g.W.Replier.rule c.args.self.now.replier.now) g.D.Desk.grown g.met.D.Desk.grown_by_nothing 1 c.args.seat.now [] _ c.in-Ok.inbox.held _ _ _ c.in-Ok.ensures.held);
  read_steady = refl;
  write_steady = refl;
  holds = refl;
}

pub returns-in-Some-clause-serves : goal.returns-in-Some-clause-serves
returns-in-Some-clause-serves g c =
    let rule = g.W.Replier.rule c.args.self.now.replier.now in
    put_last_ends rule g.D.Desk.grown 1 c.args.seat.now c.serve_next.new.seat c.serve_next.new.rooms.waiting.items _ _ _ c.in-Some.ended c.put_last.result
    c.put_last.ensures.left
    refl refl
    (Stops-then rule g.D.Desk.grown g.met.D.Desk.grown_on 1 c.loop-place.place c.args.seat.now c.loop-place.seat c.serve_next.new.seat [] _ _ _ _ _ c.in-Some.ended
    c.loop-place.invariant.goes c.in-Some.ensures.next)
    c.put_last.ensures.puts

-- the count of faults is at the start of each frame what it was at the first one
pub returns-in-Some-clause-reads : goal.returns-in-Some-clause-reads
returns-in-Some-clause-reads g c =
    let rule = g.W.Replier.rule c.args.self.now.replier.now in
    let stops = Stops-then rule g.D.Desk.grown g.met.D.Desk.grown_on 1 c.loop-place.place c.args.seat.now c.loop-place.seat c.serve_next.new.seat [] _ _ _ _ _ c.in-Some.ended
    c.loop-place.invariant.goes c.in-Some.ensures.next in
    rw c.put_last.ensures.read_faults
    (last_reads c.in-Some.ended c.put_last.result _ c.serve_next.new.rooms.waiting.items _ _ _ _ _
    (stands_first rule g.D.Desk.grown 1 c.args.seat.now c.serve_next.new.seat c.serve_next.new.rooms.waiting.items _ _ c.in-Some.ended stops) c.put_last.ensures.puts
    (ended_at_frame ReadFault c.in-Some.ended _ _ _ c.loop-place.invariant.read_steady c.in-Some.ensures.reads))

pub returns-in-Some-clause-writes : goal.returns-in-Some-clause-writes
returns-in-Some-clause-writes g c =
    last_writes c.in-Some.ended c.put_last.result c.serve_next.new.rooms.waiting.items _ _ _ _ _ c.put_last.ensures.puts
    (ended_at_frame WriteFault c.in-Some.ended _ _ _ c.loop-place.invariant.write_steady c.in-Some.ensures.writes)
    c.put_last.ensures.writes
    (λ failed. let same = c.put_last.ensures.failed failed in (same.0, ap g.X.Sink.faults same.1))

pub returns-in-Some-clause-holds : goal.returns-in-Some-clause-holds
returns-in-Some-clause-holds g c =
    c.put_last.ensures.holds ∙ c.serve_next.ensures.holds ∙ c.loop-place.invariant.holds

pub loop-place-preserved : goal.loop-place-preserved
loop-place-preserved g c =
    let on = c.in_default-serve_next.not-Some in
    let next = next_goes _ _ c.serve_next.result on c.serve_next.ensures.next in
    record {
      seats = c.serve_next.ensures.seats;
      still_open = next.0;
      few = c.serve_next.ensures.few;
      goes = Goes-then (g.W.Replier.rule c.args.self.now.replier.now) g.D.Desk.grown g.met.D.Desk.grown_on 1 c.loop-place.place (c.loop-place.place + 1) c.args.seat.now c.loop-place.seat c.serve_next.new.seat [] _ _ _ _ _ c.loop-place.invariant.goes next.1;
      read_steady = c.serve_next.ensures.reads.steady (on ReadFault) ∙ c.loop-place.invariant.read_steady;
      write_steady = c.serve_next.ensures.writes.steady (on WriteFault) ∙ c.loop-place.invariant.write_steady;
      holds = c.serve_next.ensures.holds ∙ c.loop-place.invariant.holds;
    }

pub returns-clause-serves : goal.returns-clause-serves
returns-clause-serves g c =
    let goes = c.loop-place.invariant.goes in
    let last = c.loop-place-test.false in
    absurd (elim (places_end goes.heard 1 goes.stays_on) [
      | inl none ↦ omega (arith, none, goes.places, last)
      | inr early ↦ omega (arith, early, goes.places, last)
    ])
