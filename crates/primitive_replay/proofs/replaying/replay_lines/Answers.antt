use Rattle.std.proofs.Common.{◌+◌, ◌∙◌, [], refl, ap, arith}
use Rattle.cse_server.specs.Outside.{sink_told}
use Rattle.m2m_io.specs.declared.status.Status.TheVariants.{ReadFault, WriteFault}
use Rattle.primitive_replay.proofs.TogetherLemmas.{last_reads, last_writes}
use Rattle.primitive_replay.proofs.TurnLemmas.{ended_at_line, goes_first, is_none, next_goes, put_last_ends, stands_first, starved_first}
use Rattle.primitive_replay.proofs.WayLemmas.{ReplaysUpTo-then, StopsFrom-then}
use Rattle.primitive_replay.proofs.replaying.replay_lines.Goals as goal

pub returns-in_default-clause-lines : goal.returns-in_default-clause-lines
returns-in_default-clause-lines g c = starved_first c.args.entity.now _ _ _ _

pub loop-place-init : goal.loop-place-init
loop-place-init g c = record {
  place = omega arith;
  goes = goes_first 1 0 c.args.entity.now c.in-Ok.held _ c.new-waiting.result.items _ _ c.in-Ok.ensures c.new-waiting.ensures.items;
  read_steady = refl;
  write_steady = refl;
}

pub returns-in-Some-clause-lines : goal.returns-in-Some-clause-lines
returns-in-Some-clause-lines g c =
    put_last_ends 1 0 c.args.entity.now c.replay_next.new.entity _ _ c.replay_next.new.waiting.items _ _ _ _ _ c.in-Some.status c.put_last.result
    (StopsFrom-then 1 c.loop-place.place 0 c.loop-place.reading c.args.entity.now c.loop-place.entity c.replay_next.new.entity [] _ _ _ _ _ c.in-Some.status
    c.loop-place.invariant.goes c.in-Some.ensures.next)
    c.put_last.ensures.puts

pub loop-place-preserved : goal.loop-place-preserved
loop-place-preserved g c =
    let on = c.in_default-replay_next.not-Some in
    let next = next_goes _ _ c.replay_next.result on c.replay_next.ensures.next in
    let few = c.replay_next.ensures.place (is_none c.replay_next.result on) in
    record {
      place = omega (arith, few);
      goes = ReplaysUpTo-then 1 c.loop-place.place (c.loop-place.place + 1) 0 c.loop-place.reading c.replay_next.new.reading c.args.entity.now c.loop-place.entity c.replay_next.new.entity [] _ _ _ _ _ c.loop-place.invariant.goes next;
      read_steady = c.replay_next.ensures.reads.steady (on ReadFault) ∙ c.loop-place.invariant.read_steady;
      write_steady = c.replay_next.ensures.writes.steady (on WriteFault) ∙ c.loop-place.invariant.write_steady;
    }

-- the count of faults is at the start of each line what it was at the first one
pub returns-in-Some-clause-reads : goal.returns-in-Some-clause-reads
returns-in-Some-clause-reads g c =
    let stops = StopsFrom-then 1 c.loop-place.place 0 c.loop-place.reading c.args.entity.now c.loop-place.entity c.replay_next.new.entity [] _ _ _ _ _ c.in-Some.status
    c.loop-place.invariant.goes c.in-Some.ensures.next in
    last_reads c.in-Some.status c.put_last.result stops.asks.replies c.replay_next.new.waiting.items _ _ _ _ _
    (stands_first 1 0 c.args.entity.now c.replay_next.new.entity c.replay_next.new.waiting.items _ _ c.in-Some.status stops) c.put_last.ensures.puts
    (ended_at_line ReadFault c.in-Some.status _ _ _ c.loop-place.invariant.read_steady c.in-Some.ensures.reads)

pub returns-in-Some-clause-writes : goal.returns-in-Some-clause-writes
returns-in-Some-clause-writes g c =
    last_writes c.in-Some.status c.put_last.result c.replay_next.new.waiting.items _ _ _ _ _ c.put_last.ensures.puts
    (ended_at_line WriteFault c.in-Some.status _ _ _ c.loop-place.invariant.write_steady c.in-Some.ensures.writes)
    c.put_last.ensures.writes
    (λ failed. let same = c.put_last.ensures.failed failed in (same.0, ap g.O.Sink.faults same.1))
