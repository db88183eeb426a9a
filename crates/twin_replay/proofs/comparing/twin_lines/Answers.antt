use Rattle.std.proofs.Common.{◌+◌, ◌∙◌, refl, arith}
use Rattle.m2m_io.specs.declared.status.Status.TheVariants.{ReadFault, WriteFault}
use Rattle.primitive_replay.proofs.TurnLemmas.{ended_at_line, is_none, next_goes}
use Rattle.twin_replay.proofs.LineLemmas.{goes_none, starved_first}
use Rattle.twin_replay.proofs.TwinLemmas.{TwinsFrom-then, TwinsUpTo-then}
use Rattle.twin_replay.proofs.comparing.twin_lines.Goals as goal

pub returns-in_default-clause-lines : goal.returns-in_default-clause-lines
returns-in_default-clause-lines g c = starved_first c.args.sides.now _ _

pub loop-place-init : goal.loop-place-init
loop-place-init g c = record {
  place = omega arith;
  goes = goes_none 1 c.args.sides.now c.in-Ok.held _ _ c.in-Ok.ensures;
  read_steady = refl;
  write_steady = refl;
}

pub returns-in-Some-clause-lines : goal.returns-in-Some-clause-lines
returns-in-Some-clause-lines g c =
    TwinsFrom-then 1 c.loop-place.place c.args.sides.now c.loop-place.sides _ _ _ c.in-Some.status c.loop-place.invariant.goes c.in-Some.ensures.next

pub loop-place-preserved : goal.loop-place-preserved
loop-place-preserved g c =
    let on = c.in_default-twin_next.not-Some in
    let next = next_goes _ _ c.twin_next.result on c.twin_next.ensures.next in
    let few = c.twin_next.ensures.place (is_none c.twin_next.result on) in
    record {
      place = omega (arith, few);
      goes = TwinsUpTo-then 1 c.loop-place.place (c.loop-place.place + 1) c.args.sides.now c.loop-place.sides c.twin_next.new.sides _ _ _ c.loop-place.invariant.goes next;
      read_steady = c.twin_next.ensures.reads.steady (on ReadFault) ∙ c.loop-place.invariant.read_steady;
      write_steady = c.twin_next.ensures.writes.steady (on WriteFault) ∙ c.loop-place.invariant.write_steady;
    }

-- the count of faults is at the start of each line what it was at the first one
pub returns-in-Some-clause-reads : goal.returns-in-Some-clause-reads
returns-in-Some-clause-reads g c =
    ended_at_line ReadFault c.in-Some.status _ _ _ c.loop-place.invariant.read_steady c.in-Some.ensures.reads

pub returns-in-Some-clause-writes : goal.returns-in-Some-clause-writes
returns-in-Some-clause-writes g c =
    ended_at_line WriteFault c.in-Some.status _ _ _ c.loop-place.invariant.write_steady c.in-Some.ensures.writes
