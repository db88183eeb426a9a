use Rattle.std.proofs.Common.{◌+◌, ◌-◌, ◌≤◌, length, take, arith}
use borrow.Rule.Slice.PartMut.{post_of}
use Rattle.http_frames.proofs.HeldLemmas.{landed}
use Rattle.http_frames.proofs.held.read_behind.Goals as goal

pub returns-clause-reads : goal.returns-clause-reads
returns-clause-reads g c =
    let old = c.args.bytes.now in
    let end = c.args.end.now in
    let buf = c.read.new.buf in
    let n = c.in_ok-n.n in
    let within : end ≤ length old = omega (arith, c.requires) in
    let short : n ≤ length buf = c.in_ok-n.ensures.bound.0 in
    record {
      read = take n buf;
      consumed = c.in_ok-n.ensures.bytes.0;
      held_is = landed old buf (post_of end (end + 4096 - end) old) end n within short;
    }
