use Rattle.std.proofs.Common.{take, drop, arith}
use Rattle.std.proofs.lemmas.Grind.{common_steps}
use Rattle.std.proofs.lemmas.List.{drop-append-le}
use Rattle.primitive_replay.proofs.BufferLemmas.{read_keeps}
use Rattle.primitive_replay.proofs.line_buffer.LineBuffer.read_once.Goals as goal

pub returns-clause-stream : goal.returns-clause-stream
returns-clause-stream g c =
    read_keeps (g.S.Source.left c.args.src.now) (g.S.Source.left c.read.new.self) c.args.self.now (take c.in_ok-n.n c.read.new.buf)
    (drop c.make_room.new.start c.extend_from_slice.new.self.items) c.in_ok-n.ensures.bytes.0
    (grind (arith, common_steps, drop-append-le))
