use Rattle.http_frames.proofs.ChunkLemmas.{line_waits}
use Rattle.http_frames.proofs.chunks.look_without_line.Goals as goal

pub returns-then-text-lt-LINE_LIMIT : goal.returns-then-text-lt-LINE_LIMIT
returns-then-text-lt-LINE_LIMIT c =
    line_waits c.args.most c.args.text.now c.requires.none c.requires.may c.if-text-lt-LINE_LIMIT.true
