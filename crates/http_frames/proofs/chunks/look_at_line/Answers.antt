use Rattle.http_frames.proofs.ChunkLemmas.{size_too_large}
use Rattle.http_frames.proofs.chunks.look_at_line.Goals as goal

pub returns-then-size-most : goal.returns-then-size-most
returns-then-size-most c = size_too_large c.args.most c.args.text.now c.args.start c.args.size c.requires.line c.if-size-most.true
