use Rattle.std.proofs.Common.{take, ap, ◌∙◌}
use Rattle.http_frames.proofs.ChunkLemmas.{front_is}
use Rattle.http_frames.proofs.chunks.front_of.Goals as goal

pub returns : goal.returns
returns c = ap (λ k. take k c.args.text.now) c.min.ensures ∙ front_is c.args.text.now
