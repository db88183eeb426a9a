use Rattle.http_frames.proofs.JudgeLemmas.{whole_heads}
use Rattle.http_frames.proofs.laws.whole_heads_are_judged.Goals as goal

pub returns : goal.returns
returns c = whole_heads
