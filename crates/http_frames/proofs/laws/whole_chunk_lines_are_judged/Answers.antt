use Rattle.http_frames.proofs.JudgeLemmas.{whole_lines}
use Rattle.http_frames.proofs.laws.whole_chunk_lines_are_judged.Goals as goal

pub returns : goal.returns
returns c = whole_lines
