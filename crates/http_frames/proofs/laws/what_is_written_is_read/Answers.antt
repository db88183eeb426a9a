use Rattle.http_frames.proofs.TextLemmas.{written_is_read}
use Rattle.http_frames.proofs.laws.what_is_written_is_read.Goals as goal

pub returns : goal.returns
returns c = written_is_read
