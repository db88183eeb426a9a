use Rattle.http_frames.proofs.FrameLemmas.{frame_ends}
use Rattle.http_frames.proofs.laws.no_frame_begins_another.Goals as goal

pub returns : goal.returns
returns c = frame_ends
