use Rattle.http_frames.proofs.FrameLemmas.{Frames_unique}
use Rattle.http_frames.proofs.laws.frames_are_unique.Goals as goal

pub returns : goal.returns
returns c = Frames_unique
