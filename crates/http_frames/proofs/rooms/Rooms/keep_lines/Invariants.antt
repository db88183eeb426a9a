use Rattle.std.proofs.Common.{vec_len}
use Rattle.http_frames.proofs.rooms.Rooms.keep_lines.Given as goal

abbrev pub decreases-loop-name : goal.decreases-loop-name
decreases-loop-name l = vec_len l.lines
