use Rattle.std.proofs.Common.{◌≡◌, ◌≤◌, ◌-◌, length}
use Rattle.http_frames.specs.ChunkLooks.{AreChunksAt}
use Rattle.http_frames.proofs.chunks.Walked.walk.Given as goal

abbrev pub invariant-chunks : goal.invariant-chunks
invariant-chunks l = record {
  chunks : AreChunksAt l.carried l.self.at l.self.body.items;
  within : l.self.at ≤ length l.carried;
  fits : length l.self.body.items ≤ l.limit;
  head : l.self.head ≡ l.initial.self.head;
}

abbrev pub decreases-chunks : goal.decreases-chunks
decreases-chunks l = length l.carried - l.self.at
