use Rattle.std.proofs.Common.{◌+◌, ℕ, List, refl, sym, subst}
use Rattle.http_frames.specs.ChunkLooks.{AreChunksAt}
use Rattle.http_frames.proofs.ChunkLemmas.{walked_on}
use Rattle.http_frames.proofs.chunks.Walked.pass.Goals as goal

pub returns-clause-chunks : goal.returns-clause-chunks
returns-clause-chunks c =
    let at = c.args.self.now.at in
    let from = at + c.args.start in
    subst (λ (t : List ℕ). AreChunksAt c.args.carried.now (from + c.args.size + 2) t) (sym c.in_ok-extend_from_slice.ensures.items)
    (walked_on c.args.carried.now c.args.self.now.body.items at c.args.start c.args.size from c.requires.chunks c.requires.chunk c.requires.some refl)
