use Rattle.std.proofs.Common.{◌≡◌, ◌-◌, ℕ, List, length, take, drop, subst, arith}
use Rattle.std.proofs.lemmas.List.{take_all, length-drop}
use Rattle.http_frames.specs.ChunkLooks.{WaitsForEnd, ExcludesEnd}
use Rattle.http_frames.proofs.ChunkLemmas.{behind_waits, behind_excluded}
use Rattle.http_frames.proofs.chunks.look_behind_line.Goals as goal

rest_is : (text : List ℕ) (start : ℕ) → take (length text - start) (drop start text) ≡ drop start text
rest_is text start = take_all (length text - start) (drop start text) (omega (arith, length-drop start text))

pub returns-in-Short : goal.returns-in-Short
returns-in-Short c =
    let text = c.args.text.now in
    let start = c.args.start in
    let waits = subst (λ (t : List ℕ). WaitsForEnd t c.args.size c.in-Short.need) (rest_is text start) c.in-Short.ensures in
    behind_waits c.args.most text start c.args.size c.in-Short.need c.requires.line c.requires.fits waits

pub returns-in-Never : goal.returns-in-Never
returns-in-Never c =
    let text = c.args.text.now in
    let start = c.args.start in
    let never = subst (λ (t : List ℕ). ExcludesEnd t c.args.size) (rest_is text start) c.in-Never.ensures in
    behind_excluded c.args.most text start c.args.size c.requires.line never
