use Rattle.std.proofs.Common.{◌+◌, ◌-◌, length, drop, refl, subst}
use Rattle.http_frames.specs.declared.chunks.Stop.{Stop}
use Rattle.http_frames.specs.ChunkLooks.{IsStop}
use Rattle.http_frames.specs.Frame.{body_limit}
use Rattle.http_frames.proofs.LookLemmas.{chunks_whole, chunks_never}
use Rattle.http_frames.proofs.WaitLemmas.{chunks_wait}
use Rattle.http_frames.proofs.look.look_behind_chunks.Goals as goal

pub returns-in-End : goal.returns-in-End
returns-in-End c =
    let body = c.args.walked.now.body.items in
    let at = c.args.walked.now.at in
    let rest = drop at (drop c.args.head.len c.args.bytes.now) in
    let stop = subst (λ (s : Stop). IsStop (body_limit c.args.side - length body) rest s) c.in-End.is c.requires.stop in
    chunks_whole c.args.side c.args.bytes.now body c.args.headers.now c.args.head at c.in-End.start
    (c.args.head.len + at + c.in-End.start + 2) c.requires.behind stop refl

pub returns-in-Short : goal.returns-in-Short
returns-in-Short c =
    let body = c.args.walked.now.body.items in
    let at = c.args.walked.now.at in
    let rest = drop at (drop c.args.head.len c.args.bytes.now) in
    let stop = subst (λ (s : Stop). IsStop (body_limit c.args.side - length body) rest s) c.in-Short.is c.requires.stop in
    chunks_wait c.args.side c.args.bytes.now body c.args.headers.now c.args.head at c.in-Short.need
    (c.args.head.len + at + c.in-Short.need) c.requires.behind stop refl

pub returns-in-Never : goal.returns-in-Never
returns-in-Never c =
    let body = c.args.walked.now.body.items in
    let at = c.args.walked.now.at in
    let rest = drop at (drop c.args.head.len c.args.bytes.now) in
    let stop = subst (λ (s : Stop). IsStop (body_limit c.args.side - length body) rest s) c.in-Never.is c.requires.stop in
    chunks_never c.args.side c.args.bytes.now body c.args.headers.now c.args.head at c.requires.behind stop
