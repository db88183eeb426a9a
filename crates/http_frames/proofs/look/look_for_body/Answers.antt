use Rattle.std.proofs.Common.{arith}
use Rattle.http_frames.proofs.LookLemmas.{too_large, whole_frame}
use Rattle.http_frames.proofs.WaitLemmas.{body_waits}
use Rattle.http_frames.proofs.look.look_for_body.Goals as goal

pub returns-then-n-body_limit : goal.returns-then-n-body_limit
returns-then-n-body_limit c = λ body.
    too_large c.args.side c.args.bytes.now c.args.headers.now c.args.head c.args.n c.requires.good c.requires.framing
    (omega (arith, c.body_limit.ensures.limit, c.if-n-body_limit.true))

pub returns-then-bytes-end : goal.returns-then-bytes-end
returns-then-bytes-end c = λ body.
    body_waits c.args.side c.args.bytes.now c.args.headers.now c.args.head c.args.n c.requires.good c.requires.framing
    (omega (arith, c.body_limit.ensures.limit, c.if-n-body_limit.false)) c.if-bytes-end.true

pub returns : goal.returns
returns c = λ body.
    whole_frame c.args.side c.args.bytes.now body c.args.headers.now c.args.head c.args.n c.requires.good c.requires.framing
    (omega (arith, c.body_limit.ensures.limit, c.if-n-body_limit.false)) c.if-bytes-end.false
