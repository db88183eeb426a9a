use Rattle.http_frames.proofs.LookLemmas.{behind_none}
use Rattle.http_frames.proofs.look.look_behind.Goals as goal

pub look_for_chunks-requires : goal.look_for_chunks-requires
look_for_chunks-requires c =
    behind_none c.args.side c.args.bytes.now c.args.walked.now.body.items c.args.headers.now c.args.head c.args.walked.now.at
    c.requires.good (rw c.in-Some-Chunked.field-0-is at c.in-Some-Chunked.ensures) c.requires.at c.requires.body

pub returns-in-Some-Counted-clause-look : goal.returns-in-Some-Counted-clause-look
returns-in-Some-Counted-clause-look c = c.look_for_body.ensures c.args.walked.now.body.items
