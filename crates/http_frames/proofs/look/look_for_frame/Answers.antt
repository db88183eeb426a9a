use Rattle.std.proofs.Common.{◌∙◌}
use Rattle.http_frames.proofs.LookLemmas.{none_walked, walked_behind, behind_walked}
use Rattle.http_frames.proofs.look.look_for_frame.Goals as goal

pub look_for_chunks-requires : goal.look_for_chunks-requires
look_for_chunks-requires c =
    let w = c.args.walked.now in
    walked_behind c.args.side c.args.bytes.now w.body.items c.args.headers.now w.head c.in-Some.head w.at c.in-Some.is c.requires.walked

pub returns-in-Some-clause-walked : goal.returns-in-Some-clause-walked
returns-in-Some-clause-walked c =
    let w = c.look_for_chunks.new.walked in
    behind_walked c.args.side c.args.bytes.now w.body.items c.args.headers.now w.head c.in-Some.head w.at
    (c.look_for_chunks.ensures.head ∙ c.in-Some.is) c.look_for_chunks.ensures.walked

pub look_from_start-requires-clause-at : goal.look_from_start-requires-clause-at
look_from_start-requires-clause-at c =
    let w = c.args.walked.now in
    (none_walked c.args.side c.args.bytes.now w.body.items c.args.headers.now w.head w.at c.in-None.is c.requires.walked).0

pub look_from_start-requires-clause-body : goal.look_from_start-requires-clause-body
look_from_start-requires-clause-body c =
    let w = c.args.walked.now in
    (none_walked c.args.side c.args.bytes.now w.body.items c.args.headers.now w.head w.at c.in-None.is c.requires.walked).1
