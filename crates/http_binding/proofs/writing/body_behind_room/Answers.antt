use Rattle.http_binding.specs.Replying.{body_of}
use Rattle.http_binding.specs.Rooms.{head_room}
use Rattle.http_binding.proofs.JoinLemmas.{behind_room}
use Rattle.http_binding.proofs.writing.body_behind_room.Goals as goal

pub returns-clause-body : goal.returns-clause-body
returns-clause-body c =
    behind_room c.in_ok-text.text.items c.append_body.new.out.items (body_of c.args.content.now) head_room
    c.in_ok-text.ensures c.in_ok-append_body.ensures.ok
