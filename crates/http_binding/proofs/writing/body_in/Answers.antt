use Rattle.std.proofs.lemmas.List.{take_rest}
use Rattle.http_binding.specs.Rooms.{head_room}
use Rattle.http_binding.proofs.writing.body_in.Goals as goal

pub returns : goal.returns
returns c = take_rest c.args.text.now head_room
