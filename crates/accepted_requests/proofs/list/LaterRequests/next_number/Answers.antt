use Rattle.std.proofs.Common.{arith}
use Rattle.accepted_requests.proofs.EffectLemmas.{room_number}
use Rattle.accepted_requests.proofs.list.LaterRequests.next_number.Goals as goal

pub overflow_add-result : goal.overflow_add-result
overflow_add-result c =
    let room = room_number c.args.self.now c.requires in
    omega (arith, room, c.last_number.ensures)
