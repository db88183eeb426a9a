use Rattle.std.proofs.Common.{◌∷◌, []}
use Rattle.turn_desk.specs.Seats.{known_to}
use Rattle.workers.specs.Jobs.{known_to_all}
use Rattle.workers.proofs.SharesLemmas.{on_on, on_joined, seen_joined, owns_joined, parts_joined}
use Rattle.workers.proofs.sharing.all_joined.Goals as goal

pub returns-clause-on : goal.returns-clause-on
returns-clause-on g c =
    on_on _ _ _ c.joined_seat-joined.ensures.on (on_joined _ _ _ c.in-Ok.ensures.joined)

pub returns-clause-seen : goal.returns-clause-seen
returns-clause-seen g c =
    seen_joined (known_to_all c.args.jobs.items) c.in-Ok.ensures.joined c.joined_seat-joined.ensures.seen

pub returns-clause-own : goal.returns-clause-own
returns-clause-own g c =
    owns_joined (known_to_all c.args.jobs.items) (known_to c.args.seat).own c.in-Ok.ensures.joined c.joined_seat-joined.ensures.own

pub returns-clause-parts : goal.returns-clause-parts
returns-clause-parts g c =
    parts_joined (known_to_all c.args.jobs.items) c.in-Ok.ensures.joined
    (c.joined_seat-joined.ensures.parts (known_to c.args.beside.seat ∷ []))
