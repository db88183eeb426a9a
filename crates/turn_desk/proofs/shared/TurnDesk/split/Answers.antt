use Rattle.std.proofs.Common.{rules}
use Rattle.turn_desk.proofs.SharedLemmas.{splits}
use Rattle.turn_desk.proofs.shared.TurnDesk.split.Goals as goal

pub split_seat-other-requires : goal.split_seat-other-requires
split_seat-other-requires g c =
    (c.requires.0, search rules, splits _ _ _ _ c.requires.1.ticket c.requires.1.turn)
