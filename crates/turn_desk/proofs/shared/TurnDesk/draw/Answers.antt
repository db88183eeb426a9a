use Rattle.std.proofs.Common.{rules, subst, sym, ap, ◌∙◌}
use Rattle.turn_desk.proofs.SharedLemmas.{draws}
use Rattle.turn_desk.proofs.shared.TurnDesk.draw.Goals as goal

pub compare_exchange-found-requires : goal.compare_exchange-found-requires
compare_exchange-found-requires g c = (search rules, search rules, draws _ _ _ _ _ _ (search rules) (search rules))
