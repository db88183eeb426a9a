use Rattle.std.proofs.Common.{refl, ◌∙◌}
use Rattle.resource_tree.proofs.KinLemmas.{forgotten}
use Rattle.resource_tree.proofs.kin.takes_last.Goals as goal

pub returns-then-is_last : goal.returns-then-is_last
returns-then-is_last c p =
    forgotten c.take_from-is_last.new.kin c.remove-empty.new.self c.args.parent (c.if-is_last.ensures.none refl) (λ q. c.remove-empty.ensures.updates.0 q) p
    ∙ c.take_from-is_last.ensures.queues p
