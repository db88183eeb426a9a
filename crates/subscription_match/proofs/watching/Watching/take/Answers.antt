use Rattle.std.proofs.Common.{true, false}
use Rattle.subscription_match.proofs.WatchingLemmas.{firsts, one_gives, other_gives}
use Rattle.subscription_match.proofs.watching.Watching.take.Goals as goal

pub returns-then-comes_next-clause-taken : goal.returns-then-comes_next-clause-taken
returns-then-comes_next-clause-taken g c =
    one_gives c.self.inside.own c.self.inside.above c.take.new.self c.args.self.now c.take.result c.self.view_is
    (firsts c.self.inside.own c.self.inside.above _ _ _ true c.first-own.ensures c.first-above.ensures c.comes_next.ensures c.if-comes_next.true) c.take.ensures.taken

pub returns-else-comes_next-clause-taken : goal.returns-else-comes_next-clause-taken
returns-else-comes_next-clause-taken g c =
    other_gives c.self.inside.own c.self.inside.above c.take-else-comes_next.new.self c.args.self.now c.take-else-comes_next.result c.self.view_is
    (firsts c.self.inside.own c.self.inside.above _ _ _ false c.first-own.ensures c.first-above.ensures c.comes_next.ensures c.if-comes_next.false) c.take-else-comes_next.ensures.taken
