use Rattle.std.specs.Prelude.{nat_lt}
use Rattle.std.proofs.Common.{ap, ◌∙◌}
use Rattle.std.specs.List.{list_all}
use Rattle.std.specs.Result.{is_ok}
use Rattle.resource_tree.proofs.QueueLemmas.{pushed}
use Rattle.resource_tree.proofs.queue.Queue.push.Goals as goal

pub invariant_of-self-2 : goal.invariant_of-self-2
invariant_of-self-2 c =
    pushed c.self.inside.numbers.items c.push_back.new.self.items c.args.number (is_ok c.push_back.result) c.self.invariant (ap (list_all (λ m. nat_lt m c.args.number)) c.self.view_is ∙ c.requires) c.push_back.ensures.items
