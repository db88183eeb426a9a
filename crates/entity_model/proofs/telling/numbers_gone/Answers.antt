use Rattle.std.proofs.Common.{rules}
use Rattle.std.proofs.lemmas.Fn.{filter_same}
use Rattle.subscription_match.specs.Spending.{left_at}
use Rattle.entity_model.specs.Telling.{has_more}
use Rattle.entity_model.proofs.telling.numbers_gone.Goals as goal

pub returns : goal.returns
returns g c = filter_same _ (λ n. has_more 0 (left_at (g.T.Tree.nodes c.args.tree.now) n)) _ (λ x b f' k. search rules) _ _ c.retain.ensures.filtered
