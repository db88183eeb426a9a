use Rattle.std.proofs.Common.{rules}
use Rattle.std.proofs.lemmas.Map.Made.{filter_same_pairs}
use Rattle.tree_model.specs.Tree.{has}
use Rattle.resource_names.proofs.NameLemmas.{lookup_kept}
use Rattle.resource_names.proofs.names.Names.let_go.Goals as goal

pub returns : goal.returns
returns c name n found there =
    let kept = filter_same_pairs _ (λ e. has e.1 c.args.list.now) _ (λ k v b w f' t. search rules) _ _ c.retain.ensures.filtered in
    rw kept (lookup_kept _ (λ k. has k c.args.list.now) c.args.self.now.numbers.entries n found there)
