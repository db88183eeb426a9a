use Rattle.std.proofs.Common.{ℕ, List, subst, ◌∙◌}
use Rattle.std.proofs.IntoIterSteps.{All-taken}
use Rattle.std.proofs.lemmas.Result.{IfOk-weaker}
use Rattle.std.specs.BTreeSet.{IsFromIterResult}
use Rattle.resource_dues.proofs.DuesLemmas.{entry_cmp, told_set}
use Rattle.resource_dues.proofs.dues.in_order.Goals as goal

pub returns : goal.returns
returns c =
    IfOk-weaker c.from_iter.result _ _ (λ set made. told_set c.args.entries.items set (subst (λ (es : List (ℕ × ℕ)). IsFromIterResult entry_cmp es set) (All-taken made.0 made.1 ((made.3.2 tt).0, (made.3.0, made.3.1, (made.3.2 tt).1)) ∙ made.2.0) made.4)) c.from_iter.ensures.ran
