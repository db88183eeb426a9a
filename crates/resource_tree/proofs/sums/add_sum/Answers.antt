use Rattle.std.specs.Prelude.{nat_eq}
use Rattle.std.proofs.Common.{ap, sym, ◌∙◌, refl}
use Rattle.std.specs.HashMap.{get}
use Rattle.resource_tree.specs.Index.{grown_sum}
use Rattle.resource_tree.proofs.IndexLemmas.{grown_put, put_forgotten}
use Rattle.resource_tree.proofs.sums.add_sum.Goals as goal

pub returns-in-Some : goal.returns-in-Some
returns-in-Some c p s e =
    grown_put (λ q. get nat_eq c.args.sums.now q) c.args.container p c.args.is_first c.args.size c.in-Some.sum s
    (ap (grown_sum c.args.is_first c.args.size) (sym c.sum_of.ensures) ∙ c.grown_sum.ensures c.in-Some.sum c.in-Some.is) (c.put_sum.ensures p s e)

pub returns-in-None : goal.returns-in-None
returns-in-None c p s e =
    put_forgotten (nat_eq c.args.container p) (grown_sum c.args.is_first c.args.size (get nat_eq c.args.sums.now p)) (get nat_eq c.args.sums.now p) (get nat_eq c.args.sums.now p) (get nat_eq c.forget_sum.new.sums p) s refl (c.forget_sum.ensures p) e
