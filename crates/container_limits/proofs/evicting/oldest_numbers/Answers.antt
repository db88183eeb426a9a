use Rattle.std.proofs.Common.{◌≡◌, ◌≢◌, ◌++◌, ℕ, List, [], take, Option, option_to_list, sym, ap, subst, ◌∙◌, arith}
use Rattle.m2m_value.proofs.Begins.{on_err}
use Rattle.tree_model.specs.Tree.{instances_of}
use Rattle.container_limits.specs.Limits.{numbers_of}
use Rattle.container_limits.proofs.OutsideLemmas.{next_number, some_number}
use Rattle.container_limits.proofs.evicting.oldest_numbers.Goals as goal

pub loop-k-preserved : goal.loop-k-preserved
loop-k-preserved g c =
    let rs = instances_of c.args.container (g.T.Tree.nodes c.args.tree.now) in
    c.in_ok-push_some.ensures.ok
    ∙ ap (λ (ns : List ℕ). ns ++ option_to_list c.nth_instance-number.result) c.loop-k.invariant
    ∙ ap (λ (o : Option ℕ). numbers_of (take c.loop-k.k rs) ++ option_to_list o) c.nth_instance-number.ensures.value
    ∙ sym (next_number rs c.loop-k.k)

pub returns-in_err-push_some-clause-memory : goal.returns-in_err-push_some-clause-memory
returns-in_err-push_some-clause-memory g c =
    let rs = instances_of c.args.container (g.T.Tree.nodes c.args.tree.now) in
    on_err c.from_residual.result _ (some_number rs c.loop-k.k c.args.count c.loop-k-test.true (subst (λ (o : Option ℕ). option_to_list o ≢ []) c.nth_instance-number.ensures.value c.in_err-push_some.ensures.memory))

pub returns-clause-value : goal.returns-clause-value
returns-clause-value g c =
    let rs = instances_of c.args.container (g.T.Tree.nodes c.args.tree.now) in
    let all : c.loop-k.k ≡ c.args.count = omega (arith, c.loop-k-test.false, c.loop-k.auto.k-end) in
    c.loop-k.invariant ∙ ap (λ n. numbers_of (take n rs)) all
