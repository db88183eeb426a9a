use Rattle.std.proofs.Common.{List, sym, ap, ◌∙◌}
use Rattle.m2m_value.proofs.Begins.{on_err}
use Rattle.resource_model.specs.Resource.{ResourceData}
use Rattle.tree_model.specs.Tree.{is_tree}
use Rattle.resource_store.specs.Overdue.{is_first_at}
use Rattle.resource_tree.proofs.OverdueLemmas.{first_overdue, first_there, one_gathered}
use Rattle.resource_tree.proofs.index_tree.IndexTree.gather_first.Goals as goal

pub gather-requires : goal.gather-requires
gather-requires c =
    first_there c.args.self.now c.args.moment (sym (ap is_tree c.self.view_is) ∙ c.self.invariant.tree) c.args.number (ap (λ (ns : List ResourceData). is_first_at c.args.moment ns c.args.number) (sym c.self.view_is) ∙ sym c.is_first_overdue.ensures ∙ c.if-is_first_overdue.true)

pub returns-in_ok-gather-clause-ok : goal.returns-in_ok-gather-clause-ok
returns-in_ok-gather-clause-ok c =
    one_gathered c.args.self.now c.args.moment (sym (ap is_tree c.self.view_is) ∙ c.self.invariant.tree) c.args.number _ _ (ap (λ (ns : List ResourceData). is_first_at c.args.moment ns c.args.number) (sym c.self.view_is) ∙ sym c.is_first_overdue.ensures ∙ c.if-is_first_overdue.true) c.in_ok-gather.ensures

pub returns-in_err-gather-clause-memory : goal.returns-in_err-gather-clause-memory
returns-in_err-gather-clause-memory c =
    on_err c.from_residual.result _ (first_overdue c.args.self.now c.args.moment (sym (ap is_tree c.self.view_is) ∙ c.self.invariant.tree) c.args.number (ap (λ (ns : List ResourceData). is_first_at c.args.moment ns c.args.number) (sym c.self.view_is) ∙ sym c.is_first_overdue.ensures ∙ c.if-is_first_overdue.true))
