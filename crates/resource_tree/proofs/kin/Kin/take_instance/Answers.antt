use Rattle.std.specs.Prelude.{nat_eq}
use Rattle.std.proofs.Common.{◌-◌, ap, option_map, sym, ◌∙◌}
use Rattle.std.specs.HashMap.{get}
use Rattle.m2m_names.specs.declared.types.Ty.TheVariants.{ContentInstance}
use Rattle.resource_model.specs.Resource.{is_ty}
use Rattle.resource_tree.proofs.IndexLemmas.{kept_elsewhere, none_taken, nothing_less, one_taken}
use Rattle.resource_tree.proofs.kin.Kin.take_instance.Goals as goal

pub returns-then-not-is_of-clause-instances : goal.returns-then-not-is_of-clause-instances
returns-then-not-is_of-clause-instances c p =
    sym (none_taken (nat_eq c.args.row.parent p) (is_ty c.args.row.ty ContentInstance) _ _ (sym c.if-not-is_of.ensures))

pub returns-then-not-is_of-clause-sums : goal.returns-then-not-is_of-clause-sums
returns-then-not-is_of-clause-sums c p s e =
    ap (λ k. option_map (λ t. t - k) (get nat_eq c.args.self.now.sums p)) (none_taken (nat_eq c.args.row.parent p) (is_ty c.args.row.ty ContentInstance) c.args.row.size 0 (sym c.if-not-is_of.ensures))
    ∙ nothing_less (get nat_eq c.args.self.now.sums p) s e

pub returns-then-takes_last-clause-instances : goal.returns-then-takes_last-clause-instances
returns-then-takes_last-clause-instances c p =
    c.if-takes_last.ensures p
    ∙ sym (one_taken (nat_eq c.args.row.parent p) (is_ty c.args.row.ty ContentInstance) _ _ (sym c.if-not-is_of.ensures))

pub returns-then-takes_last-clause-sums : goal.returns-then-takes_last-clause-sums
returns-then-takes_last-clause-sums c p s e =
    kept_elsewhere (get nat_eq c.args.self.now.sums p) (get nat_eq c.forget_sum.new.sums p) (nat_eq c.args.row.parent p) (is_ty c.args.row.ty ContentInstance) c.args.row.size s (c.forget_sum.ensures p) e

pub returns-else-takes_last-clause-instances : goal.returns-else-takes_last-clause-instances
returns-else-takes_last-clause-instances c p =
    c.if-takes_last.ensures p
    ∙ sym (one_taken (nat_eq c.args.row.parent p) (is_ty c.args.row.ty ContentInstance) _ _ (sym c.if-not-is_of.ensures))

pub returns-else-takes_last-clause-sums : goal.returns-else-takes_last-clause-sums
returns-else-takes_last-clause-sums c p s e =
    ap (λ k. option_map (λ t. t - k) (get nat_eq c.args.self.now.sums p)) (one_taken (nat_eq c.args.row.parent p) (is_ty c.args.row.ty ContentInstance) c.args.row.size 0 (sym c.if-not-is_of.ensures))
    ∙ sym (c.take_sum.ensures p)
    ∙ e
