use Rattle.std.proofs.Common.{◌++◌, [], ◌∷◌, sym, ◌∙◌, subst}
use Rattle.m2m_names.specs.declared.types.Ty.TheVariants.{ContentInstance, PollingChannel, Subscription}
use Rattle.tree_model.specs.Tree.{is_kin, is_under}
use Rattle.resource_tree.specs.Index.{HasNumbers, HasSums}
use Rattle.resource_tree.proofs.IndexLemmas.{children_grown, first_sizes, low, sums_grown, taken_back, under_picks}
use Rattle.resource_tree.proofs.kin.Kin.add.Goals as goal

pub add_kin-requires : goal.add_kin-requires
add_kin-requires c = low is_under c.args.list.now c.args.resource.now c.args.self.now.children c.number-number.result c.parent-parent.result c.requires.kin.children c.requires.next c.number-number.ensures.value

pub add_by_type-requires-clause-types : goal.add_by_type-requires-clause-types
add_by_type-requires-clause-types c = record { instances = c.requires.kin.types.instances; subs = c.requires.kin.types.subs; channels = c.requires.kin.types.channels }

pub returns-in-Err-clause-err : goal.returns-in-Err-clause-err
returns-in-Err-clause-err c =
    let nodes = c.args.list.now in
    let r = c.args.resource.now in
    let grown = children_grown nodes r c.requires.next c.number-number.result c.parent-parent.result c.number-number.ensures.value c.parent-parent.ensures.value c.args.self.now.children c.add_kin.new.kin c.requires.kin.children c.in_ok-add_kin.ensures.ok in
    let types = c.in-Err.ensures.err in
    record {
      children = taken_back nodes r c.requires.next c.number-number.result c.parent-parent.result c.number-number.ensures.value c.parent-parent.ensures.value is_under c.add_by_type.new.self.children c.take_kin.new.kin under_picks (subst (λ m. HasNumbers is_under (nodes ++ r ∷ []) m) (sym c.add_by_type.ensures.children) grown) c.take_kin.ensures;
      types = record { instances = types.instances; subs = types.subs; channels = types.channels };
      sums = subst (λ m. HasSums nodes m) (sym c.add_by_type.ensures.sums) c.requires.kin.sums;
    }

pub returns-clause-ok : goal.returns-clause-ok
returns-clause-ok c =
    let nodes = c.args.list.now in
    let r = c.args.resource.now in
    let grown = children_grown nodes r c.requires.next c.number-number.result c.parent-parent.result c.number-number.ensures.value c.parent-parent.ensures.value c.args.self.now.children c.add_kin.new.kin c.requires.kin.children c.in_ok-add_kin.ensures.ok in
    let types = c.in_default.ensures.ok in
    record {
      children = subst (λ m. HasNumbers is_under (nodes ++ r ∷ []) m) (sym (c.add_sum.ensures.children ∙ c.add_by_type.ensures.children)) grown;
      types = record {
        instances = subst (λ m. HasNumbers (is_kin ContentInstance) (nodes ++ r ∷ []) m) (sym c.add_sum.ensures.instances) types.instances;
        subs = subst (λ m. HasNumbers (is_kin Subscription) (nodes ++ r ∷ []) m) (sym c.add_sum.ensures.subs) types.subs;
        channels = subst (λ m. HasNumbers (is_kin PollingChannel) (nodes ++ r ∷ []) m) (sym c.add_sum.ensures.channels) types.channels;
      };
      sums = sums_grown nodes r c.add_by_type.new.self.sums c.add_sum.new.self.sums _ (subst (λ m. HasSums nodes m) (sym c.add_by_type.ensures.sums) c.requires.kin.sums) (first_sizes nodes c.args.self.now.instances c.parent-parent.result r.parent c.count_of_kin-is_first.result c.requires.kin.types.instances c.count_of_kin-is_first.ensures c.parent-parent.ensures.value) c.add_sum.ensures.sums;
    }
