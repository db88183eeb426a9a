use Rattle.std.proofs.Common.{◌≡◌, true, List, [], ◌∷◌, ◌++◌, sym, ap, ◌∙◌, subst}
use Rattle.resource_model.specs.Resource.{ResourceData}
use Rattle.tree_model.specs.Tree.{is_tree, may_stand}
use Rattle.tree_model.proofs.GrowthLemmas.{next_fits}
use Rattle.tree_model.proofs.KeptLemmas.{is_tree-append}
use Rattle.resource_dues.specs.Dues.{is_told, HasDues}
use Rattle.resource_tree.specs.Index.{HasKin}
use Rattle.resource_names.specs.Names.{IsNamed}
use Rattle.resource_dues.proofs.DuesLemmas.{dues_grown, dues_more}
use Rattle.resource_names.proofs.NameLemmas.{last_within, named_within}
use Rattle.resource_tree.proofs.index_tree.IndexTreeTree.insert.Goals as goal

-- no room for the moment at which it is due
pub invariant_of-self-in-Err-add : goal.invariant_of-self-in-Err-add
invariant_of-self-in-Err-add c =
    let nodes = c.self.inside.list in
    let r = c.args.resource in
    record {
      tree = c.self.invariant.tree;
      queues = c.self.invariant.queues;
      names = named_within (nodes ++ r ∷ []) nodes (last_within nodes r) c.add.new.self c.in_default.ensures.ok;
      told = dues_more nodes c.self.inside.dues c.add-2.new.self (λ whole. sym c.add-2.ensures.whole ∙ whole) c.add-2.ensures.kept c.self.invariant.told;
    }

-- none in the index
pub invariant_of-self-in-Err-add-2 : goal.invariant_of-self-in-Err-add-2
invariant_of-self-in-Err-add-2 c =
    let nodes = c.self.inside.list in
    let r = c.args.resource in
    record {
      tree = c.self.invariant.tree;
      queues = c.in-Err-add-2.ensures.err;
      names = named_within (nodes ++ r ∷ []) nodes (last_within nodes r) c.add.new.self c.in_default.ensures.ok;
      told = dues_more nodes c.self.inside.dues c.add-2.new.self (λ whole. sym c.add-2.ensures.whole ∙ whole) c.add-2.ensures.kept c.self.invariant.told;
    }

-- none in the list
pub invariant_of-self-in-Err-push : goal.invariant_of-self-in-Err-push
invariant_of-self-in-Err-push c =
    let nodes = c.self.inside.list in
    let r = c.args.resource in
    record {
      tree = ap is_tree c.in-Err-push.ensures.err ∙ c.self.invariant.tree;
      queues = c.take_back.ensures;
      names = subst (λ (ns : List ResourceData). IsNamed ns c.add.new.self) (sym c.in-Err-push.ensures.err) (named_within (nodes ++ r ∷ []) nodes (last_within nodes r) c.add.new.self c.in_default.ensures.ok);
      told = subst (λ (ns : List ResourceData). HasDues ns c.add-2.new.self) (sym c.in-Err-push.ensures.err) (dues_more nodes c.self.inside.dues c.add-2.new.self (λ whole. sym c.add-2.ensures.whole ∙ whole) c.add-2.ensures.kept c.self.invariant.told);
    }

pub invariant_of-self-in-Ok : goal.invariant_of-self-in-Ok
invariant_of-self-in-Ok c =
    let nodes = c.self.inside.list in
    let r = c.args.resource in
    let next = next_fits nodes r (ap (λ (ns : List ResourceData). may_stand ns r) c.self.view_is ∙ c.requires) in
    let grown : HasDues (nodes ++ r ∷ []) c.add-2.new.self = dues_grown nodes r c.self.inside.dues c.add-2.new.self c.self.invariant.tree next c.self.invariant.told c.add-2.ensures.whole c.add-2.ensures.kept (λ moment when. subst (λ n. is_told moment n c.add-2.new.self.moments.keys ≡ true) c.number.ensures.value (c.in_default-add.ensures.ok moment (c.due-moment.ensures ∙ when))) in
    record {
      tree = ap is_tree c.in-Ok.ensures.ok ∙ is_tree-append nodes r c.self.invariant.tree next;
      queues = subst (λ (ns : List ResourceData). HasKin ns c.add-3.new.self) (sym c.in-Ok.ensures.ok) c.in_default-add-2.ensures.ok;
      names = subst (λ (ns : List ResourceData). IsNamed ns c.add.new.self) (sym c.in-Ok.ensures.ok) c.in_default.ensures.ok;
      told = subst (λ (ns : List ResourceData). HasDues ns c.add-2.new.self) (sym c.in-Ok.ensures.ok) grown;
    }
