use Rattle.std.specs.Prelude.{nat_lt}
use Rattle.std.proofs.Common.{◌≡◌, ◌<◌, ◌-◌, true, ap, sym, ◌∙◌, arith}
use Rattle.resource_model.specs.Resource.{is_ty}
use Rattle.m2m_names.specs.declared.types.Ty.TheVariants.{Ae}
use Rattle.tree_model.specs.Tree.{is_tree, level_of}
use Rattle.tree_model.proofs.GrowthLemmas.{tree_from_well_formed}
use Rattle.request_rules.proofs.DepthLemmas.{ae_less_deep, less_deep_nowhere, less_deep_up}
use Rattle.request_rules.proofs.limiting.+is_less_deep.Goals as goal

pub returns-in-Some : goal.returns-in-Some
returns-in-Some g t c =
    let nodes = g.T.Tree.nodes c.args.tree.now in
    let ae : is_ty c.in-Some.resource.now.ty Ae ≡ true = sym c.is.ensures ∙ c.if-is.true in
    let some : 2 < c.args.bound = omega arith in
    sym (ae_less_deep nodes c.args.number c.args.bound c.in-Some.resource.now c.requires (sym c.in-Some.ensures.value) ae some)

pub returns-in-Some-2 : goal.returns-in-Some-2
returns-in-Some-2 g t c =
    let nodes = g.T.Tree.nodes c.args.tree.now in
    let some : 0 < c.args.bound = omega (arith, c.if-bound-eq0.false) in
    c.is_less_deep.ensures ∙ ap (λ n. nat_lt (level_of n nodes) (c.args.bound - 1)) c.parent.ensures.value
    ∙ less_deep_up nodes c.args.number c.args.bound c.in-Some.resource.now (tree_from_well_formed nodes c.requires) (sym c.in-Some.ensures.value) some

pub returns-in-None : goal.returns-in-None
returns-in-None g t c =
    let nodes = g.T.Tree.nodes c.args.tree.now in
    let some : 0 < c.args.bound = omega (arith, c.if-bound-eq0.false) in
    sym (less_deep_nowhere nodes c.args.number c.args.bound (tree_from_well_formed nodes c.requires) (sym c.in-None.ensures.value) some)
