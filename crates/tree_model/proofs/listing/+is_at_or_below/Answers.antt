use Rattle.std.proofs.Common.{◌≡◌, ◌<◌, sym, ap, ◌∙◌, rules}
use Rattle.std.proofs.lemmas.Bool.{eq-eqb}
use Rattle.std.specs.List.{list_any}
use Rattle.resource_model.specs.Resource.{has_number}
use Rattle.tree_model.specs.Tree.{line_of}
use Rattle.tree_model.proofs.ListingLemmas.{it_is, its_parent_is, none_is, parent_below}
use Rattle.tree_model.proofs.listing.+is_at_or_below.Goals as goal

pub is_at_or_below-requires : goal.is_at_or_below-requires
is_at_or_below-requires g t c κs within =
    let lower : c.in-Some.resource.now.parent < c.args.number = parent_below (g.T.Tree.nodes c.args.tree.now) c.in-Some.ensures.tree c.args.target c.args.number c.in-Some.resource.now (sym c.in-Some.ensures.value) in
    let same : c.parent.result ≡ c.in-Some.resource.now.parent = c.parent.ensures.value in
    search rules

pub returns-then-number-target : goal.returns-then-number-target
returns-then-number-target g t c =
    eq-eqb c.number.result c.args.target c.if-number-target.true
    ∙ it_is (g.T.Tree.nodes c.args.tree.now) c.in-Some.ensures.tree c.args.target c.args.number c.in-Some.resource.now (sym c.in-Some.ensures.value)
    (sym c.number.ensures.value ∙ c.if-number-target.true)

pub returns-else-number-target : goal.returns-else-number-target
returns-else-number-target g t c =
    its_parent_is (g.T.Tree.nodes c.args.tree.now) c.in-Some.ensures.tree c.args.target c.args.number c.in-Some.resource.now c.is_at_or_below.result (sym c.in-Some.ensures.value)
    (λ is. c.if-number-target.false (c.number.ensures.value ∙ is))
    (c.is_at_or_below.ensures ∙ ap (λ n. list_any (has_number c.args.target) (line_of n (g.T.Tree.nodes c.args.tree.now))) c.parent.ensures.value)

pub returns-in-None : goal.returns-in-None
returns-in-None g t c =
    none_is (g.T.Tree.nodes c.args.tree.now) c.in-None.ensures.tree c.args.target c.args.number (sym c.in-None.ensures.value)
