use Rattle.std.proofs.Common.{rules}
use Rattle.std.proofs.lemmas.Fn.{always_returns_same}
use Rattle.resource_model.specs.Attributes.{attr_cmp}
use Rattle.resource_model.proofs.AttributeLemmas.{searched}
use Rattle.resource_model.proofs.attrs.place.Goals as goal

pub returns : goal.returns
returns c =
    let found = c.binary_search_by.ensures.position (λ row. attr_cmp row.0 c.args.attr) (always_returns_same _ _ _ (λ a r g called. search rules)) in
    searched c.args.attr c.args.rows.now c.binary_search_by.result c.requires c.binary_search_by.ensures.bound found
