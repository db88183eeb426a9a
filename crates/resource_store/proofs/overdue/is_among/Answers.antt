use Rattle.std.proofs.Common.{ap, sym, ◌∙◌}
use Rattle.std.specs.Result.{is_ok}
use Rattle.tree_model.proofs.NumberLemmas.{among}
use Rattle.resource_store.proofs.overdue.is_among.Goals as goal

pub returns-in-Ok : goal.returns-in-Ok
returns-in-Ok c = ap is_ok (sym c.in-Ok.is) ∙ among c.args.number c.args.numbers.now c.binary_search.result c.requires c.binary_search.ensures.bound c.binary_search.ensures.position

pub returns-in-Err : goal.returns-in-Err
returns-in-Err c = ap is_ok (sym c.in-Err.is) ∙ among c.args.number c.args.numbers.now c.binary_search.result c.requires c.binary_search.ensures.bound c.binary_search.ensures.position
