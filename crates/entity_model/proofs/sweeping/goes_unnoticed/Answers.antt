use Rattle.std.proofs.Common.{sym, ◌∙◌}
use Rattle.entity_model.proofs.UnnoticedLemmas.{kept_unnoticed}
use Rattle.entity_model.proofs.sweeping.goes_unnoticed.Goals as goal

-- it is an instance of the container that is kept
pub returns-then-is_some-clause-unnoticed : goal.returns-then-is_some-clause-unnoticed
returns-then-is_some-clause-unnoticed g c t =
    kept_unnoticed (g.T.Tree.nodes c.args.tree.now) c.in-Some.gone.now c.requires.formed c.args.number (sym c.in-Some.ensures.value) c.unnoticed_container.result (sym c.is_some.ensures ∙ c.if-is_some.true) c.unnoticed_container.ensures
