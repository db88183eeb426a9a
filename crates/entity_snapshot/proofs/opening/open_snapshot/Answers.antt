use Rattle.std.proofs.lemmas.Result.{err_from_is_err_and}
use Rattle.entity_snapshot.proofs.RefusalLemmas.{none_refused}
use Rattle.entity_snapshot.proofs.opening.open_snapshot.Goals as goal

pub returns-in_err-head-clause-only : goal.returns-in_err-head-clause-only
returns-in_err-head-clause-only g c = λ e front back spells own at.
    let p = err_from_is_err_and c.from_residual.result c.from_residual.ensures.1 in
    rw (p.1, p.2) (none_refused c.args.home c.args.text.now e front back spells own at _ c.in_err-head.ensures.refused)
