use Rattle.std.proofs.Common.{◌∙◌, Some}
use Rattle.cse_server.proofs.SendingLemmas.{answered}
use Rattle.cse_server.proofs.sending.exchange_once.Goals as goal

pub returns-in-Ok-clause-ok : goal.returns-in-Ok-clause-ok
returns-in-Ok-clause-ok g c =
    let told = c.in-Ok.ensures.ok in (
      Some told.0,
      answered c.args.request.now c.args.url.now c.args.aim _ _ told.0 _ _ _ _
          c.host_of.ensures (c.deref.ensures.value ∙ c.in_ok-text.ensures) told.2 (c.in-Ok.ensures.faults.steady (λ e. cc)),
    )
