use Rattle.std.proofs.Common.{sym}
use Rattle.cse_machine.proofs.PlaceLemmas.{claimed_is}
use Rattle.cse_machine.proofs.machine.judge.Goals as goal

pub judge_address-requires-clause-claimed : goal.judge_address-requires-clause-claimed
judge_address-requires-clause-claimed g c =
    claimed_is c.args.entity.now.home c.args.request.now c.in-Some.originator.now (sym c.in-Some.ensures.value)
