use Rattle.journal_opening.proofs.CountLemmas.{passed_up}
use Rattle.later_opening.proofs.PlayLemmas.{opens_later, refused_then}
use Rattle.later_opening.proofs.opening.play_bytes.Goals as goal

pub returns-clause-opens : goal.returns-clause-opens
returns-clause-opens g c =
    opens_later c.args.home c.args.bytes.now _ c.in_ok-len.len _ c.in_ok-entity.ensures.begun _ _ c.in_ok-len.ensures.played c.in_ok-len.ensures.shut

pub returns-clause-front : goal.returns-clause-front
returns-clause-front g c = (_, c.in_ok-entity.ensures.begun)

pub returns-in_err-len-clause-refused : goal.returns-in_err-len-clause-refused
returns-in_err-len-clause-refused g c =
    passed_up c.from_residual-in_err-len.result c.in_err-len.field-0.0 _ c.from_residual-in_err-len.ensures.1
    (refused_then c.args.home c.args.bytes.now _ _ c.in_err-len.field-0.0 c.in_ok-entity.ensures.begun c.in_err-len.ensures.fault)
