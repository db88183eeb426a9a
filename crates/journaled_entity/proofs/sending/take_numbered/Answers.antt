use Rattle.std.proofs.Common.{◌≡◌, true, false, sym, ◌∙◌}
use Rattle.journal_events.specs.Steps.{is_next}
use Rattle.journaled_entity.proofs.SendingLemmas.{kept_unsent, taken_sent}
use Rattle.journaled_entity.proofs.sending.take_numbered.Goals as goal

-- it is another one
pub returns-then-not-is_next-clause-rest : goal.returns-then-not-is_next-clause-rest
returns-then-not-is_next-clause-rest g c =
    let other : is_next c.args.number c.args.entity.now ≡ false = sym c.is_next.ensures ∙ c.if-not-is_next.true in
    sym (kept_unsent c.args.number c.args.entity.now other)

-- it is taken
pub returns-clause-rest : goal.returns-clause-rest
returns-clause-rest g c =
    let next : is_next c.args.number c.args.entity.now ≡ true = sym c.is_next.ensures ∙ c.if-not-is_next.false in
    c.take_next.ensures.rest ∙ sym (taken_sent c.args.number c.args.entity.now next)
