use Rattle.std.proofs.Common.{◌≡◌, IfOk, OnOk, Result, Ok, Err, sym, ap, ◌∙◌, subst}
use Rattle.m2m_names.specs.declared.operations.Op.{Op}
use Rattle.primitive_json.specs.declared.reply.ReplyParts.{ReplyParts}
use Rattle.primitive_json.specs.declared.request.RequestParts.{RequestParts}
use Rattle.entity_model.specs.Entity.{EntityData}
use Rattle.cse_machine.specs.Answer.{poll_effect}
use Rattle.cse_machine.proofs.OutcomeLemmas.{answered_stays}
use Rattle.cse_machine.proofs.machine.operate_poll.Goals as goal

-- whatever the result is
on_ok : {E : Type 0} (result : Result ReplyParts E) (e after : EntityData) → e ≡ after → OnOk result (e ≡ after)
on_ok (Ok reply) e after same = same
on_ok (Err fault) e after same = tt

-- the answer of who polled leaves the entity as it is
pub returns-in-Notify-clause-gives : goal.returns-in-Notify-clause-gives
returns-in-Notify-clause-gives g c =
    let e = c.args.entity.now in
    let request = c.args.request.now in
    let asked = ap (λ (r : RequestParts). r.op) (sym c.parts.ensures.same) ∙ c.in-Notify.is in
    record {
      reply =
          subst (λ (op : Op). IfOk c.answer_poll.result (λ r. r ≡ (poll_effect op e request c.args.channel).reply))
          (sym asked) c.answer_poll.ensures;
      after = on_ok c.answer_poll.result e _ (answered_stays e request c.args.channel asked);
    }
