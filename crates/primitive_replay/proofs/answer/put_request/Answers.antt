use Rattle.std.proofs.Common.{[], ◌∷◌, refl, sym, subst}
use Rattle.cse_machine.specs.declared.event.Outcome.{Outcome}
use Rattle.desk_replies.specs.Replies.{GivesReply}
use Rattle.desk_replies.proofs.RepliesLemmas.{onward_goes}
use Rattle.primitive_replay.proofs.answer.put_request.Goals as goal

pub returns-in-Done : goal.returns-in-Done
returns-in-Done g c = record {
  outcome = c.step.result;
  carried = [];
  step = c.step.ensures;
  gives = subst (λ (o : Outcome). GivesReply c.args.request o c.in-Done.reply []) (sym c.in-Done.is) (refl, refl);
  link = refl;
}

pub returns-in-Forward : goal.returns-in-Forward
returns-in-Forward g c =
    let one = c.reply_onward.ensures in
    record {
      outcome = c.step.result;
      carried = one.carrying ∷ [];
      step = c.step.ensures;
      gives = subst (λ (o : Outcome). GivesReply c.args.request o c.reply_onward.result (one.carrying ∷ [])) (sym c.in-Forward.is)
          (onward_goes c.in-Forward.poa c.in-Forward.request c.reply_onward.result _ _ one);
      link = (_, one.link, refl);
    }

pub returns-in-Starved : goal.returns-in-Starved
returns-in-Starved g c = record {
  outcome = c.step.result;
  carried = [];
  step = c.step.ensures;
  gives = subst (λ (o : Outcome). GivesReply c.args.request o c.starved_reply.result []) (sym c.in-Starved.is)
      (c.starved_reply.ensures c.args.request refl, refl);
  link = refl;
}
