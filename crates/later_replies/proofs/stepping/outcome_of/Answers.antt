use Rattle.std.proofs.Common.{sym, ap, subst, ◌∙◌}
use Rattle.cse_machine.specs.declared.event.Outcome.{Outcome}
use Rattle.cse_machine.specs.declared.event.Outcome.TheVariants.{Done}
use Rattle.later_replies.specs.Step.{IsAnsweredBy, outcome_made}
use Rattle.later_replies.proofs.StepLemmas.{outcome_by}
use Rattle.later_replies.proofs.stepping.outcome_of.Goals as goal

pub returns : goal.returns
returns c = λ before after effect gives.
    subst (λ (o : Outcome). IsAnsweredBy effect before (Done c.args.reply) o after) (sym (c.outcome_made.ensures ∙ ap outcome_made c.unwrap_or.ensures))
    (outcome_by c.args.given c.args.reply before after effect gives)
