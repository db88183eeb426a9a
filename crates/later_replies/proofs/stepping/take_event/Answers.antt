use Rattle.later_replies.proofs.StepLemmas.{nothing_asked}
use Rattle.later_replies.proofs.stepping.take_event.Goals as goal

pub ask-requires-clause-asks : goal.ask-requires-clause-asks
ask-requires-clause-asks g c = c.in-Ask.is

pub returns-in-Take : goal.returns-in-Take
returns-in-Take g c = record {
  told = c.step.result;
  step = c.step.ensures;
  answered = nothing_asked c.args.entity.now.home c.args.requests.now c.args.moment c.args.event.now c.step.result c.in-Take.is;
}
