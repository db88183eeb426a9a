use Rattle.std.proofs.Common.{◌∷◌, ◌++◌, subst}
use Rattle.turn_desk.specs.Entries.{entry_of}
use Rattle.cse_machine.specs.History.{History, HistoryLeaves}
use Rattle.cse_machine.specs.declared.event.Event.TheVariants.{Ask}
use Rattle.cse_machine.specs.declared.event.Outcome.TheVariants.{Done}
use Rattle.guard_laws.proofs.HistoryLemmas.{entry_steps, guarded_in_history}
use Rattle.later_laws.proofs.TurnLemmas.{turns_lead, turns_of}
use Rattle.later_laws.proofs.laws.the_entity_inside_has_a_legal_history.Goals as goal

pub returns-clause-legal : goal.returns-clause-legal
returns-clause-legal c = λ before after history run.
    let t = turns_of history before after run in
    (t.turns, t.have, t.leads)

pub returns-clause-steps : goal.returns-clause-steps
returns-clause-steps c = λ before after history earlier later turns reading event outcome sound has is.
    let leads : HistoryLeaves before.inner (earlier ++ entry_of reading event outcome ∷ later) after.inner =
    subst (λ (h : History). HistoryLeaves before.inner h after.inner) is (turns_lead history turns before after has) in
    entry_steps earlier later before.inner after.inner reading event outcome sound leads

pub returns-clause-guarded : goal.returns-clause-guarded
returns-clause-guarded c = λ before after history earlier later turns reading request reply sound has is.
    let leads : HistoryLeaves before.inner (earlier ++ entry_of reading (Ask request) (Done reply) ∷ later) after.inner =
    subst (λ (h : History). HistoryLeaves before.inner h after.inner) is (turns_lead history turns before after has) in
    guarded_in_history earlier later before.inner after.inner reading request reply sound leads
