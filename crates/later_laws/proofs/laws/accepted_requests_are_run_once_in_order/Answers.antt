use Rattle.std.specs.Prelude.{Contains}
use Rattle.std.proofs.Common.{sym, subst}
use Rattle.later_replies.specs.Runs.{is_to_run}
use Rattle.later_laws.proofs.GoingLemmas.{contains_filtered, not_run_stays}
use Rattle.later_laws.proofs.OnceLemmas.{runs_once}
use Rattle.later_laws.proofs.SoundLemmas.{turns_keep}
use Rattle.later_laws.proofs.StaysLemmas.{sound_in_order}
use Rattle.later_laws.proofs.laws.accepted_requests_are_run_once_in_order.Goals as goal

pub returns-clause-order : goal.returns-clause-order
returns-clause-order c = λ before after history turns sound has.
    (turns_keep history turns 0 before after (sound_in_order before sound) has).rises

pub returns-clause-run : goal.returns-clause-run
returns-clause-run c = λ before after e t x is has runs.
    subst (λ l. Contains l x) (sym is.ran) (contains_filtered (is_to_run is.moment e.event) before.requests.entries x runs has)

pub returns-clause-left : goal.returns-clause-left
returns-clause-left c = λ before after e t x is has never.
    not_run_stays (is_to_run is.moment e.event) before.requests.entries t.ran is.left.entries x is.are_left has never

pub returns-clause-once : goal.returns-clause-once
returns-clause-once c = λ start before after earlier later first second x sound began has there waits comes.
    let once = runs_once start before after earlier later first second x sound began has there waits comes in
    (once.runs, once.once)
