use Rattle.std.proofs.Common.{refl, sym, inl}
use Rattle.cse_cli.proofs.RunningLemmas.{runs_starved}
use Rattle.cse_cli.proofs.WordsLemmas.{is_none, is_said}
use Rattle.cse_cli.proofs.command.run.Goals as goal

pub returns-in-Ok-Some-clause-runs : goal.returns-in-Ok-Some-clause-runs
returns-in-Ok-Some-clause-runs g c = rw (sym (is_said _ _ _ c.in-Ok-Some.ensures c.in-Ok-Some.field-0-is), c.told.ensures.same) c.run_command.ensures

-- they are no command
pub returns-in-Ok-None-clause-runs : goal.returns-in-Ok-None-clause-runs
returns-in-Ok-None-clause-runs g c = rw (is_none _ _ c.in-Ok-None.ensures c.in-Ok-None.field-0-is, c.told-in-Ok-None.ensures.same) (record { status_is = inl refl; still = refl })

pub returns-in-Err-clause-runs : goal.returns-in-Err-clause-runs
returns-in-Err-clause-runs g c = rw c.told-in-Err.ensures.same (runs_starved _ _ _)
