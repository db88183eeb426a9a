-- What is done for the words, command by command.
use Rattle.std.proofs.Common.{◌≢◌, ℕ, Option, Some, None, refl, inl, inr, arith}
use Rattle.m2m_io.specs.declared.status.Status.{Status}
use Rattle.m2m_io.specs.declared.status.Status.TheVariants.{Memory}
use Rattle.resource_model.specs.Home.{HomeData}
use Rattle.command_words.specs.Command.{Command, Serving, Task, http, replay, twin, serve, generate}
use Rattle.cse_server.specs.Outside.{EndsByFault}
use Rattle.entity_model.specs.Entity.{EntityData}
use Rattle.entity_model.specs.Opening.{opening}
use Rattle.primitive_replay.proofs.ItemLemmas.{replays_none}
use Rattle.primitive_replay.proofs.TurnLemmas.{starved_first}
use Rattle.twin_replay.specs.Sides.{starting}
use Rattle.twin_replay.proofs.LineLemmas.{starved_first as starved_twins}
use Rattle.cse_server.specs.declared.bench.Bench.{Bench}
use Rattle.cse_cli.specs.Devices.{Devices}
use Rattle.cse_cli.specs.Running.{RunsCommand, RunsTask}

-- a device was left alone, by what ended with another status than its fault
pub no_fault : {fault status : Status} {count : ℕ} → status ≢ fault → EndsByFault fault status count count
no_fault other = record { count = omega arith; cause = λ e. absurd (other e); steady = λ _. refl }

module _ {S O C L D : Type 0} (served : HomeData → Serving → EntityData → Bench C L → Bench C L → Type 0) where
  -- memory ran out before a task was done
  starved_task : (task : Task) (home : HomeData) (devices : Devices S O C L D) → RunsTask served task home devices devices Memory
  starved_task (http later) home devices = record {
    done = inr (record { status_is = refl; same = refl });
    no_usage = λ e. cc;
    reads = no_fault (λ e. cc);
    writes = no_fault (λ e. cc);
    door = refl;
  }
  starved_task replay home devices = record {
    done = record {
      replays = replays_none (opening home 0) _ _ _ _ _ _ _ _ (starved_first (opening home 0) _ _ _ _);
      still = refl;
    };
    no_usage = λ e. cc;
    reads = no_fault (λ e. cc);
    writes = no_fault (λ e. cc);
    door = refl;
  }
  starved_task twin home devices = record {
    done = record { twins = starved_twins (starting home) _ _; readings = refl; link = refl };
    no_usage = λ e. cc;
    reads = no_fault (λ e. cc);
    writes = no_fault (λ e. cc);
    door = refl;
  }
  starved_task (serve serving) home devices = record {
    opens = inl (refl, refl);
    no_usage = λ e. cc;
    input = refl;
    out = refl;
  }
  starved_task (generate requests) home devices = record {
    done = record { generates = refl; left = refl; readings = refl; link = refl };
    no_usage = λ e. cc;
    reads = no_fault (λ e. cc);
    writes = no_fault (λ e. cc);
    door = refl;
  }

  -- memory ran out for reading them
  pub runs_starved : (words : Option Command) (devices : Devices S O C L D)
      → RunsCommand served words devices devices Memory
  runs_starved None devices = record { status_is = inr refl; still = refl }
  runs_starved (Some command) devices = starved_task command.task command.home devices
