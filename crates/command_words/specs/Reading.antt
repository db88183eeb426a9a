-- What was read of words, and what it stands for.
use Rattle.std.specs.Prelude.{◌≡◌, ℕ, List, Option, Some, None, ⊤}
use Rattle.std.specs.declared.result.Result.{Result}
use Rattle.std.specs.declared.result.Result.TheVariants.{Ok, Err}
use Rattle.resource_model.specs.Home.{HomeData}
use Rattle.command_words.specs.Command.{Command, Logged, Serving, Task, http, replay, serve}
use Rattle.command_words.specs.Command.{Bind, over_http, over_ws}
use Rattle.command_words.specs.Command.{twin, generate, requests, figures, faults, nothing}
use Rattle.command_words.specs.Line.{Asked, runs, runs_over, shortens, helps, tells_version}
use Rattle.command_words.specs.declared.command.Bind as declared_bind
use Rattle.command_words.specs.declared.command.Bind.TheVariants as declared_binds
use Rattle.command_words.specs.declared.command.Command as declared_command
use Rattle.command_words.specs.declared.command.Serving as declared_serving
use Rattle.command_words.specs.declared.command.Logged as declared_logged
use Rattle.command_words.specs.declared.command.Logged.TheVariants as declared_kinds
use Rattle.command_words.specs.declared.command.Task as declared_task
use Rattle.command_words.specs.declared.command.Task.TheVariants as declared_tasks
use Rattle.command_words.specs.declared.faults.LineFault.{LineFault}
use Rattle.command_words.specs.declared.faults.LineFault.TheVariants.{Words, OutOfMemory}
use Rattle.command_words.specs.declared.home.HomeWords as declared_home
use Rattle.command_words.specs.declared.line.Asked as declared_asked
use Rattle.command_words.specs.declared.line.Asked.TheVariants as declared_askings

-- the parts of a home that were read
abbrev pub home_by : declared_home.HomeWords → HomeData
home_by home = record {
  sp = home.sp.now;
  csi = home.csi.now;
  base = home.base.now;
  cst = home.cst;
  admin = home.admin.now;
}

-- what is to be logged, as it was read
abbrev pub logged_by : declared_logged.Logged → Logged
logged_by declared_kinds.Requests = requests
logged_by declared_kinds.Figures = figures
logged_by declared_kinds.Faults = faults
logged_by declared_kinds.Nothing = nothing

-- the protocol, as it was read
abbrev pub bind_by : declared_bind.Bind → Bind
bind_by declared_binds.Http = over_http
bind_by declared_binds.Ws = over_ws

-- the server that was read
abbrev pub serving_by : declared_serving.Serving → Serving
serving_by s = record {
  listen = s.listen.now;
  accept = s.accept;
  workers = s.workers;
  log = logged_by s.log;
  bind = bind_by s.bind;
  later = s.later;
}

-- the task that was read
abbrev pub task_by : declared_task.Task → Task
task_by (declared_tasks.Http later) = http later
task_by declared_tasks.Replay = replay
task_by declared_tasks.Twin = twin
task_by (declared_tasks.Serve serving) = serve (serving_by serving)
task_by (declared_tasks.Generate count) = generate count

-- the command that was read
abbrev pub command_by : declared_command.Command → Command
command_by command = record { task = task_by command.task; home = command.home }

-- what was read that is asked for
abbrev pub asked_by : declared_asked.Asked → Asked
asked_by (declared_askings.Run command) = runs (command_by command)
asked_by (declared_askings.RunOver file command) = runs_over file.now (command_by command)
asked_by (declared_askings.Snapshot file home) = shortens file.now home
asked_by declared_askings.Help = helps
asked_by declared_askings.Version = tells_version

module _ {A B : Type 0} where
  -- What was read stands for what words say. At a fault of theirs they say nothing; and memory may
  -- have run out, whatever they say.
  abbrev pub Reads : (A → B) → Option B → Result A LineFault → Type 0
  Reads by said (Ok read) = said ≡ Some (by read)
  Reads by said (Err (Words fault)) = said ≡ None
  Reads by said (Err OutOfMemory) = ⊤

-- memory ran out only where this holds
abbrev pub MayRunOut : {A : Type 0} → Type 0 → Result A LineFault → Type 0
MayRunOut P (Ok read) = ⊤
MayRunOut P (Err (Words fault)) = ⊤
MayRunOut P (Err OutOfMemory) = P
