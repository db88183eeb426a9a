-- What is done for the words of a command line.
use Rattle.std.specs.Prelude.{◌≡◌, ◌≢◌, ◌⊎◌, Option, Some, None}
use Rattle.m2m_io.specs.declared.status.Status.{Status}
use Rattle.m2m_io.specs.declared.status.Status.TheVariants.{Usage, ReadFault, WriteFault, Memory}
use Rattle.resource_model.specs.Home.{HomeData}
use Rattle.command_words.specs.Command.{Command, Serving, Task, http, replay, twin, serve}
use Rattle.command_words.specs.Command.{generate}
use Rattle.cse_server.specs.Outside.{EndsByFault, Outside}
use Rattle.cse_server.specs.declared.bench.Bench.{Bench}
use Rattle.cse_cli.specs.Devices.{Devices}
use Rattle.cse_cli.specs.Run.{RunsGen, RunsHttp, RunsReplay, RunsTwin}
use Rattle.entity_model.specs.Entity.{EntityData}
use Rattle.cse_cli.specs.Serve.{OpensServer}

module _ {S O C L D : Type 0} where
  -- Words that are no command: they are usage, unless memory runs out for reading them. Nothing is
  -- read or written, no reading is taken, no exchange made, and the door stays as it was.
  pub record RefusesWords (old new : Devices S O C L D) (status : Status) : Type 0 where
    pub status_is : (status ≡ Usage) ⊎ (status ≡ Memory)
    pub still : new ≡ old

  -- A command that works with the two streams did this with them. The door stays as it was. A fault
  -- is told where a stream failed, and only there.
  pub record RunsStreams (did : Outside → Outside → Status → Type 0)
      (old new : Devices S O C L D) (status : Status) : Type 0 where
    pub done : did old.told new.told status
    pub no_usage : status ≢ Usage
    pub reads : EndsByFault ReadFault status old.read_faults new.read_faults
    pub writes : EndsByFault WriteFault status old.write_faults new.write_faults
    pub door : new.door ≡ old.door

  -- A server with this door: it opened its entity and the door, and served its connections, unless
  -- memory ran out before. It reads nothing of the input and writes nothing to the output.
  pub record RunsServer (served : EntityData → Bench C L → Bench C L → Type 0) (serving : Serving)
      (home : HomeData) (old new : Devices S O C L D) (status : Status) : Type 0 where
    pub opens : ((status ≡ Memory) × (new ≡ old))
        ⊎ OpensServer served serving home old.clock_tells
        old.bench new.bench old.door_told new.door_told status
    pub no_usage : status ≢ Usage
    pub input : new.input ≡ old.input
    pub out : new.out ≡ old.out

  -- A task was done at this home. With `http` an entity opens at the first reading of the clock,
  -- and the output gets exactly the replies that the machine gives the requests of the input, or
  -- those of a CSE that answers later, one after another, as far as the status says; in the reply
  -- to a fan-out stands of each member at another CSE what a request of its own gives, which the
  -- machine takes behind it. With `replay` the entity opens at the reading 0, and the output gets
  -- exactly the script of the lines of the input, in which no member at another CSE is asked. With
  -- `twin` two entities open at the reading 0, and the output gets exactly whether an originator
  -- has the same sight of both, and what comes of its requests in both. With `serve` an entity
  -- opens at the first reading of the clock, the door is opened where the words say, and its
  -- connections are `served` by that entity until it gives no more. With `gen` the output gets
  -- exactly the line on the made requests, which an entity with the default home takes that opens
  -- at the reading 0.
  abbrev pub RunsTask : (HomeData → Serving → EntityData → Bench C L → Bench C L → Type 0) → Task
      → HomeData → Devices S O C L D → Devices S O C L D → Status → Type 0
  RunsTask served (http later) home old new status =
      RunsStreams (RunsHttp later home) old new status
  RunsTask served replay home old new status = RunsStreams (RunsReplay home) old new status
  RunsTask served twin home old new status = RunsStreams (RunsTwin home) old new status
  RunsTask served (serve serving) home old new status =
      RunsServer (served home serving) serving home old new status
  RunsTask served (generate requests) home old new status =
      RunsStreams (RunsGen requests) old new status

  -- What words ask for was done with these devices, and ended with this status. None is asked for
  -- by words that are no command.
  abbrev pub RunsCommand : (HomeData → Serving → EntityData → Bench C L → Bench C L → Type 0)
      → Option Command → Devices S O C L D → Devices S O C L D → Status → Type 0
  RunsCommand served None old new status = RefusesWords old new status
  RunsCommand served (Some command) old new status =
      RunsTask served command.task command.home old new status
