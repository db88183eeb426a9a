use Rattle.std.proofs.Common.{refl, inl, inr}
use Rattle.cse_cli.proofs.RunningLemmas.{no_fault}
use Rattle.cse_cli.proofs.command.run_command.Goals as goal

-- the streams were served as one connection
pub returns-in-Http : goal.returns-in-Http
returns-in-Http g c =
    let done = c.serve_streams.ensures in
    rw c.in-Http.is (record { done = inl done.runs; no_usage = done.command; reads = done.reads; writes = done.writes; door = refl })

-- the lines were replayed
pub returns-in-Replay : goal.returns-in-Replay
returns-in-Replay g c =
    let done = c.replay_lines.ensures in
    rw c.in-Replay.is (record { done = done.runs; no_usage = done.command; reads = done.reads; writes = done.writes; door = refl })

-- two entities were compared
pub returns-in-Twin : goal.returns-in-Twin
returns-in-Twin g c =
    let done = c.compare_lines.ensures in
    rw c.in-Twin.is (record {
      done = record { twins = done.runs; readings = refl; link = refl };
      no_usage = done.command;
      reads = done.reads;
      writes = done.writes;
      door = refl;
    })

-- the door was served
pub returns-in-Serve : goal.returns-in-Serve
returns-in-Serve g c =
    let done = c.serve_door.ensures in
    rw c.in-Serve.is (record { opens = inr done.opens; no_usage = done.command; input = refl; out = refl })

-- requests were made
pub returns-in-Generate : goal.returns-in-Generate
returns-in-Generate g c =
    let done = c.generate.ensures in
    rw c.in-Generate.is (record {
      done = record { generates = done.makes; left = refl; readings = refl; link = refl };
      no_usage = done.usage;
      reads = no_fault done.reads;
      writes = done.writes;
      door = refl;
    })
