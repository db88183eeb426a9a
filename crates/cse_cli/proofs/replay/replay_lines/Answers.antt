use Rattle.std.proofs.Common.{refl}
use Rattle.entity_model.specs.Opening.{opening}
use Rattle.primitive_replay.proofs.ItemLemmas.{never_usage, whatever_readings}
use Rattle.cse_cli.proofs.replay.replay_lines.Goals as goal

pub returns-clause-runs : goal.returns-clause-runs
returns-clause-runs g c = record {
  replays = whatever_readings (opening c.args.home 0) _ _ _ _ _ _ _ _ c.replay.ensures.replays;
  still = refl;
}

pub returns-clause-command : goal.returns-clause-command
returns-clause-command g c = never_usage _ _ _ c.replay.result c.replay.ensures.replays
