use Rattle.twin_replay.proofs.TwinLemmas.{never_usage}
use Rattle.cse_cli.proofs.twin.compare_lines.Goals as goal

pub returns-clause-command : goal.returns-clause-command
returns-clause-command g c = never_usage _ _ _ c.twin.result c.twin.ensures.twins
