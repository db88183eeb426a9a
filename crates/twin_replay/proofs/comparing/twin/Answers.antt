use Rattle.twin_replay.specs.Sides.{starting}
use Rattle.twin_replay.proofs.LineLemmas.{starved_first}
use Rattle.twin_replay.proofs.comparing.twin.Goals as goal

pub returns-in_default-clause-twins : goal.returns-in_default-clause-twins
returns-in_default-clause-twins g c = starved_first (starting c.args.home) _ _
