use Rattle.primitive_replay.proofs.LawLemmas.{heard_in_one_way, nothing_behind_bad}
use Rattle.primitive_replay.proofs.laws.a_stream_has_its_lines_in_one_way.Goals as goal

pub returns-clause-heard : goal.returns-clause-heard
returns-clause-heard c = heard_in_one_way

pub returns-clause-bad : goal.returns-clause-bad
returns-clause-bad c = nothing_behind_bad
