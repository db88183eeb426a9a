use Rattle.std.proofs.Common.{ap}
use Rattle.cse_server.specs.Outside.{sink_told}
use Rattle.entity_model.specs.Opening.{opening}
use Rattle.primitive_replay.proofs.ItemLemmas.{finished_reads, finished_writes, replays_finished, replays_none}
use Rattle.primitive_replay.proofs.TurnLemmas.{starved_first}
use Rattle.primitive_replay.proofs.replaying.replay.Goals as goal

pub returns-in_default-clause-replays : goal.returns-in_default-clause-replays
returns-in_default-clause-replays g c =
    replays_none (opening c.args.home 0) _ _ _ _ _ _ _ _ (starved_first (opening c.args.home 0) _ _ _ _)

pub returns-clause-replays : goal.returns-clause-replays
returns-clause-replays g c =
    replays_finished (opening c.args.home 0) c.in-Ok.entity c.replay_lines-ended.new.entity c.outbox_of-outbox.result.items _ _ _ _ _ _ _
    c.replay_lines-ended.result c.finish.result c.in-Ok.ensures c.outbox_of-outbox.ensures c.replay_lines-ended.ensures.lines c.finish.ensures.done
    (λ short. let same = c.finish.ensures.still short in (same.0, ap (λ o. sink_told (g.O.Sink.written o) (g.O.Sink.puts o)) same.1))

pub returns-clause-reads : goal.returns-clause-reads
returns-clause-reads g c =
    finished_reads c.replay_lines-ended.result c.finish.result _ _ _ _ _ c.replay_lines-ended.ensures.reads c.finish.ensures.done
    (λ short. (c.finish.ensures.still short).0)

pub returns-clause-writes : goal.returns-clause-writes
returns-clause-writes g c =
    finished_writes c.replay_lines-ended.result c.finish.result _ _ _ c.replay_lines-ended.ensures.writes c.finish.ensures.writes
    (λ short. let same = c.finish.ensures.still short in (same.0, ap g.O.Sink.faults same.1))
