use Rattle.std.proofs.Common.{◌≡◌, ℕ, List, rules, subst}
use Rattle.cse_server.specs.Outside.{sink_told}
use Rattle.primitive_replay.specs.Way.{WritesText}
use Rattle.twin_replay.proofs.LineLemmas.{says_nothing, says_text}
use Rattle.twin_replay.proofs.comparing.say_line.Goals as goal

pub returns-in-Ok-Some-clause-says : goal.returns-in-Ok-Some-clause-says
returns-in-Ok-Some-clause-says g c =
    let takes = rw c.in-Ok-Some.field-0-is at c.in-Ok-Some.ensures in
    let same : c.deref.result.now ≡ c.in-Ok-Some.text.items = search rules in
    let old = sink_told (g.O.Sink.written c.args.out.now) (g.O.Sink.puts c.args.out.now) in
    let new = sink_told (g.O.Sink.written c.put_line.new.out) (g.O.Sink.puts c.put_line.new.out) in
    says_text c.put_line.result c.args.line _ _ c.in-Ok-Some.text.items old new takes
    (subst (λ (v : List ℕ). WritesText c.put_line.result v old new) same c.put_line.ensures.said)

pub returns-in-Ok-None-clause-says : goal.returns-in-Ok-None-clause-says
returns-in-Ok-None-clause-says g c =
    let takes = rw c.in-Ok-None.field-0-is at c.in-Ok-None.ensures in
    says_nothing c.args.line _ _ _ takes
