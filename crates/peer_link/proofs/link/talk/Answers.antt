use Rattle.std.proofs.Common.{Some, refl, sym, subst, ◌∙◌}
use Rattle.m2m_io.specs.Counts.{told_calls}
use Rattle.turn_desk.specs.Growth.{IsOwnRun}
use Rattle.cse_machine.specs.Step.{Step}
use Rattle.desk_replies.specs.Rule.{plainly}
use Rattle.cse_server.specs.Connection.{Serves}
use Rattle.cse_server.specs.Outside.{Outside, link_told, outside, sink_told}
use Rattle.peer_link.proofs.link.talk.Goals as goal

-- what was told afterwards is what the connection, the clock and the link that reaches no CSE tell
pub returns-in-Closed : goal.returns-in-Closed
returns-in-Closed g c =
    let now = c.serve_alone-ended.new in
    let told : Outside =
    outside (Some now.conn.input.left) (sink_told (Some now.conn.out.written) (told_calls now.conn.out.calls))
    (g.C.Clock.readings now.clock) (link_told now.link.told now.link.faults) in
    let conn = c.new-conn.ensures in
    let nowhere = c.new-nowhere.ensures in
    let left = conn.left ∙ c.in_ok-from_slice.ensures.items in
    record {
      talks = record {
        new = told;
        ended = c.serve_alone-ended.result;
        serves = subst (λ (o : Outside). Serves plainly (IsOwnRun Step) c.args.seat.now now.seat o told c.serve_alone-ended.result)
            (λ i. outside (Some (left i)) (sink_told (Some (conn.written i)) (told_calls (conn.calls i))) (g.C.Clock.readings c.args.clock.now)
            (link_told (nowhere.told i) (nowhere.faults i)))
            c.serve_alone-ended.ensures.serves;
        whole = c.in-Closed.is;
        clock = refl;
        answer_is = refl;
      };
      alone = sym c.if-not-tells.ensures;
    }
