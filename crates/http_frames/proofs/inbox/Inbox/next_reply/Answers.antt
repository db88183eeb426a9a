use Rattle.http_frames.specs.declared.frame.Side.TheVariants.{Reply}
use Rattle.http_frames.proofs.AnswerLemmas.{gives_next, message_given, few_left, stays_few}
use Rattle.http_frames.proofs.inbox.Inbox.next_reply.Goals as goal

pub returns-clause-next : goal.returns-clause-next
returns-clause-next g c =
    let e = c.next.ensures in
    let left = g.S.Source.left c.args.src.now in
    let rest = g.S.Source.left c.next.new.src in
    let given = message_given Reply left rest _ _ c.args.src.now c.next.new.src _ e.message in
    record {
      frames = λ open_yet. gives_next Reply _ left rest _ _ given e.kept e.end (e.no_frame open_yet);
      message = given;
      kept = e.kept;
      end = e.end;
      no_frame = e.no_frame;
      refused = e.refused;
      over = e.over;
      waiting = e.waiting;
      short = few_left Reply left rest _ _ c.args.src.now c.next.new.src _ e.message;
      small = stays_few Reply left rest _ _ c.args.src.now c.next.new.src _ e.message e.needed;
    }
