use Rattle.cse_server.proofs.SideLemmas.{put-left, put-faults, put-holds}
use Rattle.cse_server.proofs.waiting.put_many_replies.Goals as goal

pub returns-clause-left : goal.returns-clause-left
returns-clause-left g c =
    put-left g.X.Source.left g.X.Source.faults g.X.Source.kept_by_read g.X.Sink.written g.X.Sink.faults g.X.Sink.puts g.X.Sink.kept_by_put g.met.X.Connection.keeps_sides
    c.args.conn.now c.put_if_much.new.out c.put_if_much.ensures.beside

pub returns-clause-read_faults : goal.returns-clause-read_faults
returns-clause-read_faults g c =
    put-faults g.X.Source.left g.X.Source.faults g.X.Source.kept_by_read g.X.Sink.written g.X.Sink.faults g.X.Sink.puts g.X.Sink.kept_by_put g.met.X.Connection.keeps_sides
    c.args.conn.now c.put_if_much.new.out c.put_if_much.ensures.beside

pub returns-clause-holds : goal.returns-clause-holds
returns-clause-holds g c =
    put-holds g.X.Source.left g.X.Source.faults g.X.Source.kept_by_read g.X.Sink.written g.X.Sink.faults g.X.Sink.puts g.X.Sink.kept_by_put g.met.X.Connection.keeps_sides
    c.args.conn.now c.put_if_much.new.out c.put_if_much.ensures.beside
