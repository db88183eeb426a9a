use Rattle.cse_server.proofs.SideLemmas.{read-written, read-faults, read-puts}
use Rattle.cse_server.proofs.connection.read_next.Goals as goal

pub returns-clause-written : goal.returns-clause-written
returns-clause-written g c =
    read-written g.X.Source.left g.X.Source.faults g.X.Source.kept_by_read g.X.Sink.written g.X.Sink.faults g.X.Sink.puts g.X.Sink.kept_by_put g.met.X.Connection.keeps_sides
    c.args.conn.now c.next_request.new.src c.next_request.ensures.beside

pub returns-clause-puts : goal.returns-clause-puts
returns-clause-puts g c =
    read-puts g.X.Source.left g.X.Source.faults g.X.Source.kept_by_read g.X.Sink.written g.X.Sink.faults g.X.Sink.puts g.X.Sink.kept_by_put g.met.X.Connection.keeps_sides
    c.args.conn.now c.next_request.new.src c.next_request.ensures.beside

pub returns-clause-write_faults : goal.returns-clause-write_faults
returns-clause-write_faults g c =
    read-faults g.X.Source.left g.X.Source.faults g.X.Source.kept_by_read g.X.Sink.written g.X.Sink.faults g.X.Sink.puts g.X.Sink.kept_by_put g.met.X.Connection.keeps_sides
    c.args.conn.now c.next_request.new.src c.next_request.ensures.beside
