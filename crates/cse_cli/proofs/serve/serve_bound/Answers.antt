use Rattle.std.proofs.Common.{sym}
use denote.Param.Send.{sendable}
use Rattle.remote_members.proofs.Shared.{service_sync}
use Rattle.cse_cli.proofs.serve.serve_bound.Goals as goal

-- each connection was attended to as HTTP
pub returns-in-Http-clause-serves : goal.returns-in-Http-clause-serves
returns-in-Http-clause-serves g c = rw (c.in-Http.is, sym c.benches_for-benches.ensures.front, sym c.new-binding.ensures) c.serve_at_desk.ensures.serves

-- each was as a WebSocket
pub returns-in-Ws-clause-serves : goal.returns-in-Ws-clause-serves
returns-in-Ws-clause-serves g c = rw (c.in-Ws.is, sym c.benches_for-benches.ensures.front) c.serve_at_desk-in-Ws.ensures.serves

-- threads share the service, which holds a home
pub serve_at_desk-requires-sync-P : goal.serve_at_desk-requires-sync-P
serve_at_desk-requires-sync-P g c κs within = search (sendable, service_sync)
