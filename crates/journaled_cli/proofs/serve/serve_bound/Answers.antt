use Rattle.std.proofs.Common.{sym}
use denote.Param.Send.{sendable}
use Rattle.remote_members.proofs.Shared.{service_sync}
use Rattle.journaled_cli.proofs.serve.serve_bound.Goals as goal

-- each connection was attended to as HTTP
pub returns-in-Http : goal.returns-in-Http
returns-in-Http g c = rw (c.in-Http.is, sym c.benches_for-benches.ensures.front, sym c.new-binding.ensures) c.serve_kept.ensures

-- each was as a WebSocket
pub returns-in-Ws : goal.returns-in-Ws
returns-in-Ws g c = rw (c.in-Ws.is, sym c.benches_for-benches.ensures.front) c.serve_kept-in-Ws.ensures

-- threads share the service, which holds a home
pub serve_kept-requires-sync-P : goal.serve_kept-requires-sync-P
serve_kept-requires-sync-P g c κs within = search (sendable, service_sync)
