-- Names go from thread to thread.
use denote.Param.Send.{IsSend, sendable}
use Rattle.std.proofs.Crossing.{crosses}
use Rattle.std.proofs.MapsCrossing as maps
use Rattle.resource_names.specs.contracts.named.Named as named
use Rattle.resource_names.specs.contracts.names.Names as names

names_send : IsSend names.the_row
names_send = search (sendable, crosses, maps.crosses) depth 60 fits 5000

pub named_send : IsSend named.the_row
named_send = search (sendable, crosses, maps.crosses, names_send) depth 60 fits 5000
