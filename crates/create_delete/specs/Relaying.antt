-- What comes of a Notify to an application entity, which is handed on (TS-0001, 10.2.10; the relay
-- is the profile's).
use Rattle.std.specs.Prelude.{ℕ, List, [], ◌∷◌, Some, None}
use Rattle.m2m_names.specs.declared.codes.Rsc.TheVariants.{Ok}
use Rattle.m2m_names.specs.declared.operations.Op.TheVariants.{Notify}
use Rattle.primitive_json.specs.declared.note.Kind.TheVariants.{Relay}
use Rattle.primitive_json.specs.declared.note.NoteParts.{NoteParts}
use Rattle.primitive_json.specs.declared.request.RequestParts.{RequestParts}
use Rattle.resource_model.specs.Resource.{ResourceData}
use Rattle.subscription_match.specs.Destinations.{aimed}
use Rattle.tree_model.specs.Tree.{at}
use Rattle.entity_model.specs.Entity.{EntityData, with_notes}
use Rattle.entity_model.specs.Places.{Effect, on_found, reply_to, unless_refused}
use Rattle.request_rules.specs.Order.{places}

-- the request that is handed on: by the originator, with the target and the content that it has;
-- its request identifier is given with its number
abbrev pub request_relayed : List ℕ → RequestParts → RequestParts
request_relayed originator request = record {
  op = Notify;
  to = request.to;
  fr = Some originator;
  rqi = [];
  ty = None;
  pc = request.pc;
  rqet = None;
  rt = None;
  rcn = None;
  fc = None;
  drt = None;
}

-- the item that it becomes: where it goes is settled on the tree that it finds
abbrev pub relayed : EntityData → List ℕ → RequestParts → NoteParts
relayed e originator request = record {
  kind = Relay;
  dest = aimed e.home e.nodes request.to;
  request = request_relayed originator request;
}

-- what comes of it where it isn't refused: the item is appended, and no resource changes
abbrev pub notify_effect : EntityData → List ℕ → RequestParts → Effect
notify_effect e originator request = record {
  reply = reply_to request Ok None;
  after = with_notes (relayed e originator request ∷ []) e;
}

-- on a resource that is there
abbrev pub notify_on : EntityData → List ℕ → RequestParts → ResourceData → Effect
notify_on e originator request target =
    unless_refused (places Notify e originator request target) e request
    (notify_effect e originator request)

-- on the resource of a number, which is looked up once
abbrev pub notify_at : EntityData → List ℕ → RequestParts → ℕ → Effect
notify_at e originator request n =
    on_found e request (notify_on e originator request) (at n e.nodes)
