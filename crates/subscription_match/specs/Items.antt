-- The items of the outbox that notifications become.
use Rattle.std.specs.Prelude.{List, [], map, Some, None}
use Rattle.m2m_names.specs.declared.operations.Op.TheVariants.{Notify}
use Rattle.primitive_json.specs.declared.note.Kind.TheVariants.{Notification}
use Rattle.primitive_json.specs.declared.note.NoteParts.{NoteParts}
use Rattle.primitive_json.specs.declared.request.RequestParts.{RequestParts}
use Rattle.resource_model.specs.Home.{HomeData}
use Rattle.resource_model.specs.Resource.{ResourceData}
use Rattle.subscription_match.specs.Destinations.{aimed}
use Rattle.subscription_match.specs.declared.drafts.DraftParts.{DraftParts}
use Rattle.tree_model.specs.Shown.{own_cse_id}

-- the request that a draft becomes: a Notify of its content to its target, by this CSE; its request
-- identifier is given with its number (TS-0004, 7.5.1.2)
abbrev pub request_of : HomeData → DraftParts → RequestParts
request_of home draft = record {
  op = Notify;
  to = draft.target;
  fr = Some (own_cse_id home);
  rqi = [];
  ty = None;
  pc = Some draft.content;
  rqet = None;
  rt = None;
  rcn = None;
  fc = None;
  drt = None;
}

-- the item that a draft becomes: where it goes is settled on the tree before the operation
abbrev pub item_of : HomeData → List ResourceData → DraftParts → NoteParts
item_of home nodes draft = record {
  kind = Notification;
  dest = aimed home nodes draft.target;
  request = request_of home draft;
}

abbrev pub items_of : HomeData → List ResourceData → List DraftParts → List NoteParts
items_of home nodes drafts = map (item_of home nodes) drafts
