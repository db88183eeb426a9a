-- The items of the outbox that operations on copies become (TS-0001, 9.6.26; TS-0004, 8.2.2).
use Rattle.std.specs.Prelude.{pos, List, [], map, Some, None, option_map}
use Rattle.m2m_names.specs.Types.{ty_row}
use Rattle.primitive_json.specs.declared.note.Kind.TheVariants.{Copy}
use Rattle.primitive_json.specs.declared.note.NoteParts.{NoteParts}
use Rattle.primitive_json.specs.declared.request.RequestParts.{RequestParts}
use Rattle.resource_model.specs.Home.{HomeData}
use Rattle.resource_model.specs.Resource.{ResourceData}
use Rattle.subscription_match.specs.Destinations.{aimed}
use Rattle.tree_model.specs.Shown.{own_cse_id}
use Rattle.announce_copy.specs.Copies.{CopyDraft}

-- the request by this CSE, which wants no content back; its request identifier is given with its
-- number
abbrev pub request_of : HomeData → CopyDraft → RequestParts
request_of home draft = record {
  op = draft.0;
  to = draft.1;
  fr = Some (own_cse_id home);
  rqi = [];
  ty = option_map (λ ty. (ty_row ty).number) draft.2;
  pc = draft.3;
  rqet = None;
  rt = None;
  rcn = Some (pos 0);
  fc = None;
  drt = None;
}

-- the item: where it goes is settled on the tree before the operation
abbrev pub copy_note : HomeData → List ResourceData → CopyDraft → NoteParts
copy_note home nodes draft = record {
  kind = Copy;
  dest = aimed home nodes draft.1;
  request = request_of home draft;
}

abbrev pub copy_notes : HomeData → List ResourceData → List CopyDraft → List NoteParts
copy_notes home nodes drafts = map (copy_note home nodes) drafts
