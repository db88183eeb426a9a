-- Values go from thread to thread, and so do the lists that they share. A value holds lists and
-- objects of values, so both are shown of the four types at once, by one layer of each: where what
-- a layer reaches may be sent and shared, so may the layer (`sends`, `syncs`), and `both_send` goes
-- on from there.
--     X_fields      a layer's fields, as the type declares them.        X_at      the same at the type's own values
--     X_view        as contracts see the type.        X_sends, X_syncs      as a member of the knot
use Rattle.std.proofs.Common.{◌≡◌, [], ◌∷◌}
use denote.RattleType.{RattleType}
use denote.Param.Send.{IsSend, IsSync, sendable, recorded_send, recorded_sync}
use denote.Param.SendFields.{declared_send, declared_sync, variants_send, variants_sync, as_row_send, as_row_sync}
use denote.Struct.Field.{row_field, bool-field, i64-field}
use denote.Struct.Declared as S
use denote.Struct.Tuple.{Tuple, tuple_type}
use denote.Enum.Declared as E
use denote.Hole.{as_row}
use denote.Model.Cut.{rejoined, split_one}
use denote.Model.Goals.{send, sync, part_has, has_of}
use denote.Model.Marks.{both_send}
use denote.Model.Local.{Parts, rows}
use Rattle.std.proofs.Crossing.{crosses, Vec-send, Vec-sync, Arc-send, Arc-sync}
use Rattle.m2m_value.specs.contracts.value.Val as val
use Rattle.m2m_value.specs.contracts.text.Text as text
use Rattle.m2m_value.specs.contracts.key.Form as form
use Rattle.m2m_value.specs.contracts.key.MemberKey as key
use Rattle.m2m_value.specs.contracts.key.MemberKey.TheInside as key_inside
use Rattle.m2m_value.specs.contracts.value.Items.TheKnot as knot
use Rattle.m2m_value.specs.contracts.value.Items.TheKnot.{sizes, frame, step}
use Rattle.m2m_value.specs.declared.value.Items.TheDeep.{the_members, member-Items, member-Members, member-SharedItems, member-Val, split-Items, join-Items, joins-Items, split-Members, join-Members, joins-Members, split-SharedItems, join-SharedItems, joins-SharedItems, split-Node, join-Node, joins-Node, split-Val, join-Val, joins-Val}

pub text_send : IsSend text.the_row
text_send = search (sendable, crosses) depth 20

text_sync : IsSync text.the_row
text_sync = search (sendable, crosses) depth 20

-- a key, whose name is lent for good
form_send : IsSend form.the_row
form_send = variants_send form.enum ((text_send, tt), ((search (sendable, crosses) depth 20, tt), tt))

form_sync : IsSync form.the_row
form_sync = variants_sync form.enum ((text_sync, tt), ((search (sendable, crosses) depth 20, tt), tt))

key_inside_send : IsSend key_inside.the_row
key_inside_send = declared_send key_inside.the_type (form_send, tt)

key_inside_sync : IsSync key_inside.the_row
key_inside_sync = declared_sync key_inside.the_type (form_sync, tt)

key_send : IsSend key.the_row
key_send = record { owned = λ d vs x. (key_inside_send.owned x.0 vs, tt); leaving = λ k d w. tt }

key_sync : IsSync key.the_row
key_sync = record { shared = λ d b o κ x. (key_inside_sync.shared x.0 b o κ, tt) }

-- a field at a type's own row
row_send : (R : RattleType) → IsSend R → IsSend (as_row (row_field R))
row_send R s = as_row_send (row_field R) s

row_sync : (R : RattleType) → IsSync R → IsSync (as_row (row_field R))
row_sync R y = as_row_sync (row_field R) y

-- a type at other values, into which its own split
rejoined_send : (R : RattleType) (D : Type 0) (split : D → R.Denot) (join : R.Denot → D) (e : (d : D) → join (split d) ≡ d)
    → IsSend R → IsSend (rejoined R D split join e)
rejoined_send R D split join e = recorded_send R D split (split_one R D split join e)

rejoined_sync : (R : RattleType) (D : Type 0) (split : D → R.Denot) (join : R.Denot → D) (e : (d : D) → join (split d) ≡ d)
    → IsSync R → IsSync (rejoined R D split join e)
rejoined_sync R D split join e = recorded_sync R D split (split_one R D split join e)

bool_send : IsSend (as_row bool-field)
bool_send = as_row_send bool-field (search sendable)

bool_sync : IsSync (as_row bool-field)
bool_sync = as_row_sync bool-field (search sendable)

i64_send : IsSend (as_row i64-field)
i64_send = as_row_send i64-field (search sendable)

i64_sync : IsSync (as_row i64-field)
i64_sync = as_row_sync i64-field (search sendable)

-- one layer of each type, where what it reaches may be sent and shared
module _ (p : Parts frame) (s : (j : the_members) → IsSend (rows frame p j)) (y : (j : the_members) → IsSync (rows frame p j)) where
  items_fields_send : IsSend (S.row (knot.type-Items (rows frame p member-Val)))
  items_fields_send = declared_send (knot.type-Items (rows frame p member-Val)) (row_send _ (Vec-send (rows frame p member-Val) (s member-Val)), tt)

  items_fields_sync : IsSync (S.row (knot.type-Items (rows frame p member-Val)))
  items_fields_sync = declared_sync (knot.type-Items (rows frame p member-Val)) (row_sync _ (Vec-sync (rows frame p member-Val) (y member-Val)), tt)

  items_at_send : IsSend (knot.at-Items p)
  items_at_send = rejoined_send (knot.layer-Items (rows frame p member-Val)) _ split-Items join-Items joins-Items items_fields_send

  items_at_sync : IsSync (knot.at-Items p)
  items_at_sync = rejoined_sync (knot.layer-Items (rows frame p member-Val)) _ split-Items join-Items joins-Items items_fields_sync

  items_view_send : IsSend (knot.view-Items p)
  items_view_send = record { owned = λ d vs x. (items_at_send.owned x.0 vs, tt); leaving = λ k d w. tt }

  items_view_sync : IsSync (knot.view-Items p)
  items_view_sync = record { shared = λ d b o κ x. (items_at_sync.shared x.0 b o κ, tt) }

  items_sends : IsSend (rows frame (step p) member-Items)
  items_sends = has_of frame send (step p) member-Items (part_has send (knot.view-Items p) items_view_send)

  items_syncs : IsSync (rows frame (step p) member-Items)
  items_syncs = has_of frame sync (step p) member-Items (part_has sync (knot.view-Items p) items_view_sync)

  pair_send : IsSend (Tuple (key.the_row ∷ rows frame p member-Val ∷ []))
  pair_send = declared_send (tuple_type (key.the_row ∷ rows frame p member-Val ∷ []))
      (row_send key.the_row key_send, (row_send (rows frame p member-Val) (s member-Val), tt))

  pair_sync : IsSync (Tuple (key.the_row ∷ rows frame p member-Val ∷ []))
  pair_sync = declared_sync (tuple_type (key.the_row ∷ rows frame p member-Val ∷ []))
      (row_sync key.the_row key_sync, (row_sync (rows frame p member-Val) (y member-Val), tt))

  members_fields_send : IsSend (S.row (knot.type-Members (rows frame p member-Val)))
  members_fields_send = declared_send (knot.type-Members (rows frame p member-Val))
      (row_send _ (Vec-send (Tuple (key.the_row ∷ rows frame p member-Val ∷ [])) pair_send), tt)

  members_fields_sync : IsSync (S.row (knot.type-Members (rows frame p member-Val)))
  members_fields_sync = declared_sync (knot.type-Members (rows frame p member-Val))
      (row_sync _ (Vec-sync (Tuple (key.the_row ∷ rows frame p member-Val ∷ [])) pair_sync), tt)

  members_at_send : IsSend (knot.at-Members p)
  members_at_send = rejoined_send (knot.layer-Members (rows frame p member-Val)) _ split-Members join-Members joins-Members members_fields_send

  members_at_sync : IsSync (knot.at-Members p)
  members_at_sync = rejoined_sync (knot.layer-Members (rows frame p member-Val)) _ split-Members join-Members joins-Members members_fields_sync

  members_view_send : IsSend (knot.view-Members p)
  members_view_send = record { owned = λ d vs x. (members_at_send.owned x.0 vs, tt); leaving = λ k d w. tt }

  members_view_sync : IsSync (knot.view-Members p)
  members_view_sync = record { shared = λ d b o κ x. (members_at_sync.shared x.0 b o κ, tt) }

  members_sends : IsSend (rows frame (step p) member-Members)
  members_sends = has_of frame send (step p) member-Members (part_has send (knot.view-Members p) members_view_send)

  members_syncs : IsSync (rows frame (step p) member-Members)
  members_syncs = has_of frame sync (step p) member-Members (part_has sync (knot.view-Members p) members_view_sync)

  shared_fields_send : IsSend (S.row (knot.type-SharedItems (rows frame p member-Items)))
  shared_fields_send = declared_send (knot.type-SharedItems (rows frame p member-Items))
      (row_send _ (Arc-send (rows frame p member-Items) (s member-Items) (y member-Items)), tt)

  shared_fields_sync : IsSync (S.row (knot.type-SharedItems (rows frame p member-Items)))
  shared_fields_sync = declared_sync (knot.type-SharedItems (rows frame p member-Items))
      (row_sync _ (Arc-sync (rows frame p member-Items) (s member-Items) (y member-Items)), tt)

  shared_at_send : IsSend (knot.at-SharedItems p)
  shared_at_send = rejoined_send (knot.layer-SharedItems (rows frame p member-Items)) _ split-SharedItems join-SharedItems joins-SharedItems shared_fields_send

  shared_at_sync : IsSync (knot.at-SharedItems p)
  shared_at_sync = rejoined_sync (knot.layer-SharedItems (rows frame p member-Items)) _ split-SharedItems join-SharedItems joins-SharedItems shared_fields_sync

  shared_view_send : IsSend (knot.view-SharedItems p)
  shared_view_send = record { owned = λ d vs x. (shared_at_send.owned x.0 vs, tt); leaving = λ k d w. tt }

  shared_view_sync : IsSync (knot.view-SharedItems p)
  shared_view_sync = record { shared = λ d b o κ x. (shared_at_sync.shared x.0 b o κ, tt) }

  shared_sends : IsSend (rows frame (step p) member-SharedItems)
  shared_sends = has_of frame send (step p) member-SharedItems (part_has send (knot.view-SharedItems p) shared_view_send)

  shared_syncs : IsSync (rows frame (step p) member-SharedItems)
  shared_syncs = has_of frame sync (step p) member-SharedItems (part_has sync (knot.view-SharedItems p) shared_view_sync)

  node_fields_send : IsSend (E.row (E.declared (knot.type-Node (rows frame p member-Items) (rows frame p member-Members) (rows frame p member-SharedItems))))
  node_fields_send = variants_send (knot.type-Node (rows frame p member-Items) (rows frame p member-Members) (rows frame p member-SharedItems)) (
    tt,
    (
      (row_send (as_row bool-field) bool_send, tt),
      (
        (row_send (as_row i64-field) i64_send, tt),
        (
          (row_send (as_row text.the_field) text_send, tt),
          (
            (row_send (rows frame p member-Items) (s member-Items), tt),
            ((row_send (rows frame p member-Members) (s member-Members), tt), ((row_send (rows frame p member-SharedItems) (s member-SharedItems), tt), tt)),
          ),
        ),
      ),
    ),
  )

  node_fields_sync : IsSync (E.row (E.declared (knot.type-Node (rows frame p member-Items) (rows frame p member-Members) (rows frame p member-SharedItems))))
  node_fields_sync = variants_sync (knot.type-Node (rows frame p member-Items) (rows frame p member-Members) (rows frame p member-SharedItems)) (
    tt,
    (
      (row_sync (as_row bool-field) bool_sync, tt),
      (
        (row_sync (as_row i64-field) i64_sync, tt),
        (
          (row_sync (as_row text.the_field) text_sync, tt),
          (
            (row_sync (rows frame p member-Items) (y member-Items), tt),
            ((row_sync (rows frame p member-Members) (y member-Members), tt), ((row_sync (rows frame p member-SharedItems) (y member-SharedItems), tt), tt)),
          ),
        ),
      ),
    ),
  )

  node_at_send : IsSend (knot.at-Node p)
  node_at_send = rejoined_send (knot.layer-Node (rows frame p member-Items) (rows frame p member-Members) (rows frame p member-SharedItems)) _ split-Node join-Node joins-Node node_fields_send

  node_at_sync : IsSync (knot.at-Node p)
  node_at_sync = rejoined_sync (knot.layer-Node (rows frame p member-Items) (rows frame p member-Members) (rows frame p member-SharedItems)) _ split-Node join-Node joins-Node node_fields_sync

  val_fields_send : IsSend (S.row (knot.type-Val (knot.at-Node p)))
  val_fields_send = declared_send (knot.type-Val (knot.at-Node p)) (row_send (knot.at-Node p) node_at_send, tt)

  val_fields_sync : IsSync (S.row (knot.type-Val (knot.at-Node p)))
  val_fields_sync = declared_sync (knot.type-Val (knot.at-Node p)) (row_sync (knot.at-Node p) node_at_sync, tt)

  val_at_send : IsSend (knot.at-Val p)
  val_at_send = rejoined_send (knot.layer-Val (knot.at-Node p)) _ split-Val join-Val joins-Val val_fields_send

  val_at_sync : IsSync (knot.at-Val p)
  val_at_sync = rejoined_sync (knot.layer-Val (knot.at-Node p)) _ split-Val join-Val joins-Val val_fields_sync

  val_view_send : IsSend (knot.view-Val p)
  val_view_send = record { owned = λ d vs x. (val_at_send.owned x.0 vs, tt); leaving = λ k d w. tt }

  val_view_sync : IsSync (knot.view-Val p)
  val_view_sync = record { shared = λ d b o κ x. (val_at_sync.shared x.0 b o κ, tt) }

  val_sends : IsSend (rows frame (step p) member-Val)
  val_sends = has_of frame send (step p) member-Val (part_has send (knot.view-Val p) val_view_send)

  val_syncs : IsSync (rows frame (step p) member-Val)
  val_syncs = has_of frame sync (step p) member-Val (part_has sync (knot.view-Val p) val_view_sync)

sends : (p : Parts frame) → ((j : the_members) → IsSend (rows frame p j)) → ((j : the_members) → IsSync (rows frame p j)) → (i : the_members) → IsSend (rows frame (step p) i)
sends p s y member-Items = items_sends p s y
sends p s y member-Members = members_sends p s y
sends p s y member-SharedItems = shared_sends p s y
sends p s y member-Val = val_sends p s y

syncs : (p : Parts frame) → ((j : the_members) → IsSend (rows frame p j)) → ((j : the_members) → IsSync (rows frame p j)) → (i : the_members) → IsSync (rows frame (step p) i)
syncs p s y member-Items = items_syncs p s y
syncs p s y member-Members = members_syncs p s y
syncs p s y member-SharedItems = shared_syncs p s y
syncs p s y member-Val = val_syncs p s y

pub val_send : IsSend val.the_row
val_send = both_send frame step sizes sends syncs member-Val
