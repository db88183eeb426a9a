-- The attributes of what is created, and of what is updated, stand in order.
use Rattle.std.proofs.Common.{◌≡◌, List, [], ◌∷◌, ◌++◌, inl, inr, refl}
use Rattle.std.proofs.lemmas.Bool.{cases_Bool}
use Rattle.m2m_names.specs.declared.attributes.Attr.{Attr}
use Rattle.m2m_names.specs.declared.attributes.Attr.TheVariants.{Acpi, Et, Macp}
use Rattle.m2m_value.specs.Data.{Entry}
use Rattle.m2m_value.specs.Node.{AreSorted}
use Rattle.resource_model.specs.Attributes.{Row, AreInOrder, is_attr, with_value, without_value}
use Rattle.resource_model.specs.Resource.{ResourceData}
use Rattle.resource_model.proofs.AttributeLemmas.{in_order-with_value, in_order-without_value}
use Rattle.tree_model.proofs.ShownLemmas.{in_order-with_rows}
use Rattle.attribute_rules.specs.Contents.{clear_all, edit_in, edited, kept_row, set_all, wanted_in}
use Rattle.attribute_rules.specs.declared.contents.Edit.{Edit}
use Rattle.attribute_rules.proofs.ContentsLemmas.{kept_attr, rows_in_order}
use Rattle.entity_model.specs.Entity.{EntityData}
use Rattle.request_rules.specs.Creation.{Creation, new_resource, rows_besides}
use Rattle.request_rules.specs.Policies.{link_row}
use Rattle.create_delete.specs.Changing.{own_rows, updated_resource}

-- of a new resource
pub new_order : (c : Creation) → AreSorted c.named → AreInOrder (new_resource c).attrs
new_order c sorted = in_order-with_rows (rows_besides c) (wanted_in c.named).attrs (rows_in_order kept_row kept_attr c.named sorted)

-- those that are set
set_order : (sets rows : List Row) → AreInOrder rows → AreInOrder (set_all sets rows)
set_order [] rows order = order
set_order (s ∷ sets) rows order = elim (cases_Bool (is_attr s.0 Et)) [
  | inl t ↦ rw t (set_order sets rows order)
  | inr f ↦ rw f (set_order sets (with_value s.0 s.1 rows) (in_order-with_value s.0 s.1 rows order))
]

-- and those that are left where some are cleared
cleared_order : (clears : List Attr) (rows : List Row) → AreInOrder rows → AreInOrder (clear_all clears rows)
cleared_order [] rows order = order
cleared_order (a ∷ clears) rows order = cleared_order clears (without_value a rows) (in_order-without_value a rows order)

-- by what an update says
pub edited_order : (edit : Edit) (rows : List Row) → AreInOrder rows → AreInOrder (edited edit rows)
edited_order edit rows order = cleared_order edit.clears (set_all edit.sets rows) (set_order edit.sets rows order)

-- of an updated resource
pub updated_order : (e : EntityData) (es : List Entry) (r : ResourceData) → AreInOrder r.attrs → AreInOrder (updated_resource e es r).attrs
updated_order e es r order = in_order-with_rows (own_rows e es r ++ link_row e es Acpi ++ link_row e es Macp) (edited (edit_in es) r.attrs) (edited_order (edit_in es) r.attrs order)
