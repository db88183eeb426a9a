-- A tree goes from thread to thread, with its resources.
use denote.Builtin.{u64}
use denote.Hole.{as_row}
use denote.Param.Send.{IsSend, sendable}
use denote.Param.SendFields.{as_row_send, declared_send}
use denote.Struct.Field.{Field, u64-field}
use Rattle.std.proofs.Common.{List, [], ◌∷◌}
use Rattle.std.proofs.Crossing.{crosses, Vec-send}
use Rattle.std.proofs.MapsCrossing as maps
use Rattle.desk_replies.proofs.ValuesSent.{text_send, val_send}
use Rattle.m2m_names.specs.contracts.attributes.Attr as attr
use Rattle.m2m_names.specs.contracts.types.Ty as ty
use Rattle.resource_model.specs.contracts.attrs.Attrs as attrs
use Rattle.resource_model.specs.contracts.attrs.Attrs.TheInside as attrs_inside
use Rattle.resource_model.specs.contracts.home.Home as home
use Rattle.resource_model.specs.contracts.home.Home.TheInside as home_inside
use Rattle.resource_model.specs.contracts.resource.Moments as moments
use Rattle.resource_model.specs.contracts.resource.Resource as resource
use Rattle.resource_model.specs.contracts.resource.Resource.TheInside as resource_inside
use Rattle.resource_store.specs.contracts.seeded.Seeded as seeded
use Rattle.resource_store.specs.contracts.seeded.SeededHasher as seeded_hasher
use Rattle.resource_store.specs.contracts.slot.Slot as slot
use Rattle.resource_store.specs.contracts.slots.Slots as slots
use Rattle.resource_store.specs.contracts.store.Store as store
use Rattle.resource_store.specs.contracts.store.Store.TheInside as store_inside

attr_send : IsSend attr.the_row
attr_send = search (sendable, crosses) depth 400 fits 5000

ty_send : IsSend ty.the_row
ty_send = search (sendable, crosses) depth 100 fits 5000

attrs_inside_send : IsSend attrs_inside.the_row
attrs_inside_send = declared_send attrs_inside.the_type (search (sendable, crosses, val_send, attr_send) depth 20, tt)

attrs_send : IsSend attrs.the_row
attrs_send = record { owned = λ d vs x. (attrs_inside_send.owned x.0 vs, tt); leaving = λ k d w. tt }

home_inside_send : IsSend home_inside.the_row
home_inside_send = declared_send home_inside.the_type
    (text_send, (text_send, (text_send, (search (sendable, crosses) depth 20, (text_send, tt)))))

pub home_send : IsSend home.the_row
home_send = record { owned = λ d vs x. (home_inside_send.owned x.0 vs, tt); leaving = λ k d w. tt }

moments_send : IsSend moments.the_row
moments_send = search (sendable, crosses) depth 20

resource_inside_send : IsSend resource_inside.the_row
resource_inside_send = declared_send resource_inside.the_type (
  search (sendable, crosses) depth 20,
  (ty_send, (text_send, (search (sendable, crosses) depth 20, (text_send, (moments_send, (attrs_send, tt)))))),
)

resource_send : IsSend resource.the_row
resource_send = record { owned = λ d vs x. (resource_inside_send.owned x.0 vs, tt); leaving = λ k d w. tt }

u64_send : IsSend u64
u64_send = search sendable depth 20

hasher_send : IsSend seeded.the_row
hasher_send = search (sendable, crosses) depth 20

-- the first of a struct's fields
abbrev first_part : List Field → Field
first_part [] = u64-field
first_part (F ∷ Fs) = F

slot_send : IsSend slot.the_row
slot_send = declared_send slot.the_type (resource_send, (search (sendable, crosses) depth 20, (search (sendable, crosses) depth 20, tt)))

-- a table that a struct keeps is sent as its row
table_send : IsSend (as_row (first_part slots.the_type.parts))
table_send = as_row_send (first_part slots.the_type.parts)
    (maps.HashMap-send u64 slot.the_row seeded.the_row seeded_hasher.the_row _ _ _ _ u64_send slot_send hasher_send)

slots_send : IsSend slots.the_row
slots_send = declared_send slots.the_type (table_send, (search (sendable, crosses) depth 20, tt))

store_inside_send : IsSend store_inside.the_row
store_inside_send = declared_send store_inside.the_type (slots_send, (search (sendable, crosses) depth 20, (search (sendable, crosses) depth 20, tt)))

pub store_send : IsSend store.the_row
store_send = record { owned = λ d vs x. (store_inside_send.owned x.0 vs, tt); leaving = λ k d w. tt }
