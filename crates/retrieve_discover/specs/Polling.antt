-- What comes of a poll: a Retrieve of the poll point of a polling channel (TS-0001, 9.6.22).
use Rattle.std.specs.Prelude.{ℕ, false, List, [], ◌∷◌, find, Option, option_map, codes}
use Rattle.std.specs.Prelude.{if◌then◌else◌}
use Rattle.std.specs.Option.{option_map_or}
use Rattle.m2m_names.specs.declared.codes.Rsc.TheVariants.{NoPrivilege, RequestTimeout}
use Rattle.m2m_value.specs.Data.{Data, object, pairs_of}
use Rattle.primitive_json.specs.Writing.{written_request}
use Rattle.primitive_json.specs.declared.note.NoteParts.{NoteParts}
use Rattle.primitive_json.specs.declared.request.RequestParts.{RequestParts}
use Rattle.policy_eval.specs.Rights.{grants}
use Rattle.notify_outbox.specs.Items.{waits_for}
use Rattle.notify_outbox.specs.Outbox.{without_first}
use Rattle.notify_outbox.specs.declared.item.Item.{Item}
use Rattle.entity_model.specs.Entity.{EntityData}
use Rattle.entity_model.specs.Places.{Effect, reading_bit, refused}
use Rattle.retrieve_discover.specs.Replies.{success}

-- the note of the first item that waits for a channel
abbrev pub first_waiting : ℕ → EntityData → Option NoteParts
first_waiting channel e = option_map (λ (i : Item). i.note) (find (waits_for channel) e.items)

-- the entity without that item
abbrev pub without_waiting : ℕ → EntityData → EntityData
without_waiting channel e = record e { items = without_first (waits_for channel) e.items }

-- the content that hands a note's request to who polls (TS-0004, 8.2.4)
abbrev pub handed_on : NoteParts → Data
handed_on note = object (pairs_of ((codes "m2m:rqp", written_request note.request) ∷ []))

-- The first item that waits for the channel is given and removed; where none does, the time that
-- the request had to wait has passed at once (the profile's).
abbrev pub given_first : ℕ → EntityData → RequestParts → Effect
given_first channel e request = option_map_or
    (λ note. record {
      reply = success request (handed_on note);
      after = without_waiting channel e;
    })
    (first_waiting channel e) (refused e request RequestTimeout)

-- what comes of a poll of the channel of a number: who has no RETRIEVE on it is refused, and the
-- channel's rule gives that to its owner alone (TS-0001, 9.6.21)
abbrev pub polled : EntityData → List ℕ → RequestParts → ℕ → Effect
polled e originator request channel =
    if grants e.home e.nodes originator (reading_bit false) channel
    then given_first channel e request else refused e request NoPrivilege
