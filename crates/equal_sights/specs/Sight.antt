-- What an originator sees of an entity.
use Rattle.std.specs.Prelude.{ℕ, List}
use Rattle.entity_model.specs.Entity.{EntityData, blank}
use Rattle.equal_sights.specs.Seen.{seen_list}
use Rattle.equal_sights.specs.Shape.{shape_list}

-- the entity as the originator sees it: of each resource what it sees whatever its rights, and what
-- these show; what isn't named here is blank, as the outbox
abbrev pub sight : List ℕ → EntityData → EntityData
sight originator e = record (blank e.home) {
  nodes = seen_list e.home e.nodes originator;
  next = e.next;
  last = e.last;
}

-- What an originator sees of the entity whatever its rights, and by which it is judged. That is
-- home, next number and last moment, and of each resource the number, type, name and parent, when
-- it is due, `acpi`, `macp` and whether the originator owns it; the `aei` of an AE; the `csi` of a
-- remote CSE and the first http URL of its `poa`; the `enc` and the `exc` of a subscription; and of
-- a policy the bits that the originator has by `pv` and by `pvs`.
abbrev pub shape : List ℕ → EntityData → EntityData
shape originator e = record (blank e.home) {
  nodes = shape_list e.home e.nodes originator;
  next = e.next;
  last = e.last;
}
