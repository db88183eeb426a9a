use Rattle.std.proofs.Common.{◌≡◌, ◌++◌, ◌≤◌, length}
use Rattle.std.specs.List.{AllByRecursion}
use Rattle.std.specs.Vec.Iter.{into_iter_items}
use Rattle.notify_outbox.specs.declared.item.Item.{Item}
use Rattle.entity_model.specs.Entity.{items_from, numbered_after}
use Rattle.entity_model.proofs.telling.append_each.Given as goal

-- the items so far, and those of the notes that are left, are all; and there is room for these
abbrev pub invariant-loop-note : goal.invariant-loop-note
invariant-loop-note l =
    (l.outbox.items ++ items_from l.outbox.count l.moment (into_iter_items l.note-iterator)
    ≡ l.fn.outbox.items ++ items_from l.fn.outbox.count l.moment l.fn.notes.items)
    × (numbered_after l.outbox.count (into_iter_items l.note-iterator)
    ≡ numbered_after l.fn.outbox.count l.fn.notes.items)
    × (length (into_iter_items l.note-iterator) ≤ l.outbox.room)
    × AllByRecursion (λ (i : Item). i.since ≤ l.moment) l.outbox.items
