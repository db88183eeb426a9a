use Rattle.std.proofs.Common.{◌≡◌, ◌++◌, IsUtf8, string_bytes, map}
use Rattle.std.specs.List.{AllByRecursion}
use Rattle.std.specs.Map.{keys_of}
use Rattle.std.specs.Vec.Iter.{into_iter_items}
use Rattle.serde_json.specs.View.{items_view, members_view}
use Rattle.m2m_value.specs.Reading.{elements_in, pairs_in}
use Rattle.m2m_value.proofs.Answering.{after_kept, pairs_after_kept}
use Rattle.m2m_value.proofs.reading.+kept.Given as goal

-- the answer of all is that of the rest, with what is kept before it
abbrev pub invariant-kept_items-loop-item : goal.invariant-kept_items-loop-item
invariant-kept_items-loop-item l = elements_in (items_view l.fn.items.items) ≡ after_kept l.values.items (elements_in (items_view (into_iter_items l.item-iterator)))

abbrev pub invariant-kept_members-loop-key : goal.invariant-kept_members-loop-key
invariant-kept_members-loop-key l =
    (pairs_in (members_view l.fn.members.entries) ≡ pairs_after_kept l.entries.items (pairs_in (members_view l.key-iterator)))
    × AllByRecursion IsUtf8 (keys_of l.entries.items)
    × (map string_bytes (keys_of l.fn.members.entries) ≡ keys_of l.entries.items ++ map string_bytes (keys_of l.key-iterator))
