use Rattle.std.proofs.Common.{◌≡◌, ◌+◌, ◌*◌, ◌≤◌}
use Rattle.std.specs.Vec.Iter.{into_iter_items}
use Rattle.json.specs.Tree.{depth, items_depth, members_depth}
use Rattle.json.specs.Value.{value_view, items_view as items_read, members_view as members_read}
use Rattle.serde_json.specs.Read.{of_items}
use Rattle.m2m_value.specs.Node.{HaveTextKeys}
use Rattle.m2m_value.specs.Reading.{elements_if}
use Rattle.m2m_value.proofs.Answering.{after_kept}
use Rattle.m2m_value.proofs.Parses.{GoOn}
use Rattle.m2m_value.proofs.parsing.+taken.Given as goal

abbrev pub decreases-taken : goal.decreases-taken
decreases-taken l = 3 * depth (value_view l.value)

abbrev pub decreases-items_taken : goal.decreases-items_taken
decreases-items_taken l = 3 * items_depth (items_read l.items.items) + 1

abbrev pub decreases-members_taken : goal.decreases-members_taken
decreases-members_taken l = 3 * members_depth (members_read l.members.items) + 2

abbrev pub decreases-member_taken : goal.decreases-member_taken
decreases-member_taken l = 3 * depth (value_view l.member.1) + 1

-- the items that are left come behind those that are kept
abbrev pub invariant-items_taken-loop-item : goal.invariant-items_taken-loop-item
invariant-items_taken-loop-item l =
    (elements_if (of_items (items_read l.fn.items.items)) ≡ after_kept l.values.items (elements_if (of_items (items_read (into_iter_items l.item-iterator)))))
    × (items_depth (items_read (into_iter_items l.item-iterator)) ≤ items_depth (items_read l.fn.items.items))

-- the members that are left go in one after another
abbrev pub invariant-members_taken-loop-member : goal.invariant-members_taken-loop-member
invariant-members_taken-loop-member l =
    GoOn (members_read l.fn.members.items) (members_read (into_iter_items l.member-iterator)) l.found
    × HaveTextKeys l.found
    × (members_depth (members_read (into_iter_items l.member-iterator)) ≤ members_depth (members_read l.fn.members.items))
