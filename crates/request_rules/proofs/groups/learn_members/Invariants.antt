use Rattle.std.proofs.Common.{◌≡◌, ◌&&◌, ◌||◌, ◌++◌, map, IsUtf8}
use Rattle.std.specs.List.{AllByRecursion, list_all, list_any}
use Rattle.std.specs.Vec.Iter.{into_iter_items}
use Rattle.m2m_value.specs.Data.{text}
use Rattle.request_rules.specs.Groups.{is_live_member, is_of_other_type, kept_among, membership_of}
use Rattle.request_rules.proofs.groups.learn_members.Given as goal

-- what is known so far, and what is to be learned of the rest, is what is known of all
abbrev pub invariant-loop-address : goal.invariant-loop-address
invariant-loop-address g l = record {
  kept : l.known.kept.items ++ map text (kept_among l.entity (membership_of l.members) (into_iter_items l.address-iterator)) ≡ map text (kept_among l.entity (membership_of l.members) l.fn.texts.items);
  other : (l.known.has_other || list_any (is_of_other_type l.entity l.members.of_type) (into_iter_items l.address-iterator)) ≡ list_any (is_of_other_type l.entity l.members.of_type) l.fn.texts.items;
  live : (l.known.are_live && list_all (is_live_member l.entity) (kept_among l.entity (membership_of l.members) (into_iter_items l.address-iterator))) ≡ list_all (is_live_member l.entity) (kept_among l.entity (membership_of l.members) l.fn.texts.items);
  utf8 : AllByRecursion IsUtf8 (into_iter_items l.address-iterator);
}
