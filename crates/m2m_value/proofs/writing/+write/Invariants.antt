use Rattle.std.proofs.Common.{◌≡◌, ◌++◌, drop}
use Rattle.m2m_value.specs.Data.{elements_of, pairs_of}
use Rattle.m2m_value.specs.Sound.{AreSound, HaveSound, BeginsWith}
use Rattle.m2m_value.specs.Spelling.{elements_from, pairs_from}
use Rattle.m2m_value.proofs.writing.+write.Given as goal

abbrev pub invariant-write_items-loop-place : goal.invariant-write_items-loop-place
invariant-write_items-loop-place l =
    (l.out.items ++ elements_from (elements_of (drop l.place l.value-items)) l.place ≡ l.initial.out.items ++ elements_from (elements_of l.value-items) 0)
    × BeginsWith l.fn.out.items l.out.items
    × (AreSound (elements_of (drop l.place l.value-items)) → AreSound (elements_of l.value-items))

abbrev pub invariant-write_members-loop-place : goal.invariant-write_members-loop-place
invariant-write_members-loop-place l =
    (l.out.items ++ pairs_from (pairs_of (drop l.place l.member-items)) l.place ≡ l.initial.out.items ++ pairs_from (pairs_of l.member-items) 0)
    × BeginsWith l.fn.out.items l.out.items
    × (HaveSound (pairs_of (drop l.place l.member-items)) → HaveSound (pairs_of l.member-items))
