use Rattle.std.proofs.Common.{◌≡◌, ◌+◌, ◌<◌, ◌^◌, drop, length}
use Rattle.m2m_value.specs.Data.{elements_of, pairs_of}
use Rattle.m2m_value.specs.Spelling.{elements_from, pairs_from, capped}
use Rattle.m2m_value.proofs.size.+text_len.Given as goal

abbrev pub invariant-items_len-loop-place : goal.invariant-items_len-loop-place
invariant-items_len-loop-place l =
    (capped (l.len + length (elements_from (elements_of (drop l.place l.value-items)) l.place)) ≡ capped (2 + length (elements_from (elements_of l.value-items) 0))) × (l.len < 2 ^ 64)

abbrev pub invariant-members_len-loop-place : goal.invariant-members_len-loop-place
invariant-members_len-loop-place l =
    (capped (l.len + length (pairs_from (pairs_of (drop l.place l.member-items)) l.place)) ≡ capped (2 + length (pairs_from (pairs_of l.member-items) 0))) × (l.len < 2 ^ 64)
