-- The lemmas that several proofs of this crate use.
pub use Rattle.m2m_value.proofs.Levels.{elements-elements_of, entries-pairs_of}
pub use Rattle.m2m_value.proofs.Lookup.{compared, member_of-put, member_of-put_other}
pub use Rattle.retrieve_discover.proofs.FindingLemmas.{found_parts}
pub use Rattle.retrieve_discover.proofs.OrderLemmas.{first_of, in_order, in_order-tree}
pub use Rattle.std.proofs.lemmas.Bool.{and_from, and_parts, and_right, both_ways, cases_Bool, cond_both, eq-eqb, eqb-true, false_from_ne_true, lt-ltb, ltb-false, ltb-true, ne_eqb, not-true, or_cases, or_from, or_left, or_right, true≢false}
pub use Rattle.std.proofs.lemmas.Bool.Decides.{nat_tests}
pub use Rattle.std.proofs.lemmas.List.{append-nil, append_assoc, length-append, length-reverse, reverse-reverse}
pub use Rattle.std.proofs.lemmas.List.Elements.{All-append, All-cons, All-contains, All-from_recursion, All-nil, All-take, filter-append, filter_passes}
pub use Rattle.std.proofs.lemmas.Option.{same_Some}
pub use Rattle.std.proofs.lemmas.Slice.Eq.{bytes_eq-Decides}
pub use Rattle.tree_model.proofs.GrowthLemmas.{stands, zero_lacks}
pub use Rattle.tree_model.proofs.QuietLemmas.{number_passes}
pub use Rattle.tree_model.proofs.TreeLemmas.{at_number, child_parts, has_at, line_all}
