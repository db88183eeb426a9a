-- The lemmas that several proofs of this crate use.
pub use Rattle.m2m_names.proofs.LookupLemmas.{found_is, option_or-None}
pub use Rattle.resource_model.proofs.AttributeLemmas.{is_attr-itself, is_attr-same, value-with_value_other, value-without_value_other}
pub use Rattle.std.proofs.lemmas.Bool.{and_from, and_left, and_parts, and_right, both_ways, cases_Bool, cond-false, cond-true, cond_both, eq-eqb, eqb-true, false_from_ne_true, le-leb, leb-true, ltb-false, ne_eqb, or_cases, or_from, or_left, or_parts, or_right}
pub use Rattle.std.proofs.lemmas.List.{length-map, map-append}
pub use Rattle.std.proofs.lemmas.List.Elements.{AllZip-push, filter_map-append}
pub use Rattle.std.proofs.lemmas.List.Folds.{list_any-append}
pub use Rattle.std.proofs.lemmas.Nat.Bits.{bit_at-zero, bit_at_and, bit_at_or, same_from_bits}
pub use Rattle.std.proofs.lemmas.Option.{same_Some}
pub use Rattle.std.proofs.lemmas.Simd.{map-map}
pub use Rattle.tree_model.proofs.GrowthLemmas.{FitsIn, IsNext, at-without, below_has, below_lacks, fits_parts, grows-append, growth, next_fits, stands, tree_from_well_formed}
pub use Rattle.tree_model.proofs.QuietLemmas.{due_plain, number_passes}
pub use Rattle.tree_model.proofs.TakenLemmas.{all_taken}
pub use Rattle.tree_model.proofs.TreeLemmas.{at-append, at-map, at-replaced, at-replaced_other, at_has, at_none, at_number, has-map, kin_parts, map-replaced}
