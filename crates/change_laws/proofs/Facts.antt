-- The lemmas that several proofs of this crate use.
pub use Rattle.create_delete.proofs.ChangesLemmas.{c_left, created_are, deleted_are, fresh, gone_are, nothing_apart, only_last, updated_are}
pub use Rattle.create_delete.proofs.CreatableLemmas.{allowed, names_attributes, names_type}
pub use Rattle.create_delete.proofs.DeletionLemmas.{delete_done, deletion_keeps, deletion_takes}
pub use Rattle.create_delete.proofs.EffectLemmas.{done_at, refused_at, told_after, told_refused_at, told_reply}
pub use Rattle.request_rules.proofs.CreatingLemmas.{named_is, new_is}
pub use Rattle.request_rules.proofs.OrderLemmas.{AreAdmitted, IsUnrefusedNew, found_at, members_parts, new_parts, nothing_on, places_parts}
pub use Rattle.std.proofs.lemmas.Bool.{and_from, and_parts, both_ways, cases_Bool, cases_eq, cond_both, eqb-true, false_from_ne_true, leb-true, not-true, not_from_false, or_from, or_left, or_parts, or_right}
pub use Rattle.tree_model.proofs.TreeLemmas.{at-replaced_other, at_has, at_number}
