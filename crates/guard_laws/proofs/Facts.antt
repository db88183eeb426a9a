-- The lemmas that several proofs of this crate use.
pub use Rattle.create_delete.proofs.RightLemmas.{told_by_right, told_stays_sound}
pub use Rattle.cse_machine.proofs.OutcomeLemmas.{same_reply}
pub use Rattle.entity_model.proofs.SoundLemmas.{base_parts, sound_taken}
pub use Rattle.entity_model.proofs.TellingLemmas.{sound_swept}
pub use Rattle.group_fanout.proofs.OperationLemmas.{changing_at}
pub use Rattle.m2m_names.proofs.ListLemmas.{all_weaker}
pub use Rattle.request_rules.proofs.OrderLemmas.{places_parts}
pub use Rattle.retrieve_laws.proofs.RightLemmas.{addresses_under, discovered_by_right, ids_under, references_under, retrieved_by_right}
pub use Rattle.std.proofs.lemmas.Bool.{both_ways, cases_Bool, eqb-true, false_from_ne_true, lt-ltb, ltb-true, or_cases, true≢false}
pub use Rattle.std.proofs.lemmas.List.{append-nil}
pub use Rattle.std.proofs.lemmas.List.Elements.{All-head, All-tail}
pub use Rattle.std.proofs.lemmas.List.Folds.{find-append}
pub use Rattle.std.proofs.lemmas.Option.{none-some, same_Some}
pub use Rattle.tree_model.proofs.GrowthLemmas.{growth, next_fits, tree_from_well_formed, zero_lacks}
