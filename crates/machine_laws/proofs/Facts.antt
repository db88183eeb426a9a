-- The lemmas that several proofs of this crate use.
pub use Rattle.create_delete.proofs.EffectLemmas.{done_at}
pub use Rattle.create_delete.proofs.RightLemmas.{stays_sound}
pub use Rattle.cse_machine.proofs.OutcomeLemmas.{poll_there}
pub use Rattle.cse_machine.proofs.PlaceLemmas.{claimed_valid}
pub use Rattle.entity_model.proofs.TellingLemmas.{sound_swept}
pub use Rattle.group_fanout.proofs.OperationLemmas.{changing_at, reading_found, reading_shown}
pub use Rattle.m2m_names.proofs.ListLemmas.{all_weaker}
pub use Rattle.policy_laws.proofs.SeenLemmas.{ae_id-seen, at-seen, cse_id-seen, fan_grants-seen, first_passes, grants-seen, one_point, relinks-seen, seen_shows, shown_kept, way-in_order}
pub use Rattle.request_rules.proofs.OrderLemmas.{members_parts}
pub use Rattle.sight_laws.proofs.SeenAlikeLemmas.{AreLeftAlike, AreSeenAlike, FoundAlike, by_fault, found_alike, found_both, not_found, same_home, same_last, same_seen, seen_same, spent_alike, through_sight}
pub use Rattle.sight_laws.proofs.ToldLemmas.{OnlySubsCount, count_whom, expiry_seen, for_whom, numbers_seen, numbers_told, numbers_told_all, only_seen, removal_seen, sight_counts, sound_counts, spent_counts, spent_well, times, whom_all, without_counts}
pub use Rattle.std.proofs.lemmas.Bool.{and_from, and_parts, both_ways, cases_Bool, cond-false, cond-true, eqb-true, false≢true, not-true, or_cases, or_left, or_parts, or_right, true≢false}
pub use Rattle.std.proofs.lemmas.Bool.Decides.{nat_tests}
pub use Rattle.std.proofs.lemmas.List.{append-nil, length-map}
pub use Rattle.std.proofs.lemmas.List.Elements.{All-head, All-tail, filter-append}
pub use Rattle.std.proofs.lemmas.List.Folds.{list_all-append}
pub use Rattle.std.proofs.lemmas.Option.{none-some, same_Some}
pub use Rattle.tree_model.proofs.GrowthLemmas.{growth, next_fits, tree_from_well_formed}
pub use Rattle.tree_model.proofs.KeptLemmas.{KeepsStanding, is_well_formed-map, is_well_formed-without}
pub use Rattle.tree_model.proofs.TreeLemmas.{at_number, has-map, has_at, staying-append}
