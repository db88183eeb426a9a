-- The lemmas that several proofs of this crate use.
pub use Rattle.attribute_rules.proofs.ContentsLemmas.{kept_attr, rows_in_order, set_attr, short_of}
pub use Rattle.create_delete.proofs.ChangesLemmas.{join_gone, join_makes_changes, updating_changes, updating_gone}
pub use Rattle.create_delete.proofs.RelinkLemmas.{names_link}
pub use Rattle.create_delete.proofs.ReplacementLemmas.{replacement}
pub use Rattle.create_delete.proofs.UpdatableLemmas.{updatable, updates_attributes}
pub use Rattle.create_delete.proofs.UpdatedLemmas.{sound_updated}
pub use Rattle.entity_model.proofs.SpentLemmas.{counts_to, lowered_stands}
pub use Rattle.m2m_names.proofs.ListLemmas.{all_weaker, filter_same}
pub use Rattle.m2m_names.proofs.TypeLemmas.{same_type}
pub use Rattle.m2m_value.proofs.Levels.{entries-pairs_of}
pub use Rattle.policy_laws.proofs.AlikeLemmas.{id_attrs_hold, map_from_zip, told_in_shape}
pub use Rattle.policy_laws.proofs.ChoiceLemmas.{both_chosen, filter_image, find_image, same_chosen}
pub use Rattle.policy_laws.proofs.DueLemmas.{due-seen}
pub use Rattle.policy_laws.proofs.ReplaceLemmas.{replace-same}
pub use Rattle.policy_laws.proofs.SeenLemmas.{ae_id-seen, at-seen, cse_id-seen, grants-seen, relinks-seen, seen_alike, seen_shows, shown_kept}
pub use Rattle.policy_laws.proofs.TwiceLemmas.{seen_list-twice, without-same, zip-found}
pub use Rattle.request_rules.proofs.OrderLemmas.{places_parts}
pub use Rattle.resource_model.proofs.AttributeLemmas.{attr_itself, in_order-with_value, in_order-without_value, is_attr-itself, is_attr-same, value-with_value_other, value-with_value_same, value-without_value_other, value-without_value_same}
pub use Rattle.retrieve_discover.proofs.OrderLemmas.{in_order-tree}
pub use Rattle.std.proofs.lemmas.Bool.{and_from, and_parts, and_right, both_ways, cases_Bool, cond_both, eq-eqb, eqb-true, false_from_ne_true, ne_eqb, not-true, or_cases, or_from, or_left, or_parts, or_right}
pub use Rattle.std.proofs.lemmas.List.{append-nil, length-map, map-append, reverse-append, take-map}
pub use Rattle.std.proofs.lemmas.List.Elements.{filter-append, filter_map-append}
pub use Rattle.std.proofs.lemmas.List.Folds.{list_any-append}
pub use Rattle.std.proofs.lemmas.Option.{none-some, same_Some, slice_get-map}
pub use Rattle.tree_model.proofs.GrowthLemmas.{below_parts, grown, tree_from_well_formed}
pub use Rattle.tree_model.proofs.KeptLemmas.{KeepsStanding, has_ae_id-map, has_child-map, has_cse_id-map, is_tree-replaced, is_well_formed-map, is_well_formed-replaced, is_well_formed-without, list_all-map, list_any-map}
pub use Rattle.tree_model.proofs.StampLemmas.{standing-restamped}
pub use Rattle.tree_model.proofs.TreeLemmas.{at-append, at-map, at-replaced, at-replaced_other, at_none, at_number, has-map, kin_parts, list_all-same, list_any-same, replaced_missing, staying_all}
