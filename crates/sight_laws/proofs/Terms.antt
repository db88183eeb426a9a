-- The definitions of the crates below that several proofs of this crate use.
pub use Rattle.addressing.specs.Addresses.{joined}
pub use Rattle.addressing.specs.Names.{base_named, base_of, fan_point, first_named, id_named, is_at, next_named, poll_point, spot_from, spot_of, spot_resource, structured_of}
pub use Rattle.addressing.specs.declared.spot.Spot.TheVariants.{Resource}
pub use Rattle.attribute_rules.specs.Admission.{are_admitted, is_named}
pub use Rattle.attribute_rules.specs.Contents.{clear_all, cleared_attr, does_clear, edit_in, edited, kept_row, named_text, set_all, set_row, value_updated, wanted_in}
pub use Rattle.attribute_rules.specs.Laws.{may_name}
pub use Rattle.attribute_rules.specs.declared.table.Writing.TheVariants.{Update as Updating}
pub use Rattle.container_limits.specs.Limits.{are_within, do_fit, evicted, is_within, kept, lasts, limits_of, longest_fit, suffixes}
pub use Rattle.container_limits.specs.declared.limits.Limits.{Limits}
pub use Rattle.create_delete.specs.Changes.{changes_by, named_attrs, only_in}
pub use Rattle.create_delete.specs.Changing.{address_last, after_joining, container_update_of, create_effect, created_content, effect_at, effect_by, expiry_after, is_told_at, nodes_joined, nodes_updated, own_rows, pushed_by, pushed_out, state_row, told_rows, updated_content, updated_resource, without_all}
pub use Rattle.create_delete.specs.NewResource.{IsNewResource, IsReplacement}
pub use Rattle.create_delete.specs.Telling.{gone_numbers, told_effect_at, told_effect_by, told_effect_on}
pub use Rattle.create_delete.specs.Updating.{IsUpdatable}
pub use Rattle.entity_model.specs.Entity.{EntityData, telling}
pub use Rattle.entity_model.specs.Places.{Effect, first_fault, on_found, refused, reply_to, unless, wanted_content}
pub use Rattle.entity_model.specs.Sound.{IsSoundEntity, greatest_count, greatest_depth, has_known_ids, is_known_id, largest_size}
pub use Rattle.filter_criteria.specs.declared.filter.FilterParts.{FilterParts}
pub use Rattle.m2m_names.specs.Attributes.{attr_of_short, attr_short}
pub use Rattle.m2m_names.specs.Name.{is_originator}
pub use Rattle.m2m_names.specs.Types.{ty_member, ty_row}
pub use Rattle.m2m_names.specs.declared.attributes.Attr.{Attr}
pub use Rattle.m2m_names.specs.declared.attributes.Attr.TheVariants.{Acpi, Aei, Cbs, Cni, Cnm, Cs, Csi, Csy, Ct, Enc, Et, Exc, Lbl, Lt, Macp, Mbs, Mia, Mid, Mni, Mnm, Mt, Mtv, Pi, Pv, Pvs, Ri, Rn, St, Su, Ty as TyAttr}
pub use Rattle.m2m_names.specs.declared.codes.Rsc.{Rsc}
pub use Rattle.m2m_names.specs.declared.codes.Rsc.TheVariants.{BadChild, BadRequest, Conflict, Created, NoPrivilege, NotAcceptable, NotAllowed, NotFound, TooManyMembers, Updated, WrongMember}
pub use Rattle.m2m_names.specs.declared.operations.Op.TheVariants.{Create, Update}
pub use Rattle.m2m_names.specs.declared.types.Ty.{Ty}
pub use Rattle.m2m_names.specs.declared.types.Ty.TheVariants.{AccessControlPolicy, Ae, Container, ContentInstance, CseBase, Group, PollingChannel, RemoteCse, Subscription}
pub use Rattle.m2m_value.specs.Data.{Data, Entry, Pairs, boolean, elements_of, list, no_pairs, null, number, object, pair, pairs_of, text}
pub use Rattle.m2m_value.specs.Node.{AreSorted}
pub use Rattle.m2m_value.specs.Shapes.{as_count, largest_count}
pub use Rattle.m2m_value.specs.View.{as_list, as_text, entries, member_of}
pub use Rattle.policy_eval.specs.Rights.{create_bit, discovery_bit, grants, retrieve_bit, update_bit}
pub use Rattle.policy_eval.specs.Rules.{is_attr_in, linked_ids, listed_in, member_at, policy_at, policy_named, policy_number}
pub use Rattle.policy_laws.specs.Changes.{CountsSubscriptions, NewValue, ShowNoMore, changed, counted_anew, do_judge, does_judge, does_link, is_id_of, is_linked, learns_limits, with_change, with_changes}
pub use Rattle.equal_sights.specs.Seen.{fills, has_bit, is_filled_in, is_shown, may_use, seen, seen_list}
pub use Rattle.primitive_json.specs.declared.reply.ReplyParts.{ReplyParts}
pub use Rattle.primitive_json.specs.declared.request.RequestParts.{RequestParts}
pub use Rattle.request_rules.specs.Asked.{Creation, creation_of}
pub use Rattle.request_rules.specs.Creation.{given_rows, has_place, has_room, is_below, is_free_cse_id, is_single, is_small, is_unique, new_ae_id, new_name, new_resource, new_rows, new_size, next_state, rows_besides, takes_instance}
pub use Rattle.request_rules.specs.Groups.{MembershipData, abandon_group, abandon_member, any_type, are_few, are_validated, differs_from, distinct_texts, does_edit_members, group_rows, has_other_type, have_addresses, is_consistent, is_left_out, is_of_other_type, member_named, member_rows, members_kept, membership_edited, membership_new, set_mixed, type_kept}
pub use Rattle.request_rules.specs.Order.{child_fault, creation_by, creation_by as created_by, creation_places, edit_places, expires_later, fault_at, fault_new, fault_on, member_places, new_places}
pub use Rattle.request_rules.specs.Policies.{link_row, links_live, listed, policy_addressed, policy_ids, policy_meant, policy_on}
pub use Rattle.request_rules.specs.Requests.{admits_content, child_ty, content_for, expiry_for, is_for, named_by, named_for, takes_child}
pub use Rattle.request_rules.specs.Rights.{create_bits, is_relink, is_subscribing, may_do}
pub use Rattle.resource_model.specs.Attributes.{AreInOrder, Row, attr_cmp, is_attr, rows_after, rows_before, text_at, value_of, with_value, without_value}
pub use Rattle.resource_model.specs.Home.{HomeData}
pub use Rattle.resource_model.specs.Resource.{ResourceData, ae_id, has_number, id_of, is_ty}
pub use Rattle.retrieve_discover.specs.Conditions.{is_from_bound, is_over_bound, is_that_label, is_under_bound, meets, meets_any}
pub use Rattle.retrieve_discover.specs.Contents.{content, may_retrieve, members, most_shown, reference, references, references_alone, referred, shown_forest, whole, with_forest, with_last, with_member, with_references}
pub use Rattle.retrieve_discover.specs.Descendants.{Forest, bare, below, cut_forest, forest_of, forest_size, preorder, rooted}
pub use Rattle.retrieve_discover.specs.Findings.{address, address_list, all_found, found, found_addresses, is_found, most_listed, most_of}
pub use Rattle.retrieve_discover.specs.Replies.{discovered, is_by_id, refusal, retrieved, retrieved_of, success}
pub use Rattle.subscription_match.specs.Notices.{notes_of, notes_of_all, notice_of, notice_to, notices, told, told_as}
pub use Rattle.subscription_match.specs.Spending.{count_for, is_spent, left_at, left_to, lowered, nodes_spent, spent}
pub use Rattle.subscription_match.specs.declared.drafts.DraftParts.{DraftParts}
pub use Rattle.tree_model.specs.Changes.{ChangeData, created, creation_changes, deleted, those_of, update_changes, updated}
pub use Rattle.tree_model.specs.Shown.{added_rows, base_rows, common_rows, container_rows, expiry_rows, group_rows as shown_group_rows, own_cse_id, parent_id, shown_count, shown_moment, shown_rows, shown_ty, under_type, with_rows, wrapped}
pub use Rattle.tree_model.specs.Tree.{ae_of, are_below, at, child_of, children_of, due, first_number, fits_in, has, instance_of, instance_size, instances_of, is_ae, is_channel, is_child, is_instance, is_kin, is_numbered_in, is_tree, is_under, is_well_formed, last_number, level_of, line_from, line_of, live, number_at, numbers_of, of_type, overdue_numbers, recounted, replaced, resource_number, restamped, restamped_at, same_text, sizes_of, standing, typed_at, without}
