-- The definitions of the crates below that several proofs of this crate use.
pub use Rattle.attribute_rules.specs.declared.table.Writing.TheVariants.{Create as Creating, Update as Updating}
pub use Rattle.create_delete.specs.Changes.{changes_at, changes_by, creation_changes, named_attrs, only_in, update_changes}
pub use Rattle.create_delete.specs.Changing.{after_joining, container_update_of, create_effect, delete_effect, effect_at, nodes_updated, own_rows, pushed_by, pushed_out, state_row, update_effect, updated_by, updated_resource, with_new_resource}
pub use Rattle.create_delete.specs.Joining.{IsAllowed, MayJoin, MayJoinContainer, gone_by}
pub use Rattle.entity_model.specs.Entity.{EntityData, telling}
pub use Rattle.entity_model.specs.Places.{Check, Effect, first_fault, refused}
pub use Rattle.entity_model.specs.Sound.{IsSoundEntity, are_distinct}
pub use Rattle.m2m_names.specs.declared.codes.Rsc.{Rsc}
pub use Rattle.m2m_names.specs.declared.codes.Rsc.TheVariants.{BadChild, NotFound}
pub use Rattle.m2m_names.specs.declared.operations.Op.{Op}
pub use Rattle.m2m_names.specs.declared.operations.Op.TheVariants.{Create, Delete, Notify, Retrieve, Update}
pub use Rattle.m2m_names.specs.declared.types.Ty.{Ty}
pub use Rattle.m2m_names.specs.declared.types.Ty.TheVariants.{ContentInstance, Group}
pub use Rattle.m2m_value.specs.Data.{Data, Entry, boolean, elements_of, list, number, text}
pub use Rattle.primitive_json.specs.declared.request.RequestParts.{RequestParts}
pub use Rattle.request_rules.specs.Creation.{Creation, creation_of, creator_rows, new_resource, new_rows, new_size, next_state}
pub use Rattle.request_rules.specs.Groups.{MembershipData, abandon_group, abandon_member, admits_members, any_type, are_few, differs_from, distinct_texts, does_edit_members, group_rows, has_other_type, have_addresses, is_consistent, is_left_out, is_live_member, is_of_other_type, kept_among, member_limit, member_named, member_rows, members_edited, members_kept, members_wanted, membership_edited, membership_new, new_after, set_mixed, type_kept}
pub use Rattle.request_rules.specs.Order.{creation_by, creation_places, expires_later, fault_at, fault_on, member_places, places}
pub use Rattle.request_rules.specs.Policies.{link_row, links_live}
pub use Rattle.request_rules.specs.Requests.{admits_content, child_ty, content_for, is_content_for, named_by, named_for, takes_child}
pub use Rattle.resource_model.specs.Resource.{ResourceData, is_ty}
pub use Rattle.tree_model.specs.Tree.{at, has, is_instance, is_tree, restamped}
