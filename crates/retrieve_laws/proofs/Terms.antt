-- The definitions of the crates below that several proofs of this crate use.
pub use Rattle.addressing.specs.Addresses.{are_names, between_slashes, joined}
pub use Rattle.addressing.specs.Laws.{have_free_names, spot_named}
pub use Rattle.addressing.specs.Names.{structured_of}
pub use Rattle.addressing.specs.declared.spot.Spot.TheVariants.{Fan, Poll, Resource}
pub use Rattle.entity_model.specs.Places.{wanted_content}
pub use Rattle.filter_criteria.specs.declared.filter.FilterParts.{FilterParts}
pub use Rattle.m2m_names.specs.Attributes.{all_attrs, attr_short}
pub use Rattle.m2m_names.specs.Name.{is_free_name, is_name, is_numbered, is_resource_id}
pub use Rattle.m2m_names.specs.Types.{all_types, ty_member, ty_row}
pub use Rattle.m2m_names.specs.declared.attributes.Attr.TheVariants.{Ri}
pub use Rattle.m2m_names.specs.declared.codes.Rsc.TheVariants.{NoPrivilege, NotFound}
pub use Rattle.m2m_names.specs.declared.types.Ty.{Ty}
pub use Rattle.m2m_names.specs.declared.types.Ty.TheVariants.{AccessControlPolicy, AccessControlPolicyAnnc, Ae, AeAnnc, Container, ContainerAnnc, ContentInstance, ContentInstanceAnnc, CseBase, Group, GroupAnnc, PollingChannel, RemoteCse, Subscription}
pub use Rattle.m2m_value.specs.Data.{Data, Elements, Entry, boolean, element, elements_of, list, no_elements, null, number, object, pairs_of, text}
pub use Rattle.m2m_value.specs.View.{as_text, elements, entries, member_of, text_or_empty}
pub use Rattle.policy_eval.specs.Rights.{discovery_bit, grants, retrieve_bit}
pub use Rattle.primitive_json.specs.declared.reply.ReplyParts.{ReplyParts}
pub use Rattle.primitive_json.specs.declared.request.RequestParts.{RequestParts}
pub use Rattle.resource_model.specs.Attributes.{Row, is_attr, value_of}
pub use Rattle.resource_model.specs.Home.{HomeData, IsHome, default_home}
pub use Rattle.resource_model.specs.Resource.{ResourceData, has_number, id_of}
pub use Rattle.retrieve_discover.specs.Conditions.{meets_any}
pub use Rattle.retrieve_discover.specs.Contents.{content, may_retrieve, members, most_shown, reference, references, references_alone, referred, shown_forest, whole, with_forest, with_last, with_references}
pub use Rattle.retrieve_discover.specs.Descendants.{Forest, bare, below, cut_forest, forest_of, forest_size, line_below, line_up_to, preorder, rooted}
pub use Rattle.retrieve_discover.specs.Findings.{address, address_in, address_list, all_found, found, found_addresses, is_found, most_listed, most_of}
pub use Rattle.retrieve_discover.specs.Replies.{discovered, is_by_id, refusal, retrieved, retrieved_of, success}
pub use Rattle.tree_model.specs.Shown.{members_of, shown_rows, under_type}
pub use Rattle.tree_model.specs.Tree.{are_below, at, child_of, children_of, has, is_child, is_tree, is_under, line_of}
