-- The definitions of the crates below that several proofs of this crate use.
pub use Rattle.m2m_names.specs.Ids.{id_parts}
pub use Rattle.m2m_names.specs.Operations.{all_bits}
pub use Rattle.m2m_names.specs.Types.{does_take, ty_row}
pub use Rattle.m2m_names.specs.declared.attributes.Attr.{Attr}
pub use Rattle.m2m_names.specs.declared.attributes.Attr.TheVariants.{Acpi, Aei, Cs, Csi, Exc, Macp, Mia, Poa, Pv, Pvs}
pub use Rattle.m2m_names.specs.declared.types.Ty.{Ty}
pub use Rattle.m2m_names.specs.declared.types.Ty.TheVariants.{AccessControlPolicy, Ae, Container, ContentInstance, CseBase, Group, PollingChannel, RemoteCse, Subscription}
pub use Rattle.m2m_value.specs.Data.{Data, number}
pub use Rattle.m2m_value.specs.View.{as_text}
pub use Rattle.policy_eval.specs.Originators.{full_form, is_same, own_lead}
pub use Rattle.policy_eval.specs.Rights.{bits_by, do_give, fan_grants, grants, has_bits, is_subject, relinks, update_bit, with_rule, with_rules}
pub use Rattle.policy_eval.specs.Rules.{Rule, channel_rules, fan_rules, ids_at, is_attr_in, link_rules, linked_ids, linked_rules, listed_in, lists_ids, member_at, member_number, only, owner_rules, policies_of, policy_named, policy_of, registree, rule_for, rules_by, rules_in, rules_of, stated_rule, sum_of_bits, texts_of}
pub use Rattle.resource_model.specs.Attributes.{AreInOrder, Row, attr_cmp, count_at, is_attr, rows_after, rows_before, value_of, with_value}
pub use Rattle.resource_model.specs.Home.{HomeData}
pub use Rattle.resource_model.specs.Resource.{ResourceData, ae_id, cse_id, has_number, id_of, is_ty}
pub use Rattle.tree_model.specs.Tree.{at, child_of, due, due_under, fits_in, has, instance_size, is_child, is_due, is_instance, is_spared, is_taken, is_tree, is_well_formed, lesser, live, may_stand, of_type, recounted, replaced, resource_number, resource_of_id, staying, stays, typed_at, without}
