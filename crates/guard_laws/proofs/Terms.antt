-- The definitions of the crates below that several proofs of this crate use.
pub use Rattle.addressing.specs.Names.{structured_of}
pub use Rattle.addressing.specs.declared.spot.Spot.{Spot}
pub use Rattle.addressing.specs.declared.spot.Spot.TheVariants.{Fan, Poll, Resource}
pub use Rattle.create_delete.specs.Changing.{create_effect, created_content, told_rows, update_effect, updated_content, updated_resource}
pub use Rattle.create_delete.specs.Relaying.{notify_effect, relayed}
pub use Rattle.create_delete.specs.Telling.{drafts_at, told_effect_at}
pub use Rattle.cse_machine.specs.Answer.{EventEffect, addressed, as_done, effect_of, resource_at}
pub use Rattle.cse_machine.specs.History.{History, HistoryLeaves, IsDone}
pub use Rattle.cse_machine.specs.Step.{IsCutShort, IsUnswept, Step, heard_members}
pub use Rattle.cse_machine.specs.declared.event.Event.{Event}
pub use Rattle.cse_machine.specs.declared.event.Event.TheVariants.{Ask, Take, Tick}
pub use Rattle.cse_machine.specs.declared.event.Outcome.{Outcome}
pub use Rattle.cse_machine.specs.declared.event.Outcome.TheVariants.{Done, Forward, Item, Starved, Ticked}
pub use Rattle.entity_model.specs.Entity.{EntityData, swept}
pub use Rattle.entity_model.specs.Places.{Effect, reading_bit, refusal, refused, reply_to}
pub use Rattle.entity_model.specs.Sound.{IsSoundEntity, begins_with_base}
pub use Rattle.group_fanout.specs.Fan.{Single, after_members, is_fanned, member_effect, requests_to, sent_to, single_of, singles_of}
pub use Rattle.group_fanout.specs.Operations.{change_effect, operation_effect, reading_reply}
pub use Rattle.group_fanout.specs.Rights.{claimed_originator, has_right}
pub use Rattle.m2m_names.specs.Name.{is_originator}
pub use Rattle.m2m_names.specs.Operations.{op_row}
pub use Rattle.m2m_names.specs.Types.{ty_member}
pub use Rattle.m2m_names.specs.declared.codes.Rsc.{Rsc}
pub use Rattle.m2m_names.specs.declared.codes.Rsc.TheVariants.{BadChild, Created, Deleted, NoPrivilege, NotFound, Ok as Fine, Updated}
pub use Rattle.m2m_names.specs.declared.operations.Op.{Op}
pub use Rattle.m2m_names.specs.declared.operations.Op.TheVariants.{Create, Delete, Notify, Retrieve, Update}
pub use Rattle.m2m_names.specs.declared.types.Ty.{Ty}
pub use Rattle.m2m_value.specs.Data.{Data, Entry, object, pairs_of, text}
pub use Rattle.notify_outbox.specs.Items.{is_to_send, waits_for}
pub use Rattle.policy_eval.specs.Rights.{discovery_bit, grants, retrieve_bit}
pub use Rattle.primitive_json.specs.declared.reply.ReplyParts.{ReplyParts}
pub use Rattle.primitive_json.specs.declared.request.RequestParts.{RequestParts}
pub use Rattle.request_rules.specs.Order.{creation_by, fault_on}
pub use Rattle.request_rules.specs.Requests.{child_ty, named_by}
pub use Rattle.request_rules.specs.Rights.{is_discovery, may_do}
pub use Rattle.resource_model.specs.Attributes.{Row}
pub use Rattle.resource_model.specs.Home.{HomeData}
pub use Rattle.resource_model.specs.Resource.{ResourceData}
pub use Rattle.retrieve_discover.specs.Polling.{handed_on}
pub use Rattle.retrieve_discover.specs.Replies.{discovered, retrieved, retrieved_of}
pub use Rattle.retrieve_laws.specs.Guard.{HasOwnAddresses, OthersAreShownByRight}
pub use Rattle.tree_model.specs.Tree.{are_below, at, child_of, has, is_child, is_root, is_tree, is_under, may_stand}
pub use Rattle.turn_desk.specs.Entries.{entry_of, events_of, outcomes_of, readings_of}
