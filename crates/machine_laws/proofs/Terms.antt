-- The definitions of the crates below that several proofs of this crate use.
pub use Rattle.addressing.specs.Addresses.{address_of}
pub use Rattle.addressing.specs.Laws.{named_here}
pub use Rattle.addressing.specs.Names.{base_of, first_named, is_at, is_fan, is_poll, next_named, poll_point, spot_from, spot_of}
pub use Rattle.addressing.specs.declared.addr.Addr.{Addr}
pub use Rattle.addressing.specs.declared.addr.Addr.TheVariants.{Foreign, Local, OtherProvider}
pub use Rattle.addressing.specs.declared.addr.AddrFault.{AddrFault}
pub use Rattle.addressing.specs.declared.spot.Spot.{Spot}
pub use Rattle.addressing.specs.declared.spot.Spot.TheVariants.{Fan, Poll, Resource}
pub use Rattle.create_delete.specs.Changes.{changes_by, only_in}
pub use Rattle.create_delete.specs.Changing.{create_effect, delete_effect, effect_at, effect_by}
pub use Rattle.create_delete.specs.Relaying.{notify_effect, notify_on, relayed}
pub use Rattle.create_delete.specs.Telling.{gone_numbers, told_effect_at, told_effect_by, told_effect_on}
pub use Rattle.cse_machine.specs.Answer.{ComesOf, EventEffect, address_effect, addressed, as_done, effect_of, first_places, has_answer, onward_effect, point_of, poll_effect, resource_at, route_effect, spot_effect}
pub use Rattle.cse_machine.specs.History.{History, HistoryLeaves, IsDone}
pub use Rattle.cse_machine.specs.Step.{IsCutShort, IsUnswept, Step, heard_members}
pub use Rattle.cse_machine.specs.declared.event.Event.{Event}
pub use Rattle.cse_machine.specs.declared.event.Event.TheVariants.{Ask, Take, Tick}
pub use Rattle.cse_machine.specs.declared.event.Outcome.{Outcome}
pub use Rattle.cse_machine.specs.declared.event.Outcome.TheVariants.{Done, Forward, Item, Item as Given, Starved, Ticked}
pub use Rattle.entity_model.specs.Entity.{EntityData, event_moment, expired, expired_told, items_from, still_waiting, swept}
pub use Rattle.entity_model.specs.Expiry.{expiry_changes}
pub use Rattle.entity_model.specs.Places.{Effect, first_fault, on_found, reading_bit, refusal, refused, reply_alone, reply_to, unless}
pub use Rattle.entity_model.specs.Sound.{IsSoundEntity}
pub use Rattle.group_fanout.specs.Fan.{after_members, fan_effect, fan_effect_at, fan_places, fanned, fanned_requests, gathered_one, gathering, is_fanned, listed_members, may_fan, member_effect, member_effect_at, member_effect_by, member_requests, requests_to, rest_of, sent_to, singles_of, with_rest}
pub use Rattle.group_fanout.specs.Operations.{change_effect, found_effect, operation_effect, reading_reply, relay_effect, resource_effect}
pub use Rattle.group_fanout.specs.Rights.{claimed_originator, has_right}
pub use Rattle.m2m_names.specs.Name.{is_originator}
pub use Rattle.m2m_names.specs.Operations.{op_row}
pub use Rattle.m2m_names.specs.Types.{does_take}
pub use Rattle.m2m_names.specs.declared.attributes.Attr.TheVariants.{Mid, Poa}
pub use Rattle.m2m_names.specs.declared.codes.Rsc.{Rsc}
pub use Rattle.m2m_names.specs.declared.codes.Rsc.TheVariants.{BadChild, BadRequest, NoPrivilege, NotAllowed, NotFound, Ok as Fine, RequestTimeout}
pub use Rattle.m2m_names.specs.declared.operations.Op.{Op}
pub use Rattle.m2m_names.specs.declared.operations.Op.TheVariants.{Create, Delete, Notify, Retrieve, Update}
pub use Rattle.m2m_names.specs.declared.types.Ty.{Ty}
pub use Rattle.m2m_names.specs.declared.types.Ty.TheVariants.{CseBase, Group, RemoteCse, Subscription}
pub use Rattle.m2m_value.specs.Data.{Data, text}
pub use Rattle.notify_outbox.specs.Items.{is_to_send, still_waits, waits_for}
pub use Rattle.policy_eval.specs.Rights.{bits_by, delete_bit, do_give, fan_grants, grants, has_bits, notify_bit, relinks, retrieve_bit, update_bit}
pub use Rattle.policy_eval.specs.Rules.{fan_rules, listed_in, texts_of}
pub use Rattle.equal_sights.specs.Seen.{first_url as first_of, is_shown, may_use, only_point, seen, seen_list, seen_value, way_in}
pub use Rattle.primitive_json.specs.declared.note.NoteParts.{NoteParts}
pub use Rattle.primitive_json.specs.declared.reply.ReplyParts.{ReplyParts}
pub use Rattle.primitive_json.specs.declared.request.RequestParts.{RequestParts}
pub use Rattle.request_rules.specs.Order.{creation_by, creation_places, fault_new, fault_on, new_places}
pub use Rattle.request_rules.specs.Requests.{child_ty, is_for, named_by}
pub use Rattle.request_rules.specs.Rights.{create_bits, is_discovery, is_relink, may_do, retrieve_bits}
pub use Rattle.resource_model.specs.Attributes.{AreInOrder, Row, value_of}
pub use Rattle.resource_model.specs.Home.{HomeData}
pub use Rattle.resource_model.specs.Resource.{ResourceData, has_number, is_ty}
pub use Rattle.retarget.specs.Routes.{comes_from_cse, forwarded, routed, routed_to}
pub use Rattle.retrieve_discover.specs.Polling.{polled}
pub use Rattle.retrieve_discover.specs.Replies.{discovered, retrieved, retrieved_of}
pub use Rattle.subscription_match.specs.Destinations.{cse_named, first_url, is_url, leading_cse_id}
pub use Rattle.subscription_match.specs.Notices.{notes_of_all}
pub use Rattle.subscription_match.specs.declared.drafts.DraftParts.{DraftParts}
pub use Rattle.tree_model.specs.Changes.{ChangeData, deleted}
pub use Rattle.tree_model.specs.Tree.{at, cse_of, fits_in, grows, has, is_cse, is_due, is_root, is_taken, is_tree, is_well_formed, live, may_stand, numbers_of, overdue_numbers, resource_number, same_text, staying, without}
pub use Rattle.turn_desk.specs.Entries.{events_of, outcomes_of, readings_of}
