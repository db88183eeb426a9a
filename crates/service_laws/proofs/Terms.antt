-- The definitions of the crates below that several proofs of this crate use.
pub use Rattle.cse_machine.specs.History.{History, HistoryLeaves, IsDone}
pub use Rattle.cse_machine.specs.Step.{Step}
pub use Rattle.cse_machine.specs.declared.event.Event.{Event}
pub use Rattle.cse_machine.specs.declared.event.Event.TheVariants.{Ask}
pub use Rattle.cse_machine.specs.declared.event.Outcome.{Outcome}
pub use Rattle.cse_machine.specs.declared.event.Outcome.TheVariants.{Done, Forward, Item, Starved, Ticked}
pub use Rattle.cse_server.specs.Closing.{asks_by, asks_to_close, closes}
pub use Rattle.cse_server.specs.Connection.{EndsRightly, RefusesRightly, Says}
pub use Rattle.cse_server.specs.Outside.{SinkTold, sink_told}
pub use Rattle.desk_replies.specs.Replies.{GivesReplies, GivesReply, GoesOn, RepliesBy}
pub use Rattle.cse_server.specs.Talk.{ends_at_close, malformed, replies_behind, reply_for, reply_texts, request_in, requests_in, some_closes, talk, talk_texts}
pub use Rattle.cse_server.specs.declared.connection.Ended.{Ended}
pub use Rattle.cse_server.specs.declared.connection.Ended.TheVariants.{Closed, Memory, NoFrame, ReadFault, WriteFault}
pub use Rattle.entity_model.specs.Entity.{EntityData, swept}
pub use Rattle.http_binding.specs.Replying.{close_lines, content_lines, id_lines, reply_text}
pub use Rattle.http_client_binding.specs.Asking.{caller_lines, expiry_lines, host_field, origin_lines, request_frame, request_text}
pub use Rattle.http_client_binding.specs.TargetWriting.{has_own_path, host_of, path_of_address}
pub use Rattle.http_client_binding.specs.declared.target.Aim.TheVariants.{Peer}
pub use Rattle.http_frames.specs.Stream.{BeginsWithFrame, BeginsWithFrames, HasNoFrame}
pub use Rattle.http_frames.specs.declared.frame.Frame.{Frame}
pub use Rattle.http_frames.specs.declared.frame.Side.TheVariants.{Request}
pub use Rattle.m2m_io.specs.Link.{Carrying, Exchange, made_in}
pub use Rattle.primitive_json.specs.declared.reply.ReplyParts.{ReplyParts}
pub use Rattle.primitive_json.specs.declared.request.RequestParts.{RequestParts}
pub use Rattle.http_forwarding.specs.Answers.{Carried, handed_on}
pub use Rattle.turn_desk.specs.Entries.{Runs, events_of, outcomes_of, readings_of}
