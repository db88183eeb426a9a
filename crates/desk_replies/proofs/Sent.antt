-- Events and their outcomes go from thread to thread, with the requests and replies in them. `search`
-- finds each field's proof, but breaks off at a whole struct, so each struct is shown by its fields.
use denote.Param.Send.{IsSend, sendable}
use denote.Param.SendFields.{declared_send, variants_send}
use Rattle.std.proofs.Crossing.{Box-send, crosses}
use Rattle.desk_replies.proofs.ValuesSent.{text_send, val_send}
use Rattle.filter_criteria.specs.contracts.filter.Filter as filter
use Rattle.filter_criteria.specs.contracts.filter.Filter.TheInside as filter_inside
use Rattle.filter_criteria.specs.contracts.filter.FilterParts as filter_parts
use Rattle.primitive_json.specs.contracts.note.Dest as dest
use Rattle.primitive_json.specs.contracts.note.NoteParts as note_parts
use Rattle.primitive_json.specs.contracts.note.Note as note
use Rattle.primitive_json.specs.contracts.note.Note.TheInside as note_inside
use Rattle.primitive_json.specs.contracts.request.RequestParts as request_parts
use Rattle.primitive_json.specs.contracts.request.Request as request
use Rattle.primitive_json.specs.contracts.request.Request.TheInside as request_inside
use Rattle.primitive_json.specs.contracts.reply.ReplyParts as reply_parts
use Rattle.primitive_json.specs.contracts.reply.Reply as reply
use Rattle.primitive_json.specs.contracts.reply.Reply.TheInside as reply_inside
use Rattle.retarget.specs.contracts.url.Url as url
use Rattle.retarget.specs.contracts.url.Url.TheInside as url_inside
use Rattle.cse_machine.specs.contracts.event.Event as event
use Rattle.cse_machine.specs.contracts.event.Outcome as outcome

reply_parts_send : IsSend reply_parts.the_row
reply_parts_send = declared_send reply_parts.the_type
    (search (sendable, crosses) depth 100 fits 5000, (search (sendable, crosses) depth 20, (search (sendable, crosses, val_send) depth 20, tt)))

reply_inside_send : IsSend reply_inside.the_row
reply_inside_send = declared_send reply_inside.the_type (reply_parts_send, tt)

pub reply_send : IsSend reply.the_row
reply_send = record { owned = λ d vs x. (reply_inside_send.owned x.0 vs, tt); leaving = λ k d w. tt }

filter_parts_send : IsSend filter_parts.the_row
filter_parts_send = declared_send filter_parts.the_type (
  search (sendable, crosses) depth 20,
  (
    search (sendable, crosses) depth 20,
    (
      search (sendable, crosses) depth 20,
      (
        search (sendable, crosses) depth 20,
        (
          search (sendable, crosses) depth 20,
          (
            search (sendable, crosses) depth 20,
            (
              search (sendable, crosses) depth 20,
              (
                search (sendable, crosses) depth 20,
                (
                  search (sendable, crosses) depth 20,
                  (
                    search (sendable, crosses) depth 20,
                    (
                      search (sendable, crosses) depth 20,
                      (
                        search (sendable, crosses) depth 20,
                        (
                          search (sendable, crosses) depth 20,
                          (search (sendable, crosses) depth 20, tt),
                        ),
                      ),
                    ),
                  ),
                ),
              ),
            ),
          ),
        ),
      ),
    ),
  ),
)

filter_inside_send : IsSend filter_inside.the_row
filter_inside_send = declared_send filter_inside.the_type (Box-send filter_parts.the_row filter_parts_send, tt)

filter_send : IsSend filter.the_row
filter_send = record { owned = λ d vs x. (filter_inside_send.owned x.0 vs, tt); leaving = λ k d w. tt }

request_parts_send : IsSend request_parts.the_row
request_parts_send = declared_send request_parts.the_type (
  search (sendable, crosses) depth 20,
  (
    text_send,
    (
      search (sendable, crosses) depth 20,
      (
        text_send,
        (
          search (sendable, crosses) depth 20,
          (
            search (sendable, crosses, val_send) depth 20,
            (
              search (sendable, crosses) depth 20,
              (
                search (sendable, crosses) depth 20,
                (
                  search (sendable, crosses) depth 20,
                  (search (sendable, crosses, filter_send) depth 20, (search (sendable, crosses) depth 20, tt)),
                ),
              ),
            ),
          ),
        ),
      ),
    ),
  ),
)

request_inside_send : IsSend request_inside.the_row
request_inside_send = declared_send request_inside.the_type (request_parts_send, tt)

pub request_send : IsSend request.the_row
request_send = record { owned = λ d vs x. (request_inside_send.owned x.0 vs, tt); leaving = λ k d w. tt }

pub event_send : IsSend event.the_row
event_send = variants_send event.enum ((request_send, tt), (tt, (tt, tt)))

dest_send : IsSend dest.the_row
dest_send = variants_send dest.enum ((text_send, tt), ((text_send, tt), ((search (sendable, crosses) depth 20, tt), (tt, tt))))

note_parts_send : IsSend note_parts.the_row
note_parts_send = declared_send note_parts.the_type (search (sendable, crosses) depth 20, (dest_send, (request_send, tt)))

note_inside_send : IsSend note_inside.the_row
note_inside_send = declared_send note_inside.the_type (note_parts_send, tt)

pub note_send : IsSend note.the_row
note_send = record { owned = λ d vs x. (note_inside_send.owned x.0 vs, tt); leaving = λ k d w. tt }

url_inside_send : IsSend url_inside.the_row
url_inside_send = declared_send url_inside.the_type (text_send, tt)

url_send : IsSend url.the_row
url_send = record { owned = λ d vs x. (url_inside_send.owned x.0 vs, tt); leaving = λ k d w. tt }

pub outcome_send : IsSend outcome.the_row
outcome_send = variants_send outcome.enum (
  (reply_send, tt),
  (
    (url_send, (request_send, tt)),
    ((search (sendable, crosses, note_send) depth 20, tt), (tt, ((search (sendable, crosses) depth 20, tt), tt))),
  ),
)
