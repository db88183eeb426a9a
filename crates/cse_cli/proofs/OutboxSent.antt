-- An outbox goes from thread to thread, with its items.
use denote.RattleType.{RattleType}
use denote.Param.Send.{IsSend, sendable}
use denote.Param.SendFields.{declared_send}
use Rattle.std.proofs.Crossing.{crosses, frees, send}
use Rattle.std_collections.proofs.ListMemory.Crosses.{Nodes-send}
use Rattle.std_collections.specs.contracts.linked_list.LinkedList as linked
use Rattle.std_collections.specs.contracts.linked_list.LinkedList.TheInside as linked_inside
use Rattle.std_heap.specs.contracts.Global as heap
use Rattle.std_heap.specs.contracts.GlobalAllocator.TheImpl.{ghosts}
use Rattle.notify_outbox.specs.contracts.item.Item as item
use Rattle.notify_outbox.specs.contracts.queues.Queue as queue
use Rattle.notify_outbox.specs.contracts.outbox.Outbox as outbox
use Rattle.notify_outbox.specs.contracts.outbox.Outbox.TheInside as outbox_inside
use Rattle.desk_replies.proofs.Sent.{note_send}
use Rattle.desk_replies.proofs.ValuesSent.{text_send}

-- a linked list goes where its elements do
module _ (T : RattleType) (s : IsSend T) where
  linked_inside_send : IsSend (linked_inside.the_row T heap.the_row ghosts)
  linked_inside_send = declared_send (linked_inside.the_type T heap.the_row ghosts) (Nodes-send T heap.the_row ghosts s send frees, (send, tt))

  linked_send : IsSend (linked.the_row T heap.the_row ghosts)
  linked_send = record { owned = λ d vs x. (linked_inside_send.owned x.0 vs, tt); leaving = λ k d w. tt }

item_send : IsSend item.the_row
item_send = declared_send item.the_type (search (sendable, crosses) depth 20, (search (sendable, crosses) depth 20, (note_send, tt)))

queue_send : IsSend queue.the_row
queue_send = declared_send queue.the_type (search (sendable, crosses) depth 20, (linked_send item.the_row item_send, tt))

outbox_inside_send : IsSend outbox_inside.the_row
outbox_inside_send = declared_send outbox_inside.the_type (
  search (sendable, crosses, queue_send) depth 20,
  (
    linked_send item.the_row item_send,
    (
      search (sendable, crosses) depth 20,
      (search (sendable, crosses) depth 20, (search (sendable, crosses, text_send) depth 20, (linked_send item.the_row item_send, tt))),
    ),
  ),
)

pub outbox_send : IsSend outbox.the_row
outbox_send = record { owned = λ d vs x. (outbox_inside_send.owned x.0 vs, tt); leaving = λ k d w. tt }
