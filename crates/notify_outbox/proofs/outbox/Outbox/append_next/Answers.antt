use Rattle.std.proofs.Common.{◌≡◌, ℕ, ◌+◌, ◌++◌, ◌<◌, ◌≤◌, List, [], ◌∷◌, length, refl, sym, ap, ◌∙◌, subst, arith}
use Rattle.std.proofs.lemmas.List.{append-nil}
use Rattle.m2m_value.specs.Shapes.{largest_count}
use Rattle.primitive_json.specs.declared.note.NoteParts.{NoteParts}
use Rattle.notify_outbox.specs.Items.{item_channel, item_under, next_number, request_id, under_id}
use Rattle.notify_outbox.specs.Outbox.{OutboxData, appended}
use Rattle.notify_outbox.specs.Queues.{AreIds, AreKept, in_order, joined}
use Rattle.notify_outbox.specs.declared.item.Item.{Item}
use Rattle.notify_outbox.proofs.KeptLemmas.{appended_view, kept_put, put_last, put_longer, puts_as}
use Rattle.notify_outbox.proofs.LateLemmas.{before_all, late_empty, late_none}
use Rattle.notify_outbox.proofs.OrderLemmas.{Each}
use Rattle.notify_outbox.proofs.StockLemmas.{ids_first}
use Rattle.notify_outbox.proofs.outbox.Outbox.append_next.Goals as goal

pub next_id-id-requires : goal.next_id-id-requires
next_id-id-requires c =
    let rooms : length c.self.inside.nodes ≡ c.args.self.now.room = ap (λ (o : OutboxData). o.room) c.self.view_is in
    let some = c.requires.room in
    let enough = c.self.invariant.2 in
    omega arith

pub under_id-known-requires : goal.under_id-known-requires
under_id-known-requires c = (ids_first c.self.inside.count c.self.inside.ids.items c.next_id-id.new.ids.items c.next_id-id.result c.next_id-id.ensures c.self.invariant.1).1

pub node_of-node-requires : goal.node_of-node-requires
node_of-node-requires c =
    let rooms : length c.self.inside.nodes ≡ c.args.self.now.room = ap (λ (o : OutboxData). o.room) c.self.view_is in
    let some = c.requires.room in
    omega arith

pub put-requires-clause-room : goal.put-requires-clause-room
put-requires-clause-room c =
    let rooms : length c.self.inside.nodes ≡ c.args.self.now.room = ap (λ (o : OutboxData). o.room) c.self.view_is in
    let some = c.requires.room in
    let places = c.self.invariant.4 in
    omega arith

pub put-requires-clause-short : goal.put-requires-clause-short
put-requires-clause-short c =
    let few = c.self.invariant.0.few in
    let top = c.self.invariant.5 in
    let one : length c.node_of-node.result ≡ 1 = ap length c.node_of-node.ensures.node in
    omega arith

pub invariant_of-self : goal.invariant_of-self
invariant_of-self c =
    let item : Item = record { number = c.self.inside.count + 1; since = c.args.since; note = c.under_id-known.result } in
    let at = c.note_channel-channel.ensures ∙ sym (ap (λ (n : NoteParts). item_channel (record { number = c.self.inside.count + 1; since = c.args.since; note = n })) c.under_id-known.ensures) in
    let puts = puts_as c.self.inside.queues.items c.put.new.queues.items c.note_channel-channel.result c.node_of-node.result item at c.node_of-node.ensures.node c.put.ensures.put in
    let all = subst (λ (o : OutboxData). Each (λ (i : Item). i.since ≤ c.args.since) o.items) (sym c.self.view_is) c.requires.order in
    let before = (before_all c.args.since (in_order (joined c.self.inside.queues.items)) c.self.inside.late _ refl all).0 in
    let ids = ids_first c.self.inside.count c.self.inside.ids.items c.next_id-id.new.ids.items c.next_id-id.result c.next_id-id.ensures c.self.invariant.1 in
    let long : length c.self.inside.ids.items ≡ length (c.next_id-id.result ∷ c.next_id-id.new.ids.items) = ap length c.next_id-id.ensures in
    let rest = c.node_of-node.ensures.rest in
    let enough = c.self.invariant.2 in
    let most = c.self.invariant.3 in
    let places = c.self.invariant.4 in
    let room = c.put.ensures.room in
    let many = c.put.ensures.many in
    let longer = put_longer c.self.inside.queues.items c.put.new.queues.items (item_channel item) item puts in
    let count : c.self.inside.count ≡ c.args.self.now.count = ap (λ (o : OutboxData). o.count) c.self.view_is in
    let more : c.self.inside.count < largest_count = omega (arith, count, c.requires.more) in
    let next : next_number c.self.inside.count ≡ c.self.inside.count + 1 = omega (arith, more) in (
      subst (λ (n : ℕ). AreKept c.put.new.queues.items (c.self.inside.count + 1) n) (sym c.least_of-oldest.ensures) (kept_put c.self.inside.queues.items c.put.new.queues.items c.self.inside.count c.self.inside.oldest item (omega arith) c.self.invariant.0 puts before),
      subst (λ (n : ℕ). AreIds n c.next_id-id.new.ids.items) next ids.2,
      omega (arith, long, rest, enough),
      omega (arith, longer, rest, most),
      omega (arith, places, room, many, rest),
      omega (arith, more),
      late_none c.self.inside.late (c.self.inside.count + 1) c.least_of-oldest.result (late_empty c.self.inside.late c.self.inside.count c.self.inside.oldest c.self.invariant.6 more),
    )

pub returns : goal.returns
returns c =
    let item : Item = record { number = c.self.inside.count + 1; since = c.args.since; note = c.under_id-known.result } in
    let at = c.note_channel-channel.ensures ∙ sym (ap (λ (n : NoteParts). item_channel (record { number = c.self.inside.count + 1; since = c.args.since; note = n })) c.under_id-known.ensures) in
    let puts = puts_as c.self.inside.queues.items c.put.new.queues.items c.note_channel-channel.result c.node_of-node.result item at c.node_of-node.ensures.node c.put.ensures.put in
    let ids = ids_first c.self.inside.count c.self.inside.ids.items c.next_id-id.new.ids.items c.next_id-id.result c.next_id-id.ensures c.self.invariant.1 in
    let count : c.self.inside.count ≡ c.args.self.now.count = ap (λ (o : OutboxData). o.count) c.self.view_is in
    let more : c.self.inside.count < largest_count = omega (arith, count, c.requires.more) in
    let next : c.self.inside.count + 1 ≡ next_number c.self.inside.count = omega (arith, more) in
    let known : item ≡ item_under (c.self.inside.count + 1) c.args.since c.args.note =
    ap (λ (n : NoteParts). record { number = c.self.inside.count + 1; since = c.args.since; note = n })
    (c.under_id-known.ensures ∙ ap (λ (id : List ℕ). under_id id c.args.note) (ids.0 ∙ ap request_id (sym next))) in
    let none = late_empty c.self.inside.late c.self.inside.count c.self.inside.oldest c.self.invariant.6 more in
    let queues = in_order (joined c.self.inside.queues.items) in
    let last : in_order (joined c.put.new.queues.items) ++ c.self.inside.late ≡ (queues ++ c.self.inside.late) ++ item ∷ [] =
    ap (λ (l : List Item). in_order (joined c.put.new.queues.items) ++ l) none ∙ append-nil (in_order (joined c.put.new.queues.items))
    ∙ put_last c.self.inside.queues.items c.put.new.queues.items c.self.inside.count c.self.inside.oldest item (omega arith) c.self.invariant.0 puts
    ∙ ap (λ (l : List Item). l ++ item ∷ []) (sym (ap (λ (l : List Item). queues ++ l) none ∙ append-nil queues)) in
    appended_view (queues ++ c.self.inside.late) (in_order (joined c.put.new.queues.items) ++ c.self.inside.late) c.self.inside.count (length c.self.inside.nodes) (length c.node_of-node.new.nodes) c.args.since c.args.note item last known next c.node_of-node.ensures.rest
    ∙ ap (appended c.args.note c.args.since) c.self.view_is
