use Rattle.std.proofs.Common.{◌≡◌, ℕ, ◌+◌, ◌++◌, ◌≤◌, List, [], ◌∷◌, length, refl, sym, ap, ◌∙◌, subst, arith, min}
use Rattle.std.proofs.lemmas.List.{append_assoc}
use Rattle.std.proofs.Common.{length-append}
use Rattle.m2m_value.specs.Shapes.{largest_count}
use Rattle.primitive_json.specs.declared.note.NoteParts.{NoteParts}
use Rattle.notify_outbox.specs.Items.{item_under, next_number, request_id, under_id}
use Rattle.notify_outbox.specs.Outbox.{OutboxData, appended}
use Rattle.notify_outbox.specs.Queues.{AreIds, AreKept, AreLate, in_order, joined}
use Rattle.notify_outbox.specs.declared.item.Item.{Item}
use Rattle.notify_outbox.proofs.KeptLemmas.{kept_lower}
use Rattle.notify_outbox.proofs.LateLemmas.{appended_last, before_all, late_put}
use Rattle.notify_outbox.proofs.OrderLemmas.{Each}
use Rattle.notify_outbox.proofs.StockLemmas.{ids_first}
use Rattle.notify_outbox.proofs.outbox.Outbox.append_late.Goals as goal

pub next_id-id-requires : goal.next_id-id-requires
next_id-id-requires c =
    let rooms : length c.self.inside.nodes ≡ c.args.self.now.room = ap (λ (o : OutboxData). o.room) c.self.view_is in
    let some = c.requires.room in
    let enough = c.self.invariant.2 in
    omega arith

pub under_id-known-requires : goal.under_id-known-requires
under_id-known-requires c = (ids_first c.self.inside.count c.self.inside.ids.items c.next_id-id.new.ids.items c.next_id-id.result c.next_id-id.ensures c.self.invariant.1).1

pub node_of-node-requires : goal.node_of-node-requires
node_of-node-requires c =
    let rooms : length c.self.inside.nodes ≡ c.args.self.now.room = ap (λ (o : OutboxData). o.room) c.self.view_is in
    let some = c.requires.room in
    omega arith

pub join_items-requires : goal.join_items-requires
join_items-requires c =
    let rooms : length c.self.inside.nodes ≡ c.args.self.now.room = ap (λ (o : OutboxData). o.room) c.self.view_is in
    let some = c.requires.room in
    let most = c.self.invariant.3 in
    let one : length c.node_of-node.result ≡ 1 = ap length c.node_of-node.ensures.node in
    omega arith

pub invariant_of-self : goal.invariant_of-self
invariant_of-self c =
    let item : Item = record { number = largest_count; since = c.args.since; note = c.under_id-known.result } in
    let all = subst (λ (o : OutboxData). Each (λ (i : Item). i.since ≤ c.args.since) o.items) (sym c.self.view_is) c.requires.order in
    let before = (before_all c.args.since (in_order (joined c.self.inside.queues.items)) c.self.inside.late _ refl all).1 in
    let ids = ids_first c.self.inside.count c.self.inside.ids.items c.next_id-id.new.ids.items c.next_id-id.result c.next_id-id.ensures c.self.invariant.1 in
    let long : length c.self.inside.ids.items ≡ length (c.next_id-id.result ∷ c.next_id-id.new.ids.items) = ap length c.next_id-id.ensures in
    let rest = c.node_of-node.ensures.rest in
    let enough = c.self.invariant.2 in
    let most = c.self.invariant.3 in
    let places = c.self.invariant.4 in
    let count : c.self.inside.count ≡ c.args.self.now.count = ap (λ (o : OutboxData). o.count) c.self.view_is in
    let full : c.self.inside.count ≡ largest_count = count ∙ c.requires.full in
    let stays : next_number c.self.inside.count ≡ c.self.inside.count = omega (arith, full) in
    let late : c.join_items.new.items ≡ c.self.inside.late ++ item ∷ [] = c.join_items.ensures ∙ ap (λ (l : List Item). c.self.inside.late ++ l) c.node_of-node.ensures.node in
    let longer : length c.join_items.new.items ≡ length c.self.inside.late + length (item ∷ []) = ap length late ∙ length-append c.self.inside.late (item ∷ []) in (
      subst (λ (n : ℕ). AreKept c.self.inside.queues.items c.self.inside.count n) (sym c.least_of-oldest.ensures) (kept_lower c.self.inside.queues.items c.self.inside.count c.self.inside.oldest c.args.since c.self.invariant.0),
      subst (λ (n : ℕ). AreIds n c.next_id-id.new.ids.items) stays ids.2,
      omega (arith, long, rest, enough),
      omega (arith, longer, rest, most),
      omega (arith, places, rest),
      c.self.invariant.5,
      subst (λ (n : ℕ). AreLate c.join_items.new.items c.self.inside.count n) (sym c.least_of-oldest.ensures)
          (subst (λ (l : List Item). AreLate l c.self.inside.count (min c.self.inside.oldest c.args.since)) (sym late)
          (late_put c.self.inside.late c.self.inside.count c.self.inside.oldest item full before c.self.invariant.6)),
    )

pub returns : goal.returns
returns c =
    let item : Item = record { number = largest_count; since = c.args.since; note = c.under_id-known.result } in
    let ids = ids_first c.self.inside.count c.self.inside.ids.items c.next_id-id.new.ids.items c.next_id-id.result c.next_id-id.ensures c.self.invariant.1 in
    let count : c.self.inside.count ≡ c.args.self.now.count = ap (λ (o : OutboxData). o.count) c.self.view_is in
    let full : c.self.inside.count ≡ largest_count = count ∙ c.requires.full in
    let next : next_number c.self.inside.count ≡ largest_count = omega (arith, full) in
    let known : item ≡ item_under largest_count c.args.since c.args.note =
    ap (λ (n : NoteParts). record { number = largest_count; since = c.args.since; note = n })
    (c.under_id-known.ensures ∙ ap (λ (id : List ℕ). under_id id c.args.note) (ids.0 ∙ ap request_id next)) in
    let queues = in_order (joined c.self.inside.queues.items) in
    let last : queues ++ c.join_items.new.items ≡ (queues ++ c.self.inside.late) ++ item ∷ [] =
    ap (λ (l : List Item). queues ++ l) (c.join_items.ensures ∙ ap (λ (l : List Item). c.self.inside.late ++ l) c.node_of-node.ensures.node)
    ∙ sym (append_assoc queues c.self.inside.late (item ∷ [])) in
    appended_last (queues ++ c.self.inside.late) (queues ++ c.join_items.new.items) c.self.inside.count (length c.self.inside.nodes) (length c.node_of-node.new.nodes) c.args.since c.args.note item last known full next c.node_of-node.ensures.rest
    ∙ ap (appended c.args.note c.args.since) c.self.view_is
