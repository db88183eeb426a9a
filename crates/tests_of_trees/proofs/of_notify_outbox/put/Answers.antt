use Rattle.std.proofs.Common.{◌≡◌, ℕ, ◌≤◌, List, [], ◌∷◌, ◌++◌, sym, ap, subst, arith}
use Rattle.notify_outbox.specs.Items.{item_under, next_number}
use Rattle.notify_outbox.specs.Outbox.{OutboxData}
use Rattle.notify_outbox.specs.declared.item.Item.{Item}
use Rattle.notify_outbox.proofs.OrderLemmas.{each_append, each_weaker, Each}
use Rattle.tests_of_trees.proofs.of_notify_outbox.put.Goals as goal

later : (last since : ℕ) → last ≤ since → (items : List Item) → Each (λ (i : Item). i.since ≤ last) items → Each (λ (i : Item). i.since ≤ since) items
later last since le items h = each_weaker (λ (i : Item). i.since ≤ last) (λ (i : Item). i.since ≤ since) (λ i before. more i.since before) items h
  where
    more : (n : ℕ) → n ≤ last → n ≤ since
    more n before = omega arith

pub append-requires-clause-order : goal.append-requires-clause-order
append-requires-clause-order c = subst (Each (λ (i : Item). i.since ≤ c.args.since)) (sym c.reserve.ensures.items) (later c.args.last c.args.since c.requires.order c.args.outbox.now.items c.requires.items)

pub returns : goal.returns
returns c =
    let before = subst (Each (λ (i : Item). i.since ≤ c.args.since)) (sym c.reserve.ensures.items) (later c.args.last c.args.since c.requires.order c.args.outbox.now.items c.requires.items) in
    let here : c.args.since ≤ c.args.since = omega arith in
    subst (λ (o : OutboxData). Each (λ (i : Item). i.since ≤ c.args.since) o.items) (sym c.append.ensures)
    (each_append (λ (i : Item). i.since ≤ c.args.since) c.reserve.new.self.items (item_under (next_number c.reserve.new.self.count) c.args.since c.in_ok-item.item ∷ []) before (here, tt))
