use Rattle.std.proofs.Common.{rules, ◌≡◌, ◌++◌, List, sym, ap, ◌∙◌, subst}
use Rattle.std.specs.List.{AllByRecursion, flat_map}
use Rattle.notify_outbox.specs.Outbox.{OutboxData}
use Rattle.notify_outbox.specs.declared.item.Item.{Item}
use Rattle.entity_lines.specs.Items.{CanBeKept, SpellsItem, item_lines}
use Rattle.entity_soundness.specs.Laws.{AreNumbered}
use Rattle.entity_snapshot.specs.Snapshots.{SpellsEach}
use Rattle.entity_snapshot.proofs.writing.push_items.Goals as goal

pub returns-clause-written : goal.returns-clause-written
returns-clause-written c =
    let items : c.in_ok-rest.rest.items ≡ c.args.outbox.now.items = ap (λ (o : OutboxData). o.items) c.in_ok-rest.ensures in
    c.in_ok-push_rest.ensures.written ∙ ap (λ (is : List Item). c.args.text.now.items ++ flat_map item_lines is) items

pub returns-clause-spells : goal.returns-clause-spells
returns-clause-spells c =
    let items : c.in_ok-rest.rest.items ≡ c.args.outbox.now.items = ap (λ (o : OutboxData). o.items) c.in_ok-rest.ensures in
    subst (λ (is : List Item). SpellsEach SpellsItem is (flat_map item_lines is)) items c.in_ok-push_rest.ensures.spells

pub returns-clause-numbered : goal.returns-clause-numbered
returns-clause-numbered c =
    let items : c.in_ok-rest.rest.items ≡ c.args.outbox.now.items = ap (λ (o : OutboxData). o.items) c.in_ok-rest.ensures in
    subst (λ n. AreNumbered 0 n c.args.outbox.now.items) c.count.ensures.value (subst (λ (is : List Item). AreNumbered 0 c.count.result is) items c.in_ok-push_rest.ensures.numbered)

pub returns-in_err-push_rest-clause-unkept : goal.returns-in_err-push_rest-clause-unkept
returns-in_err-push_rest-clause-unkept c = λ fault numbered kept.
    let items : c.in_ok-rest.rest.items ≡ c.args.outbox.now.items = ap (λ (o : OutboxData). o.items) c.in_ok-rest.ensures in
    c.in_err-push_rest.ensures.unkept (search rules)
    (subst (λ n. AreNumbered 0 n c.in_ok-rest.rest.items) (sym c.count.ensures.value) (subst (λ (is : List Item). AreNumbered 0 c.args.outbox.now.count is) (sym items) numbered))
    (subst (AllByRecursion CanBeKept) (sym items) kept)
