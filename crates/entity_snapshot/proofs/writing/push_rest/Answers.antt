use Rattle.std.proofs.Common.{rules, ◌≡◌, ℕ, ◌<◌, List, [], ◌∷◌, length, Some, None, refl, sym, ap, ◌∙◌, subst, arith}
use Rattle.std.specs.List.{find}
use Rattle.notify_outbox.specs.Items.{is_item}
use Rattle.notify_outbox.specs.Outbox.{OutboxData, taken, without_first}
use Rattle.notify_outbox.specs.declared.item.Item.{Item}
use Rattle.entity_lines.specs.Items.{SpellsItem, item_lines}
use Rattle.entity_soundness.specs.Laws.{AreNumbered}
use Rattle.entity_snapshot.proofs.WrittenLemmas.{HasNumbered, HasPushed, number_more, number_none, one_kept, push_all, push_more, push_none}
use Rattle.entity_snapshot.proofs.writing.push_rest.Goals as goal

-- the first is taken
taken_first : (items : List Item) (x : Item) → Some x ≡ find is_item items → items ≡ x ∷ without_first is_item items
taken_first [] x e = absurd (none_some x (sym e))
  where
    none_some : (y : Item) → None ≡ Some y → ⊥
    none_some y e = cc
taken_first (y ∷ items) x e = (let same : x ≡ y = cc in ap (λ (z : Item). z ∷ items) (sym same))

taken_none : (items : List Item) → None ≡ find is_item items → items ≡ []
taken_none [] e = refl
taken_none (y ∷ items) e = absurd (none_some y e)
  where
    none_some : (y : Item) → None ≡ Some y → ⊥
    none_some y e = cc

pub items-init : goal.items-init
items-init c = record {
  pushed = push_none item_lines SpellsItem c.args.rest.items c.args.text.now.items;
  numbered = number_none c.args.rest.items c.args.most;
}

pub items-preserved-in_ok-push_next : goal.items-preserved-in_ok-push_next
items-preserved-in_ok-push_next c =
    let x = c.in-Some.item in
    let all = c.args.rest.items in
    let start = c.args.text.now.items in
    let left = c.take_item.new.self.items in
    let rest : left ≡ without_first is_item c.items.rest.items = ap (λ (o : OutboxData). o.items) c.take_item.ensures.rest in
    let first : c.items.rest.items ≡ x ∷ left = taken_first c.items.rest.items x c.in-Some.ensures.item ∙ ap (λ (l : List Item). x ∷ l) (sym rest) in
    record {
      pushed = push_more item_lines SpellsItem all left start c.items.text.items c.push_next.new.text.items x
          (subst (λ (l : List Item). HasPushed item_lines SpellsItem all l start c.items.text.items) first c.items.invariant.pushed)
          c.in_ok-push_next.ensures.written c.in_ok-push_next.ensures.spells;
      numbered = number_more all left x c.items.number c.args.most
          (subst (λ (l : List Item). HasNumbered all l c.items.number c.args.most) first c.items.invariant.numbered)
          c.in_ok-push_next.ensures.above c.in_ok-push_next.ensures.within;
    }

pub items-preserved : goal.items-preserved
items-preserved c =
    let x = c.in-Some.item in
    let all = c.args.rest.items in
    let start = c.args.text.now.items in
    let left = c.take_item.new.self.items in
    let rest : left ≡ without_first is_item c.items.rest.items = ap (λ (o : OutboxData). o.items) c.take_item.ensures.rest in
    let first : c.items.rest.items ≡ x ∷ left = taken_first c.items.rest.items x c.in-Some.ensures.item ∙ ap (λ (l : List Item). x ∷ l) (sym rest) in
    record {
      pushed = push_more item_lines SpellsItem all left start c.items.text.items c.push_next.new.text.items x
          (subst (λ (l : List Item). HasPushed item_lines SpellsItem all l start c.items.text.items) first c.items.invariant.pushed)
          c.in_ok-push_next.ensures.written c.in_ok-push_next.ensures.spells;
      numbered = number_more all left x c.items.number c.args.most
          (subst (λ (l : List Item). HasNumbered all l c.items.number c.args.most) first c.items.invariant.numbered)
          c.in_ok-push_next.ensures.above c.in_ok-push_next.ensures.within;
    }

pub items-smaller-in_ok-push_next : goal.items-smaller-in_ok-push_next
items-smaller-in_ok-push_next c =
    let x = c.in-Some.item in
    let left = c.take_item.new.self.items in
    let rest : left ≡ without_first is_item c.items.rest.items = ap (λ (o : OutboxData). o.items) c.take_item.ensures.rest in
    let first : c.items.rest.items ≡ x ∷ left = taken_first c.items.rest.items x c.in-Some.ensures.item ∙ ap (λ (l : List Item). x ∷ l) (sym rest) in
    omega (arith, ap length first)

pub items-smaller : goal.items-smaller
items-smaller c =
    let x = c.in-Some.item in
    let left = c.take_item.new.self.items in
    let rest : left ≡ without_first is_item c.items.rest.items = ap (λ (o : OutboxData). o.items) c.take_item.ensures.rest in
    let first : c.items.rest.items ≡ x ∷ left = taken_first c.items.rest.items x c.in-Some.ensures.item ∙ ap (λ (l : List Item). x ∷ l) (sym rest) in
    omega (arith, ap length first)

pub returns-in_err-push_next-clause-unkept : goal.returns-in_err-push_next-clause-unkept
returns-in_err-push_next-clause-unkept c = λ fault numbered kept.
    let x = c.in-Some.item in
    let all = c.args.rest.items in
    let start = c.args.text.now.items in
    let left = c.take_item.new.self.items in
    let rest : left ≡ without_first is_item c.items.rest.items = ap (λ (o : OutboxData). o.items) c.take_item.ensures.rest in
    let first : c.items.rest.items ≡ x ∷ left = taken_first c.items.rest.items x c.in-Some.ensures.item ∙ ap (λ (l : List Item). x ∷ l) (sym rest) in
    let pushed = subst (λ (l : List Item). HasPushed item_lines SpellsItem all l start c.items.text.items) first c.items.invariant.pushed in
    let here = (subst (λ (l : List Item). HasNumbered all l c.items.number c.args.most) first c.items.invariant.numbered).rest numbered in
    c.in_err-push_next.ensures.unkept (search rules) here.0 here.1 (one_kept all pushed.done left x pushed.split kept)

pub returns-clause-written : goal.returns-clause-written
returns-clause-written c =
    let none = taken_none c.items.rest.items c.in_default.ensures.item in
    (push_all item_lines SpellsItem c.args.rest.items c.args.text.now.items c.items.text.items (subst (λ (l : List Item). HasPushed item_lines SpellsItem c.args.rest.items l c.args.text.now.items c.items.text.items) none c.items.invariant.pushed)).0

pub returns-clause-spells : goal.returns-clause-spells
returns-clause-spells c =
    let none = taken_none c.items.rest.items c.in_default.ensures.item in
    (push_all item_lines SpellsItem c.args.rest.items c.args.text.now.items c.items.text.items (subst (λ (l : List Item). HasPushed item_lines SpellsItem c.args.rest.items l c.args.text.now.items c.items.text.items) none c.items.invariant.pushed)).1

pub returns-clause-numbered : goal.returns-clause-numbered
returns-clause-numbered c =
    let none = taken_none c.items.rest.items c.in_default.ensures.item in
    (subst (λ (l : List Item). HasNumbered c.args.rest.items l c.items.number c.args.most) none c.items.invariant.numbered).whole tt
