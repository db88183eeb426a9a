use Rattle.std.proofs.Common.{◌≡◌, [], ◌∷◌, ◌++◌, Ok, ◌≤◌, sym, ap, subst, ◌∙◌, arith}
use Rattle.std.proofs.lemmas.Grind.{common_steps}
use Rattle.std.specs.BTreeMap.{insert_entry}
use Rattle.std.specs.Vec.Iter.{into_iter_items}
use Rattle.json.specs.Tree.{items_depth, members_depth}
use Rattle.json.specs.Value.{value_view, items_view as items_read, members_view as members_read}
use Rattle.serde_json.specs.Read.{of_items}
use Rattle.m2m_value.specs.Data.{elements_of}
use Rattle.m2m_value.specs.Reading.{elements_if}
use Rattle.m2m_value.proofs.Answering.{after_kept, onto-none}
use Rattle.m2m_value.proofs.Lookup.{compared}
use Rattle.m2m_value.specs.Node.{HaveTextKeys}
use Rattle.m2m_value.proofs.Parses.{GoOn, none_yet, item_taken, member_taken, all_taken, below_items, below_members}
use Rattle.m2m_value.proofs.parsing.+taken.Goals as goal

pub items_taken-loop-item-preserved : goal.items_taken-loop-item-preserved
items_taken-loop-item-preserved t c =
    let l = c.loop-item in
    let rest = into_iter_items c.next.new.self in
    let step : into_iter_items l.item-iterator ≡ c.in-Some.item ∷ rest = grind (arith, common_steps) in
    let v = c.in_ok-taken.field-0 in
    let pushed : c.push.new.self.items ≡ l.values.items ++ v ∷ [] = grind (arith, common_steps) in
    let left = subst (λ vs. items_depth (items_read vs) ≤ items_depth (items_read c.args.items.items)) step l.invariant.1 in (
      l.invariant.0 ∙ ap (λ vs. after_kept l.values.items (elements_if (of_items (items_read vs)))) step
          ∙ item_taken l.values.items c.push.new.self.items (value_view c.in-Some.item) (items_read rest) v c.in_ok-taken.ensures pushed,
      (below_items (value_view c.in-Some.item) (items_read rest) _ left).1,
    )

pub items_taken-returns : goal.items_taken-returns
items_taken-returns t c =
    let l = c.loop-item in
    let none : into_iter_items l.item-iterator ≡ [] = grind (arith, common_steps) in
    l.invariant.0 ∙ ap (λ vs. after_kept l.values.items (elements_if (of_items (items_read vs)))) none ∙ ap Ok (onto-none l.values.items ∙ ap elements_of (sym c.of.ensures))

pub members_taken-loop-member-init : goal.members_taken-loop-member-init
members_taken-loop-member-init t c =
    let all = members_read c.args.members.items in
    let step : into_iter_items c.into_iter-member-iterator.result ≡ c.args.members.items = grind (arith, common_steps) in
    let none = sym c.in_ok-found.ensures in (
      subst (λ ms. GoOn all (members_read ms) c.in_ok-found.found) (sym step) (subst (GoOn all all) none (none_yet all)),
      subst HaveTextKeys none tt,
      subst (λ ms. members_depth (members_read ms) ≤ members_depth all) (sym step) (omega arith),
    )

pub members_taken-loop-member-preserved : goal.members_taken-loop-member-preserved
members_taken-loop-member-preserved t c =
    let l = c.loop-member in
    let rest = into_iter_items c.next.new.self in
    let step : into_iter_items l.member-iterator ≡ c.in-Some.member ∷ rest = grind (arith, common_steps) in
    let m = c.in-Some.member in
    let all = members_read c.args.members.items in
    let taken = c.in_ok-key in
    let put : c.put_taken.new.found ≡ insert_entry compared l.found m.0.now taken.value =
    c.in_ok-put_taken.ensures.put ∙ ap (λ k. insert_entry compared l.found k taken.value) taken.ensures.key in
    let left = subst (λ ms. members_depth (members_read ms) ≤ members_depth all) step l.invariant.2 in (
      subst (GoOn all (members_read rest)) (sym put)
          (member_taken all m.0.now (value_view m.1) (members_read rest) l.found taken.value taken.ensures.value (subst (λ ms. GoOn all (members_read ms) l.found) step l.invariant.0)),
      c.in_ok-put_taken.ensures.texts l.invariant.1 taken.ensures.utf8,
      (below_members m.0.now (value_view m.1) (members_read rest) _ left).1,
    )

pub members_taken-returns-clause-value : goal.members_taken-returns-clause-value
members_taken-returns-clause-value t c =
    let l = c.loop-member in
    let none : into_iter_items l.member-iterator ≡ [] = grind (arith, common_steps) in
    all_taken (members_read c.args.members.items) l.found (subst (λ ms. GoOn (members_read c.args.members.items) (members_read ms) l.found) none l.invariant.0)
