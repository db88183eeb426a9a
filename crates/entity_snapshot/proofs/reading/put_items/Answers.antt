use Rattle.std.proofs.Common.{◌≡◌, ◌-◌, ℕ, List, length, take, drop, sym, ap, subst, arith}
use Rattle.std.proofs.lemmas.List.{take_rest}
use Rattle.notify_outbox.specs.Outbox.{OutboxData}
use Rattle.notify_outbox.specs.declared.item.Item.{Item}
use Rattle.entity_lines.proofs.WrittenLemmas.{said_of_none}
use Rattle.entity_snapshot.proofs.ItemsLemmas.{put_back_more, put_back_none, put_back_read, put_back_stops, put_back_there}
use Rattle.entity_snapshot.proofs.reading.put_items.Goals as goal
use Rattle.entity_snapshot.specs.Reading.{FollowsNone, ReadsItems}

pub loop-done-init : goal.loop-done-init
loop-done-init c = put_back_none c.args.text.now c.args.from c.args.most c.args.last c.args.outbox.now c.requires.within c.requires.none c.requires.count

pub put_back_first-requires-clause-count : goal.put_back_first-requires-clause-count
put_back_first-requires-clause-count c = c.loop-done.invariant.number

pub put_back_first-requires-clause-order : goal.put_back_first-requires-clause-order
put_back_first-requires-clause-order c = c.loop-done.invariant.order

pub returns-in_default-clause-fault : goal.returns-in_default-clause-fault
returns-in_default-clause-fault c =
    let there : List ℕ = take (length c.args.text.now - c.loop-done.at) (drop c.loop-done.at c.args.text.now) in
    let none = subst (λ (l : List ℕ). FollowsNone l c.args.most c.args.last c.loop-done.behind) (take_rest c.args.text.now c.loop-done.at) (said_of_none c.in_ok-found.found (FollowsNone there c.args.most c.args.last c.loop-done.behind) c.in_default.not-Some c.in_ok-found.ensures.none) in (
      c.loop-done.at,
      put_back_stops c.args.text.now c.args.from c.loop-done.done c.loop-done.at c.args.most c.args.last c.loop-done.behind c.loop-done.outbox c.loop-done.invariant c.args.count c.loop-done-test.true none,
      c.line_number.ensures,
    )

pub loop-done-preserved : goal.loop-done-preserved
loop-done-preserved c =
    let after = c.put_back_first.new.outbox in
    let puts = put_back_there c.args.text.now c.loop-done.at c.args.most c.args.last c.loop-done.behind c.in_ok-found.found c.in-Some.next c.in-Some.len c.loop-done.outbox after c.in-Some.is c.in_ok-found.ensures.put in
    put_back_more c.args.text.now c.args.from c.loop-done.done c.loop-done.at c.args.most c.args.last c.loop-done.behind c.loop-done.outbox c.loop-done.invariant c.in-Some.len c.in-Some.next after puts

pub returns-clause-read : goal.returns-clause-read
returns-clause-read c =
    let text = c.args.text.now in
    let all : c.loop-done.done ≡ c.args.count = omega (arith, c.loop-done-test.false) in
    let read = put_back_read text c.args.from c.loop-done.done c.loop-done.at c.args.most c.args.last c.loop-done.behind c.loop-done.outbox c.loop-done.invariant in
    subst (λ (is : List Item). ReadsItems text c.args.from c.args.count c.loop-done.at c.args.most c.args.last is) (sym (ap (λ (o : OutboxData). o.items) c.count_up_to.ensures))
    (subst (λ n. ReadsItems text c.args.from n c.loop-done.at c.args.most c.args.last c.loop-done.outbox.items) all read)
