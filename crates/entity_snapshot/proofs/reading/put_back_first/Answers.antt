use Rattle.std.proofs.Common.{◌≡◌, ℕ, ◌≤◌, Option, Some, IfSome, sym, ◌∙◌, subst, arith}
use Rattle.notify_outbox.specs.declared.item.Item.{Item}
use Rattle.notify_outbox.proofs.OrderLemmas.{each_weaker}
use Rattle.entity_lines.specs.Items.{first_item}
use Rattle.entity_soundness.proofs.FollowLemmas.{follow_parts}
use Rattle.entity_snapshot.proofs.ItemsLemmas.{no_item, none_follows}
use Rattle.entity_snapshot.proofs.reading.put_back_first.Goals as goal

no_later : (a b c : ℕ) → a ≤ b → b ≤ c → a ≤ c
no_later a b c x y = omega (arith, x, y)

pub returns-in_default-clause-none : goal.returns-in_default-clause-none
returns-in_default-clause-none c = λ item read sound. absurd (no_item c.in_ok-found.found item c.in_default.not-Some (c.in_ok-found.ensures.only item read sound))

pub returns-then-not-follows-clause-none : goal.returns-then-not-follows-clause-none
returns-then-not-follows-clause-none c =
    let text = c.args.text.now in
    let found : first_item text ≡ Some c.in-Some.item = subst (λ (o : Option (Item × ℕ)). IfSome o (λ (f : Item × ℕ). first_item text ≡ Some f.0)) c.in-Some.is c.in_ok-found.ensures.found in
    none_follows text c.args.most c.args.last c.args.behind c.in-Some.item found (sym c.follows.ensures ∙ c.if-not-follows.true)

pub put_back-requires-clause-number : goal.put_back-requires-clause-number
put_back-requires-clause-number c =
    let fits = follow_parts c.args.last c.args.most c.args.behind.number c.args.behind.since c.in-Some.item (sym c.follows.ensures ∙ c.if-not-follows.false) in
    omega (arith, fits.above, c.requires.count)

pub put_back-requires-clause-top : goal.put_back-requires-clause-top
put_back-requires-clause-top c =
    let fits = follow_parts c.args.last c.args.most c.args.behind.number c.args.behind.since c.in-Some.item (sym c.follows.ensures ∙ c.if-not-follows.false) in
    omega (arith, fits.within, c.requires.most)

pub put_back-requires-clause-order : goal.put_back-requires-clause-order
put_back-requires-clause-order c =
    let fits = follow_parts c.args.last c.args.most c.args.behind.number c.args.behind.since c.in-Some.item (sym c.follows.ensures ∙ c.if-not-follows.false) in
    each_weaker (λ (i : Item). i.since ≤ c.args.behind.since) (λ (i : Item). i.since ≤ c.in-Some.item.since) (λ i le. no_later i.since c.args.behind.since c.in-Some.item.since le fits.later) c.args.outbox.now.items c.requires.order
